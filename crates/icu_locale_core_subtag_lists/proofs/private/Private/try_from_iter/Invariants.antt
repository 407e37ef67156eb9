use Rattle.icu_locale_core_subtag_lists.specs.Reading.{IsReadingList}
use Rattle.icu_locale_core_subtag_lists.proofs.private.Private.try_from_iter.Given as goal

abbrev pub invariant-loop-piece : goal.invariant-loop-piece
invariant-loop-piece l = IsReadingList l.fn.iter l.piece-iterator l.private
