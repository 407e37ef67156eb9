use Rattle.std.proofs.Common.{◌≡◌, true, false, inr, refl, ◌∙◌}
use Rattle.icu_locale_core_grammar.proofs.PartReaders.{value_reader}
use Rattle.icu_locale_core_keywords_fields.proofs.AllocationLemmas.{no_piece_kept}
use Rattle.icu_locale_core_keywords_fields.proofs.ReadingLemmas.{reading_begins, reading_goes_on, reading_meant, reading_refused, listed_filled}
use Rattle.icu_locale_core_keywords_fields.proofs.value.ValueOf.try_from_utf8.Goals as goal

pub loop-piece-init : goal.loop-piece-init
loop-piece-init g c =
    reading_begins _ _ _ _ _ (listed_filled _ _ _ c.is_empty.ensures c.if-is_empty.false (c.into_iter-piece-iterator.ensures.into_iter_gives ∙ c.new-piece-items.ensures)) c.new_empty-value.ensures

pub loop-piece-preserved : goal.loop-piece-preserved
loop-piece-preserved g c =
    reading_goes_on _ _ _ _ _ _ _ _ c.in-Some.ensures.steps c.loop-piece.invariant (rw c.in-Ok-true.field-0-test at c.in-Ok-true.ensures.taken)

pub returns-in-Ok-false-clause-fault : goal.returns-in-Ok-false-clause-fault
returns-in-Ok-false-clause-fault g c =
    let taken = rw c.in-Ok-false.field-0-test at c.in-Ok-false.ensures.taken in
    inr (refl, reading_refused value_reader _ _ _ _ _ c.in-Some.ensures.steps c.loop-piece.invariant taken.0)

pub returns-clause-value : goal.returns-clause-value
returns-clause-value g c = reading_meant value_reader _ _ _ _ c.in-None.ensures.steps.0 c.loop-piece.invariant refl

pub returns-in-Err-clause-room : goal.returns-in-Err-clause-room
returns-in-Err-clause-room g c = λ none wanted.
    let taken : false ≡ true = c.in-Err.ensures.room (no_piece_kept c.args.code_units.now _ _ _ _ c.in-Some.ensures.steps c.loop-piece.invariant none) in
    cc
