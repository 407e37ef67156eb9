use Rattle.std.proofs.Common.{◌≡◌, true, false, inr, refl, sym, ap}
use Rattle.icu_locale_core_grammar.specs.PartReaders.{entries_of}
use Rattle.icu_locale_core_grammar.proofs.PartReaders.{entries_reader}
use Rattle.icu_locale_core_keywords_fields.proofs.ReadingLemmas.{reading_goes_on, reading_meant, reading_refused, reading_cut}
use Rattle.icu_locale_core_keywords_fields.proofs.AllocationLemmas.{no_growth, none_kept}
use Rattle.icu_locale_core_keywords_fields.proofs.entries.EntriesOf.try_from_utf8.Goals as goal

pub loop-piece-preserved : goal.loop-piece-preserved
loop-piece-preserved g c =
    reading_goes_on _ _ _ _ _ _ _ _ c.in-Some.ensures.steps c.loop-piece.invariant (rw c.in-Ok-Taken.field-0-is at c.in-Ok-Taken.ensures.step)

pub returns-in-Ok-Refused-clause-fault : goal.returns-in-Ok-Refused-clause-fault
returns-in-Ok-Refused-clause-fault g c =
    let right = entries_reader g.K.SubtagRule.accepts g.K.EntryKind.needs g.met.K.EntryKind.keys.no_value in
    let refused = rw c.in-Ok-Refused.field-0-is at c.in-Ok-Refused.ensures.step in
    inr (refl, reading_refused right _ _ _ _ _ c.in-Some.ensures.steps c.loop-piece.invariant refused.0)

pub returns-in-Ok-Some-clause-value : goal.returns-in-Ok-Some-clause-value
returns-in-Ok-Some-clause-value g c =
    let right = entries_reader g.K.SubtagRule.accepts g.K.EntryKind.needs g.met.K.EntryKind.keys.no_value in
    let ended = rw c.in-Ok-Some.field-0-is at c.in-Ok-Some.ensures.value in
    reading_meant right _ _ _ _ c.in-None.ensures.steps.0 c.loop-piece.invariant (ap entries_of (sym ended))

pub returns-in-Ok-None-clause-fault : goal.returns-in-Ok-None-clause-fault
returns-in-Ok-None-clause-fault g c =
    let right = entries_reader g.K.SubtagRule.accepts g.K.EntryKind.needs g.met.K.EntryKind.keys.no_value in
    let ended = rw c.in-Ok-None.field-0-is at c.in-Ok-None.ensures.value in
    inr (refl, reading_cut right _ _ _ c.in-None.ensures.steps.0 c.loop-piece.invariant (ap entries_of (sym ended)))

pub returns-in-Err-clause-room : goal.returns-in-Err-clause-room
returns-in-Err-clause-room g c = λ none wanted.
    let taken : false ≡ true = c.in-Err.ensures.room (no_growth g.K.SubtagRule.accepts g.K.EntryKind.needs g.met.K.EntryKind.keys.no_value c.args.code_units.now _ _ _ _ c.in-Some.ensures.steps c.loop-piece.invariant none) in
    cc

pub returns-in-Err-headed_finish-clause-room : goal.returns-in-Err-headed_finish-clause-room
returns-in-Err-headed_finish-clause-room g c = λ none wanted.
    let ended : false ≡ true = c.in-Err-headed_finish.ensures.room (none_kept g.K.SubtagRule.accepts g.K.EntryKind.needs g.met.K.EntryKind.keys.no_value c.args.code_units.now _ _ c.in-None.ensures.steps.0 c.loop-piece.invariant none) in
    cc
