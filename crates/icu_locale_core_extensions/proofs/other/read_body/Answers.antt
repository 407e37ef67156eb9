use Rattle.std.proofs.Common.{◌≡◌, true, false, [], sym, refl, ◌∙◌, inr}
use Rattle.icu_locale_core_grammar.specs.Subtags.{is_other_piece}
use Rattle.icu_locale_core_grammar.specs.TagStages.{other_after}
use Rattle.icu_locale_core_grammar.proofs.BodyReaders.{other_reader}
use Rattle.icu_locale_core_keywords_fields.proofs.ReadingLemmas.{reading_goes_on, reading_meant, reading_refused}
use Rattle.icu_locale_core_langid.proofs.AllocationLemmas.{no_growth}
use Rattle.icu_locale_core_extensions.proofs.AllocationLemmas.{no_other_growth}
use Rattle.icu_locale_core_extensions.proofs.other.read_body.Goals as goal

pub loop-piece-preserved : goal.loop-piece-preserved
loop-piece-preserved c =
    let taken = rw c.in-Ok-Taken.field-0-is at c.in-Ok-Taken.ensures.step in
    let kept = rw c.in-Ok-Taken.field-0-is at c.in-Ok-Taken.ensures.singleton in
    (reading_goes_on _ _ _ _ _ _ _ _ c.in-Some.ensures.steps c.loop-piece.invariant.0 taken, c.loop-piece.invariant.1 ∙ sym kept)

pub returns-in-Ok-Refused-clause-fault : goal.returns-in-Ok-Refused-clause-fault
returns-in-Ok-Refused-clause-fault c =
    let refused = rw c.in-Ok-Refused.field-0-is at c.in-Ok-Refused.ensures.step in
    inr (refl, reading_refused other_reader _ _ _ _ _ c.in-Some.ensures.steps c.loop-piece.invariant.0 refused.0)

pub returns-clause-value : goal.returns-clause-value
returns-clause-value c = (c.loop-piece.invariant.1, reading_meant other_reader _ _ _ _ c.in-None.ensures.steps.0 c.loop-piece.invariant.0 refl)

pub returns-in-Err-clause-room : goal.returns-in-Err-clause-room
returns-in-Err-clause-room c = λ none wanted.
    let so_far = c.loop-piece.invariant.0 in
    let taken : false ≡ true =
    c.in-Err.ensures.room
    (no_growth other_after (λ own p. is_other_piece p) (λ own. false) [] _ c.args.body so_far.taken _ _ c.in-Some.piece.now so_far.parts c.in-Some.ensures.steps so_far.reached
    (no_other_growth c.args.body none)) in
    cc
