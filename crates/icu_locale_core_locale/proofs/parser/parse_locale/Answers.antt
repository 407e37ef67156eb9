use Rattle.std.proofs.Common.{sym, inr, ◌++◌, ap, ◌∙◌, subst}
use Rattle.icu_locale_core_grammar.specs.FaultyPiece.{HasFault}
use Rattle.icu_locale_core_grammar.specs.Meaning.{MeansTag}
use Rattle.icu_locale_core_grammar.specs.Pieces.{pieces}
use Rattle.icu_locale_core_grammar.specs.TagStages.{tag_after, tag_start}
use Rattle.icu_locale_core_grammar.proofs.CallerLemmas.{tag_refused, tag_cut, none_left}
use Rattle.icu_locale_core_grammar.proofs.TagReader.{tag_reader}
use Rattle.icu_locale_core_keywords_fields.proofs.ReadingLemmas.{reading_goes_on, reading_meant}
use Rattle.icu_locale_core_locale.specs.StageView.{stage_view}
use Rattle.icu_locale_core_locale.proofs.FewLemmas.{reached_few}
use Rattle.icu_locale_core_langid.proofs.AllocationLemmas.{no_growth, no_growth_at_end}
use Rattle.icu_locale_core_locale.specs.Allocation.{tag_grows_at, tag_keeps}
use Rattle.icu_locale_core_locale.proofs.FaultLemmas.{never_memory}
use Rattle.icu_locale_core_locale.proofs.parser.parse_locale.Goals as goal

pub loop-piece-preserved : goal.loop-piece-preserved
loop-piece-preserved c =
    reading_goes_on _ _ _ _ _ _ _ _ c.in-Some.ensures.steps c.loop-piece.invariant (rw c.in-Ok-Goes.field-0-is at c.in-Ok-Goes.ensures.step)

pub returns-in-Ok-Stops-clause-fault : goal.returns-in-Ok-Stops-clause-fault
returns-in-Ok-Stops-clause-fault c =
    let so_far = c.loop-piece.invariant in
    let stops = rw c.in-Ok-Stops.field-0-is at c.in-Ok-Stops.ensures.step in
    inr (subst (HasFault MeansTag (pieces c.args.code_units.now)) (sym stops.1)
    (tag_refused (pieces c.args.code_units.now) so_far.taken _ (stage_view c.loop-piece.stage) c.in-Some.piece.now (so_far.parts ∙ ap (λ l. so_far.taken ++ l) c.in-Some.ensures.steps) so_far.reached stops.0))

pub returns-in-Ok-Stops-clause-room : goal.returns-in-Ok-Stops-clause-room
returns-in-Ok-Stops-clause-room c = λ none.
    let so_far = c.loop-piece.invariant in
    let stops = rw c.in-Ok-Stops.field-0-is at c.in-Ok-Stops.ensures.step in
    never_memory (pieces c.args.code_units.now) _
    (subst (HasFault MeansTag (pieces c.args.code_units.now)) (sym stops.1)
    (tag_refused (pieces c.args.code_units.now) so_far.taken _ (stage_view c.loop-piece.stage) c.in-Some.piece.now (so_far.parts ∙ ap (λ l. so_far.taken ++ l) c.in-Some.ensures.steps) so_far.reached stops.0))

pub returns-in-Err-clause-room : goal.returns-in-Err-clause-room
returns-in-Err-clause-room c = λ none memory.
    let so_far = c.loop-piece.invariant in
    let failed =
    c.in-Err.ensures.room
    (no_growth tag_after tag_grows_at tag_keeps tag_start (stage_view c.loop-piece.stage) (pieces c.args.code_units.now) so_far.taken _ c.next.new.self c.in-Some.piece.now so_far.parts c.in-Some.ensures.steps so_far.reached none)
    (reached_few so_far.taken (stage_view c.loop-piece.stage) so_far.reached) in
    cc

pub returns-in-Ok-Goes-finished-clause-value : goal.returns-in-Ok-Goes-finished-clause-value
returns-in-Ok-Goes-finished-clause-value c =
    let ended = rw c.in-Ok-Goes-finished.field-0-is at c.in-Ok-Goes-finished.ensures.ends in
    reading_meant tag_reader _ _ _ _ c.in-None.ensures.steps.0 c.loop-piece.invariant ended

pub returns-in-Ok-Stops-finished-clause-fault : goal.returns-in-Ok-Stops-finished-clause-fault
returns-in-Ok-Stops-finished-clause-fault c =
    let so_far = c.loop-piece.invariant in
    let stops = rw c.in-Ok-Stops-finished.field-0-is at c.in-Ok-Stops-finished.ensures.ends in
    inr (subst (HasFault MeansTag (pieces c.args.code_units.now)) (sym stops.1)
    (tag_cut (pieces c.args.code_units.now) so_far.taken (stage_view c.loop-piece.stage) (none_left _ _ (so_far.parts ∙ ap (λ l. so_far.taken ++ l) c.in-None.ensures.steps.0)) so_far.reached stops.0))

pub returns-in-Err-finished-clause-room : goal.returns-in-Err-finished-clause-room
returns-in-Err-finished-clause-room c = λ none memory.
    let so_far = c.loop-piece.invariant in
    let failed =
    c.in-Err-finished.ensures.room
    (no_growth_at_end tag_after tag_grows_at tag_keeps tag_start (stage_view c.loop-piece.stage) (pieces c.args.code_units.now) so_far.taken _ so_far.parts c.in-None.ensures.steps.0 so_far.reached none) in
    cc
