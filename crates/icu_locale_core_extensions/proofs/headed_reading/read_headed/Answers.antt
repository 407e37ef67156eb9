use Rattle.std.proofs.Common.{◌≡◌, true, false, [], ◌∷◌, refl, rules, inr}
use Rattle.icu_locale_core_grammar.specs.Pieces.{pieces}
use Rattle.icu_locale_core_grammar.specs.Stepping.{InHead, headed_after, headed_ends}
use Rattle.icu_locale_core_keywords_fields.specs.HeadedView.{ends_anywhere}
use Rattle.icu_locale_core_keywords_fields.specs.Allocation.{grows_at, keeps_last}
use Rattle.icu_locale_core_keywords_fields.proofs.ReadingLemmas.{reading_begins}
use Rattle.icu_locale_core_extensions.specs.HeadedReading.{EndsAs}
use Rattle.icu_locale_core_extensions.proofs.HeadedLemmas.{after_goes_on, after_read, after_refused, after_cut, next_grows_not, end_grows_not}
use Rattle.icu_locale_core_extensions.proofs.OpeningLemmas.{opened}
use Rattle.icu_locale_core_extensions.proofs.headed_reading.read_headed.Goals as goal

pub returns-in_default-clause-fault : goal.returns-in_default-clause-fault
returns-in_default-clause-fault g c =
    let after = headed_after g.R.HeadReader.step ends_anywhere g.K.SubtagRule.accepts g.K.EntryKind.needs in
    inr (refl, λ m r. let o = opened (c.args.letter ∷ []) (EndsAs after (InHead c.args.begun) (headed_ends ends_anywhere)) (pieces c.args.code_units.now) m r in c.in_default.ensures o.0 o.1)

pub loop-piece-init : goal.loop-piece-init
loop-piece-init g c = record { body = c.in-Some.body; opens = c.in-Some.ensures; reading = reading_begins _ _ _ _ _ (search rules) refl }

pub loop-piece-preserved : goal.loop-piece-preserved
loop-piece-preserved g c =
    after_goes_on _ _ _ _ _ _ _ _ _ c.in-Some-piece.ensures.steps c.loop-piece.invariant (rw c.in-Ok-Taken.field-0-is at c.in-Ok-Taken.ensures.step)

pub returns-in-Ok-Refused-clause-fault : goal.returns-in-Ok-Refused-clause-fault
returns-in-Ok-Refused-clause-fault g c =
    let refused = rw c.in-Ok-Refused.field-0-is at c.in-Ok-Refused.ensures.step in
    inr (refl, after_refused _ _ _ (headed_ends ends_anywhere) _ _ _ _ _ c.in-Some-piece.ensures.steps c.loop-piece.invariant refused.0)

pub returns-in-Ok-Some-clause-value : goal.returns-in-Ok-Some-clause-value
returns-in-Ok-Some-clause-value g c =
    let ended = rw c.in-Ok-Some.field-0-is at c.in-Ok-Some.ensures.value in
    after_read _ _ _ (headed_ends ends_anywhere) _ _ _ _ c.in-None.ensures.steps.0 c.loop-piece.invariant ended

pub returns-in-Ok-None-clause-fault : goal.returns-in-Ok-None-clause-fault
returns-in-Ok-None-clause-fault g c =
    let ended = rw c.in-Ok-None.field-0-is at c.in-Ok-None.ensures.value in
    inr (refl, after_cut _ _ _ (headed_ends ends_anywhere) _ _ _ c.in-None.ensures.steps.0 c.loop-piece.invariant ended)

pub returns-in-Err-clause-room : goal.returns-in-Err-clause-room
returns-in-Err-clause-room g c = λ none wanted.
    let grows = grows_at g.R.HeadReader.grows g.K.SubtagRule.accepts in
    let taken : false ≡ true = c.in-Err.ensures.room (next_grows_not _ _ _ _ grows keeps_last _ _ _ _ c.in-Some-piece.ensures.steps c.loop-piece.invariant none) in
    cc

pub returns-in-Err-headed_finish-clause-room : goal.returns-in-Err-headed_finish-clause-room
returns-in-Err-headed_finish-clause-room g c = λ none wanted.
    let grows = grows_at g.R.HeadReader.grows g.K.SubtagRule.accepts in
    let ended : false ≡ true = c.in-Err-headed_finish.ensures.room (end_grows_not _ _ _ _ grows keeps_last _ _ c.in-None.ensures.steps.0 c.loop-piece.invariant none) in
    cc
