use Rattle.std.proofs.Common.{◌≡◌, true, ◌&&◌, sym, ap, ◌∙◌}
use Rattle.icu_locale_core_grammar.specs.Subtags.{is_singleton}
use Rattle.icu_locale_core_extensions.specs.Allocation.{body_keeps}
use Rattle.icu_locale_core_extensions.specs.BodyView.{body_key, body_view}
use Rattle.icu_locale_core_locale.specs.StageView.{singletons}
use Rattle.icu_locale_core_locale.proofs.StageLemmas.{ended_goes_on, longer_refused, longer_invalid}
use Rattle.icu_locale_core_locale.proofs.parser.stage.after_ended.Goals as goal

pub returns-in-Some-clause-step : goal.returns-in-Some-clause-step
returns-in-Some-clause-step c = λ none.
    ended_goes_on c.args.id (singletons c.args.seen) (singletons c.end_body.new.seen) c.args.extensions.blocks c.end_body.new.extensions.blocks
    (body_key c.args.body) (body_view c.args.body) c.args.piece.now _ none (c.in-Ok-true.ensures.ended cc) c.in-Some.ensures

pub returns-then-not-is_one_character-clause-step : goal.returns-then-not-is_one_character-clause-step
returns-then-not-is_one_character-clause-step c = λ none.
    let longer = sym c.is_one_character.ensures ∙ c.if-not-is_one_character.true in (
      longer_refused c.args.id (singletons c.args.seen) c.args.extensions.blocks (body_key c.args.body) (body_view c.args.body) c.args.piece.now none longer,
      longer_invalid c.args.id (singletons c.args.seen) c.args.extensions.blocks (body_key c.args.body) (body_view c.args.body) c.args.piece.now longer,
    )

pub returns-in-Err-clause-room : goal.returns-in-Err-clause-room
returns-in-Err-clause-room c = λ none few.
    let one : is_singleton c.args.piece.now ≡ true = sym c.is_one_character.ensures ∙ c.if-not-is_one_character.false in
    let failed = c.in-Err.ensures.room (sym (ap (λ s. s && body_keeps (body_view c.args.body)) one) ∙ none) few in
    cc
