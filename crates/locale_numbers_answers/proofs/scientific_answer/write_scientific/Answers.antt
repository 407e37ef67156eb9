use Rattle.std.proofs.Common.{◌≡◌, true, rules}
use Rattle.std.specs.Prelude.{string_bytes, string_capacity}
use Rattle.locale_numbers_formatter.specs.HeldScientific.{scientific_held}
use Rattle.locale_numbers_answers.proofs.AnswerLineLemmas.{on_ok_by}
use Rattle.locale_numbers_answers.proofs.ValueLemmas.{scientific_fits, scientific_is_put}
use Rattle.locale_numbers_answers.proofs.scientific_answer.write_scientific.Goals as goal

pub returns-clause-text : goal.returns-clause-text
returns-clause-text c =
    let can : c.can_show.result ≡ true = search rules in
    on_ok_by c.write_shown-answered.result
    (scientific_is_put c.scientific_is_layered.ensures.text c.scientific_is_layered.ensures.value (scientific_held c.args.formatter.now) c.args.value.now _
    (c.can_show.ensures.0 can) (λ i. record { significand = c.in_ok-exponent.ensures.significand i; exponent = c.in_ok-exponent.ensures.exponent i })
    (string_bytes c.args.out.now) _)
    c.write_shown-answered.ensures.text

pub returns-clause-room : goal.returns-clause-room
returns-clause-room c = λ room never.
    let can : c.can_show.result ≡ true = search rules in
    c.write_shown-answered.ensures.room
    (scientific_fits c.scientific_is_layered.ensures.text c.scientific_is_layered.ensures.value (scientific_held c.args.formatter.now) c.args.value.now _
    (c.can_show.ensures.0 can) (λ i. record { significand = c.in_ok-exponent.ensures.significand i; exponent = c.in_ok-exponent.ensures.exponent i })
    (string_bytes c.args.out.now) (string_capacity c.args.out.now) room)
