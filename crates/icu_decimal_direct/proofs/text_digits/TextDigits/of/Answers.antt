use Rattle.std.proofs.Common.{◌≡◌, ◌≤◌, ◌∷◌, arith, rules, subst, sym}
use Rattle.std.specs.Char.{digit_value}
use Rattle.icu_decimal_direct.proofs.FewLemmas.{few_rest}
use Rattle.icu_decimal_direct.proofs.text_digits.TextDigits.of.Goals as goal

pub returns-in-Some-clause-some : goal.returns-in-Some-clause-some
returns-in-Some-clause-some c =
    let is : c.args.text.now ≡ c.in-Some.first.now ∷ c.in-Some.rest.now = search rules in
    let other : 10 ≤ digit_value c.in-Some.first.now = subst (λ x. 10 ≤ digit_value x) (sym c.if-first-eq45.true) (omega arith) in
    λ w. c.digits_of.ensures.some w.integer w.fraction (few_rest c.args.text.now c.in-Some.rest.now c.in-Some.first.now is other w) w.digits

pub returns-in-Some-2-clause-some : goal.returns-in-Some-2-clause-some
returns-in-Some-2-clause-some c =
    let is : c.args.text.now ≡ c.in-Some.first.now ∷ c.in-Some.rest.now = search rules in
    let other : 10 ≤ digit_value c.in-Some.first.now = subst (λ x. 10 ≤ digit_value x) (sym c.if-first-eq43.true) (omega arith) in
    λ w. c.digits_of-in-Some-2.ensures.some w.integer w.fraction (few_rest c.args.text.now c.in-Some.rest.now c.in-Some.first.now is other w) w.digits
