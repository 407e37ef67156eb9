use Rattle.std.proofs.Common.{◌≡◌, ◌+◌, ◌∙◌, ap, subst, sym, w32}
use Rattle.std.proofs.lemmas.Bool.{eqb-false, eqb-true, false≢true}
use Rattle.std.proofs.lemmas.Int.{to_z-of_z}
use Rattle.fixed_decimal.specs.Number.{Number}
use Rattle.fixed_decimal.specs.Range.{IsHighest}
use Rattle.fixed_decimal.specs.SignedValue.{SignedValue}
use Rattle.icu_decimal_scientific.specs.ShownNumbers.{exponent_sign}
use Rattle.icu_decimal_scientific.proofs.ShownExponentLemmas.{no_other, other_highest, other_sign, shown_so}
use Rattle.icu_decimal_scientific.proofs.exponent_reader.is_shown_so.Goals as goal

pub returns-then-not-is_same_sign-clause-otherwise : goal.returns-then-not-is_same_sign-clause-otherwise
returns-then-not-is_same_sign-clause-otherwise c = λ _.
    let sign : c.exponent.inside.sign ≡ c.args.exponent.now.sign = ap (λ (v : SignedValue Number). v.sign) c.exponent.view_is in
    let shown : c.sign_shown.result ≡ exponent_sign c.args.options.sign c.args.value = c.sign_shown.ensures ∙ ap (exponent_sign c.args.options.sign) (to_z-of_z w32 c.args.value c.ranges.value) in
    no_other c.args.options c.args.value c.args.exponent.now c.requires.value
    (other_sign c.args.options c.args.value c.args.exponent.now (λ same. false≢true (sym c.if-not-is_same_sign.true ∙ c.is_same_sign.ensures.1 (sign ∙ same ∙ sym shown))))

pub returns-clause-so : goal.returns-clause-so
returns-clause-so c = λ test.
    let sign : c.exponent.inside.sign ≡ c.args.exponent.now.sign = ap (λ (v : SignedValue Number). v.sign) c.exponent.view_is in
    let absolute : c.exponent.inside.absolute ≡ c.args.exponent.now.absolute = ap (λ (v : SignedValue Number). v.absolute) c.exponent.view_is in
    let shown : c.sign_shown.result ≡ exponent_sign c.args.options.sign c.args.value = c.sign_shown.ensures ∙ ap (exponent_sign c.args.options.sign) (to_z-of_z w32 c.args.value c.ranges.value) in
    shown_so c.args.options c.args.value c.args.exponent.now c.highest_shown.result c.requires.value c.requires.whole
    (sym sign ∙ c.is_same_sign.ensures.0 c.if-not-is_same_sign.false ∙ shown)
    (subst (λ (n : Number). IsHighest 32768 (32768 + c.args.options.least_digits) n.count c.highest_shown.result) absolute c.highest_shown.ensures)
    (sym (ap (λ (n : Number). n.high) absolute) ∙ sym c.high_place.ensures.value ∙ eqb-true c.high_place.result c.highest_shown.result test)

pub returns-clause-otherwise : goal.returns-clause-otherwise
returns-clause-otherwise c = λ test.
    let absolute : c.exponent.inside.absolute ≡ c.args.exponent.now.absolute = ap (λ (v : SignedValue Number). v.absolute) c.exponent.view_is in
    no_other c.args.options c.args.value c.args.exponent.now c.requires.value
    (other_highest c.args.options c.args.value c.args.exponent.now c.highest_shown.result
    (subst (λ (n : Number). IsHighest 32768 (32768 + c.args.options.least_digits) n.count c.highest_shown.result) absolute c.highest_shown.ensures)
    (λ same. eqb-false c.high_place.result c.highest_shown.result test (c.high_place.ensures.value ∙ ap (λ (n : Number). n.high) absolute ∙ same)))
