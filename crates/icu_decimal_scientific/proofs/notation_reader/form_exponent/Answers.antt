use Rattle.std.proofs.Common.{ℤ, of_z, to_z, w32}
use Rattle.icu_decimal_scientific.proofs.NotationLemmas.{form_exponent_is, no_exponent, no_product, not_normal, not_shown}
use Rattle.icu_decimal_scientific.proofs.notation_reader.form_exponent.Goals as goal

pub returns-in_default-clause-none : goal.returns-in_default-clause-none
returns-in_default-clause-none c = no_exponent c.args.notation c.args.options c.args.significand.now c.args.shown.now c.in_default.ensures.none

pub returns-then-not-is_shown_so-clause-none : goal.returns-then-not-is_shown_so-clause-none
returns-then-not-is_shown_so-clause-none c =
    not_shown c.args.notation c.args.options c.args.significand.now c.args.shown.now (c.is_shown_so.ensures.otherwise c.if-not-is_shown_so.true)

pub returns-then-not-is_normal-clause-none : goal.returns-then-not-is_normal-clause-none
returns-then-not-is_normal-clause-none c =
    let e : ℤ = to_z w32 (of_z w32 c.in-Some.value) in
    not_normal c.args.notation c.args.options c.args.significand.now c.args.shown.now e (c.is_shown_so.ensures.so c.if-not-is_shown_so.false) (c.is_normal.ensures.other c.if-not-is_normal.true)

pub returns-then-not-is_decimal-clause-none : goal.returns-then-not-is_decimal-clause-none
returns-then-not-is_decimal-clause-none c =
    let e : ℤ = to_z w32 (of_z w32 c.in-Some.value) in
    no_product c.args.notation c.args.options c.args.significand.now c.args.shown.now e (c.is_shown_so.ensures.so c.if-not-is_shown_so.false) (c.is_decimal.ensures.none c.if-not-is_decimal.true)

pub returns-clause-some : goal.returns-clause-some
returns-clause-some c =
    form_exponent_is c.args.notation c.args.options c.args.significand.now c.args.shown.now (to_z w32 (of_z w32 c.in-Some.value)) (c.is_shown_so.ensures.so c.if-not-is_shown_so.false)
    (c.is_normal.ensures.normal c.if-not-is_normal.false) (c.is_decimal.ensures.has c.if-not-is_decimal.false)
