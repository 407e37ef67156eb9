use Rattle.std.proofs.Common.{◌≡◌, ◌%◌, ◌^◌, ◌<◌, ◌∙◌, ap, arith, subst, sym, w32}
use Rattle.std.proofs.lemmas.Bool.{leb-true}
use Rattle.std.proofs.lemmas.Int.{to_z-of_z}
use Rattle.fixed_decimal.specs.Shifts.{fall, rise}
use Rattle.icu_decimal_scientific.proofs.FormLemmas.{one_way}
use Rattle.icu_decimal_scientific.proofs.ProductLemmas.{product_down, product_up, whole_of}
use Rattle.icu_decimal_scientific.proofs.product.is_decimal.Goals as goal

pub returns-then-by-gt0-clause-has : goal.returns-then-by-gt0-clause-has
returns-then-by-gt0-clause-has c = λ test.
    let at : c.fall_of-by.result ≡ fall c.args.exponent = c.fall_of-by.ensures ∙ ap fall (to_z-of_z w32 c.args.exponent c.ranges.exponent) in
    product_down c.args.exponent c.args.number.now c.magnitude_range-number.ensures.number (one_way c.args.exponent (subst (λ k. 0 < k) at c.if-by-gt0.true))
    (subst (λ k. c.args.number.now.count % 10 ^ k ≡ 0) at (c.is_whole_at.ensures.whole test))

pub returns-then-by-gt0-clause-none : goal.returns-then-by-gt0-clause-none
returns-then-by-gt0-clause-none c = λ test. λ product.
    let at : c.fall_of-by.result ≡ fall c.args.exponent = c.fall_of-by.ensures ∙ ap fall (to_z-of_z w32 c.args.exponent c.ranges.exponent) in
    c.is_whole_at.ensures.part test
    (subst (λ k. c.args.number.now.count % 10 ^ k ≡ 0) (sym at) (whole_of c.args.exponent c.args.number.now product (one_way c.args.exponent (subst (λ k. 0 < k) at c.if-by-gt0.true))))

pub returns-clause-has : goal.returns-clause-has
returns-clause-has c = λ test.
    let none : fall c.args.exponent ≡ 0 = let at : c.fall_of-by.result ≡ fall c.args.exponent = c.fall_of-by.ensures ∙ ap fall (to_z-of_z w32 c.args.exponent c.ranges.exponent) in let under = c.if-by-gt0.false in omega (arith, at, under) in
    let at : c.rise_of.result ≡ rise c.args.exponent = c.rise_of.ensures ∙ ap rise (to_z-of_z w32 c.args.exponent c.ranges.exponent) in
    let under = leb-true c.rise_of.result c.room_above.result test in
    let room = c.room_above.ensures in
    product_up c.args.exponent c.args.number.now c.magnitude_range-number.ensures.number none (omega (arith, at, under, room))
