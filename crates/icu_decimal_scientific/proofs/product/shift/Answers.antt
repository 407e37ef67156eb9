use Rattle.std.proofs.Common.{◌≡◌, ◌<◌, ◌∙◌, ap, arith, min, subst, w32}
use Rattle.std.proofs.lemmas.Int.{to_z-of_z}
use Rattle.fixed_decimal.specs.Shifts.{fall, rise}
use Rattle.icu_decimal_scientific.proofs.FormLemmas.{one_way}
use Rattle.icu_decimal_scientific.proofs.ProductLemmas.{made_down, made_up, room_of, whole_by}
use Rattle.icu_decimal_scientific.proofs.product.shift.Goals as goal

pub lower_shown-requires : goal.lower_shown-requires
lower_shown-requires c =
    let at : c.fall_of-by.result ≡ fall c.args.exponent = c.fall_of-by.ensures ∙ ap fall (to_z-of_z w32 c.args.exponent c.ranges.exponent) in
    whole_by c.args.exponent c.args.number.now c.min.result c.requires (one_way c.args.exponent (subst (λ k. 0 < k) at c.if-by-gt0.true)) (c.min.ensures ∙ ap (λ k. min k 65535) at)

pub returns-then-by-gt0 : goal.returns-then-by-gt0
returns-then-by-gt0 c =
    let at : c.fall_of-by.result ≡ fall c.args.exponent = c.fall_of-by.ensures ∙ ap fall (to_z-of_z w32 c.args.exponent c.ranges.exponent) in
    made_down c.args.exponent c.args.number.now c.lower_shown.new.number c.min.result c.magnitude_range-number.ensures.number c.requires
    (one_way c.args.exponent (subst (λ k. 0 < k) at c.if-by-gt0.true)) (c.min.ensures ∙ ap (λ k. min k 65535) at) c.lower_shown.ensures

pub raise-requires : goal.raise-requires
raise-requires c =
    let none : fall c.args.exponent ≡ 0 = let at : c.fall_of-by.result ≡ fall c.args.exponent = c.fall_of-by.ensures ∙ ap fall (to_z-of_z w32 c.args.exponent c.ranges.exponent) in let under = c.if-by-gt0.false in omega (arith, at, under) in
    let at : c.rise_of.result ≡ rise c.args.exponent = c.rise_of.ensures ∙ ap rise (to_z-of_z w32 c.args.exponent c.ranges.exponent) in
    let room = room_of c.args.exponent c.args.number.now c.requires none in
    omega (arith, at, room)

pub returns : goal.returns
returns c =
    let none : fall c.args.exponent ≡ 0 = let at : c.fall_of-by.result ≡ fall c.args.exponent = c.fall_of-by.ensures ∙ ap fall (to_z-of_z w32 c.args.exponent c.ranges.exponent) in let under = c.if-by-gt0.false in omega (arith, at, under) in
    let at : c.rise_of.result ≡ rise c.args.exponent = c.rise_of.ensures ∙ ap rise (to_z-of_z w32 c.args.exponent c.ranges.exponent) in
    made_up c.args.exponent c.args.number.now c.raise.new.number c.rise_of.result c.magnitude_range-number.ensures.number none at c.raise.ensures
