use Rattle.std.proofs.Common.{◌≡◌, ◌+◌, ◌-◌, ◌∙◌, ap, arith, to_z, of_z}
use Rattle.std.proofs.lemmas.Int.{to_z-of_z}
use Rattle.std.specs.Int.{w16}
use Rattle.fixed_decimal_unsigned.specs.Number.{place}
use Rattle.fixed_decimal_unsigned.proofs.NonzeroLemmas.{end_of_none, end_of_some}
use Rattle.fixed_decimal_unsigned.proofs.unsigned_decimal.UnsignedDecimal.nonzero_magnitude_end.Goals as goal

pub returns-clause-zero : goal.returns-clause-zero
returns-clause-zero c =
    let i = c.self.inside in
    end_of_none i.digits.items i.top i.low i.high c.self.invariant c.args.self.now c.self.view_is (to_z w16 (of_z w16 c.magnitude_of.result)) (grind (arith, c.if-is_empty.ensures))

pub returns-clause-value : goal.returns-clause-value
returns-clause-value c = λ _.
    let i = c.self.inside in let r = to_z w16 (of_z w16 c.magnitude_of.result) in
    let at : place r ≡ i.top + 1 - c.len.result = grind (arith, to_z-of_z, c.magnitude_of.ensures) in
    end_of_some i.digits.items i.top i.low i.high c.self.invariant c.args.self.now c.self.view_is r (grind (arith, c.if-is_empty.ensures)) (at ∙ ap (λ n. i.top + 1 - n) c.len.ensures.value)
