use Rattle.std.proofs.Common.{◌≡◌, ◌∙◌, ◌*◌, ◌%◌, ◌^◌, ◌<◌, ap, subst, sym, w32}
use Rattle.std.proofs.lemmas.Int.{to_z-of_z}
use Rattle.fixed_decimal.specs.Shifts.{fall, rise}
use Rattle.icu_decimal_scientific.specs.Steps.{CanRaise}
use Rattle.icu_decimal_scientific.proofs.DivisionLemmas.{significand_made}
use Rattle.icu_decimal_scientific.proofs.number.take_significand.Goals as goal

pub divide-requires-clause-few : goal.divide-requires-clause-few
divide-requires-clause-few c =
    subst (λ z. 0 < fall z → CanRaise c.trim_end.new.self.count (fall z)) (sym (to_z-of_z w32 c.args.exponent c.ranges.exponent))
    (λ falls. subst (λ k. CanRaise k (fall c.args.exponent)) (sym c.trim_end.ensures.count) (c.requires.few falls))

pub divide-requires-clause-whole : goal.divide-requires-clause-whole
divide-requires-clause-whole c =
    subst (λ z. c.trim_end.new.self.count % 10 ^ rise z ≡ 0) (sym (to_z-of_z w32 c.args.exponent c.ranges.exponent))
    (ap (λ k. k % 10 ^ rise c.args.exponent) c.trim_end.ensures.count ∙ c.requires.whole)

pub returns : goal.returns
returns c =
    significand_made c.args.number.now c.trim_end.new.self c.divide.new.number c.trim_end-2.new.self c.trim_start.new.self c.args.exponent c.trim_end.ensures
    (subst (λ z. c.divide.new.number.count * 10 ^ rise z ≡ c.trim_end.new.self.count * 10 ^ fall z) (to_z-of_z w32 c.args.exponent c.ranges.exponent) c.divide.ensures)
    c.trim_end-2.ensures c.trim_start.ensures
