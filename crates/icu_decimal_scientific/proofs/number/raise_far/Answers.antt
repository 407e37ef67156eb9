use Rattle.std.proofs.Common.{◌/◌, ◌*◌, ◌^◌, ◌∙◌, ap, arith}
use Rattle.icu_decimal_scientific.proofs.DivisionLemmas.{first_high, second_high, two_steps}
use Rattle.icu_decimal_scientific.proofs.number.raise_far.Goals as goal

pub raise-requires : goal.raise-requires
raise-requires c =
    let high = first_high c.args.number.now.count c.trim_start.new.self.high c.args.by c.requires.few c.trim_start.ensures.high in
    let few = c.requires.by in
    omega (arith, high, few)

pub raise-requires-2 : goal.raise-requires-2
raise-requires-2 c =
    let high = second_high c.args.number.now.count c.raise.new.number.count c.trim_start-2.new.self.high (c.args.by / 2) c.args.by c.requires.few (omega arith)
    (c.raise.ensures.count ∙ ap (λ k. k * 10 ^ (c.args.by / 2)) c.trim_start.ensures.count) c.trim_start-2.ensures.high in
    let few = c.requires.by in
    omega (arith, high, few)

pub returns : goal.returns
returns c =
    two_steps c.args.number.now.count c.trim_start-2.new.self.count c.raise-2.new.number.count (c.args.by / 2) c.args.by
    (c.trim_start-2.ensures.count ∙ c.raise.ensures.count ∙ ap (λ k. k * 10 ^ (c.args.by / 2)) c.trim_start.ensures.count) c.raise-2.ensures.count (omega arith)
