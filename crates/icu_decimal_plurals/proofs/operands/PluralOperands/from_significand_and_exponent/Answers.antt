use Rattle.std.proofs.Common.{rules, ◌≡◌, ◌-◌, ◌∙◌, min, arith}
use Rattle.icu_decimal_plurals.specs.Operands.{part_of}
use Rattle.icu_decimal_plurals.proofs.OperandsLemmas.{operands_are}
use Rattle.icu_decimal_plurals.proofs.operands.PluralOperands.from_significand_and_exponent.Goals as goal

pub returns : goal.returns
returns c =
    let n = c.args.significand.now in
    let moved = c.args.exponent in
    let places = c.fraction_len.result in
    let v = c.min-v.result in
    let v_is : v ≡ min (places - moved) 18 = search rules in
    let i_is : c.part_of-i.result ≡ part_of n.count (32768 - moved) 18 = search rules in
    let f_is : c.part_of-f.result ≡ part_of n.count (32768 - moved - v) v = search rules in
    c.operands_by.ensures
    ∙ operands_are 32768 n.count n.low moved places v c.part_of-i.result c.part_of-f.result c.fraction_len.ensures (omega arith) v_is i_is f_is
