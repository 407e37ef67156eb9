use Rattle.std.proofs.Common.{◌≡◌, ◌+◌, ◌-◌, ◌*◌, ◌^◌, length, ap, ◌∙◌, arith}
use Rattle.std.specs.Int.Digits.{number_from_digits}
use Rattle.fixed_decimal_digits.proofs.AppendLemmas.{one_appended}
use Rattle.fixed_decimal_digits.proofs.rounding_pair.append_pair.Goals as goal

pub returns-then-add_one-clause-value : goal.returns-then-add_one-clause-value
returns-then-add_one-clause-value g c =
    let old = c.args.digits.now.items in let new = c.add_one.new.digits.items in
    let full : c.args.pair ≡ 100 = let a = c.requires.hundred in let b = c.if-pair-lt100.false in omega arith in
    let places : length old + 2 + 1 - length new ≡ c.len.result + 2 + 1 - c.len-then-add_one.result = let a = c.len.ensures.value in let b = c.len-then-add_one.ensures.value in omega arith in
    ap (λ p. number_from_digits 10 old * 100 + p) full
    ∙ one_appended (number_from_digits 10 old) (number_from_digits 10 new) (length old) 1 (length new) c.if-add_one.ensures.length c.if-add_one.ensures.value
    ∙ ap (λ k. number_from_digits 10 new * 10 ^ k) places
