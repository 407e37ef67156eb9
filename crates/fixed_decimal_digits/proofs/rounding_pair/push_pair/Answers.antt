use Rattle.std.proofs.Common.{◌++◌, ◌∷◌, [], ◌∙◌, ap, ◌%◌, arith}
use Rattle.fixed_decimal_digits.proofs.AppendLemmas.{second_appended, first_appended, both_appended}
use Rattle.fixed_decimal_digits.proofs.rounding_pair.push_pair.Goals as goal

pub returns-then-begins_with_zero : goal.returns-then-begins_with_zero
returns-then-begins_with_zero c =
    let starts = c.if-begins_with_zero.true in
    second_appended c.args.digits.now.items c.args.pair c.push_reserved.new.self.items (c.begins_with_zero.ensures.none starts) c.requires.some (c.begins_with_zero.ensures.ten starts)
    c.push_reserved.ensures.items

pub returns-then-pair-eq0 : goal.returns-then-pair-eq0
returns-then-pair-eq0 c =
    first_appended c.args.digits.now.items c.args.pair c.push_reserved-2.new.self.items c.requires.tens c.requires.first c.requires.some c.requires.hundred (omega arith)
    c.push_reserved-2.ensures.items

pub returns : goal.returns
returns c =
    both_appended c.args.digits.now.items c.args.pair c.push_reserved-3.new.self.items c.requires.tens c.requires.first (c.begins_with_zero.ensures.other c.if-begins_with_zero.false)
    c.requires.hundred (omega arith) (c.push_reserved-3.ensures.items ∙ ap (λ xs. xs ++ (c.args.pair % 10) ∷ []) c.push_reserved-2.ensures.items)
