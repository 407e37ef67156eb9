use Rattle.std.proofs.Common.{◌++◌, ◌∷◌, [], ◌∙◌, ap}
use Rattle.fixed_decimal_unsigned.proofs.IntegerLemmas.{one_made}
use Rattle.fixed_decimal_unsigned.proofs.unsigned_decimal.UnsignedDecimal.one.Goals as goal

pub returns : goal.returns
returns c = one_made c.push_reserved.new.self.items (c.push_reserved.ensures.items ∙ ap (λ xs. xs ++ 1 ∷ []) c.new-digits.ensures.items)
