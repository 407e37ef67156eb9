use Rattle.std.proofs.Common.{ap, refl}
use Rattle.icu_decimal_plurals.specs.Rules.{category_of}
use Rattle.icu_plurals.proofs.laws.equal_operands_have_one_category.Goals as goal

pub returns-clause-equal : goal.returns-clause-equal
returns-clause-equal c = λ rules a b x y same. ap (λ o. category_of rules o) same

pub returns-clause-zeros : goal.returns-clause-zeros
returns-clause-zeros c = λ rules a b x count low. rw (count, low) refl
