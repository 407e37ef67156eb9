use Rattle.std.proofs.Common.{◌/◌, ◌%◌, ◌∙◌, arith}
use Rattle.std.proofs.lemmas.Nat.{div-add-mod'}
use Rattle.icu_decimal_grouping.proofs.HeldSizesLemmas.{held_sum}
use Rattle.icu_decimal_grouping.proofs.group_sizes.GroupSizes.chunks.Goals as goal

pub returns-clause-whole : goal.returns-clause-whole
returns-clause-whole c =
    let split = div-add-mod' c.args.digits 48 in
    held_sum 0 (c.args.digits / 48) 48 (c.args.digits % 48) ∙ omega (arith, split)
