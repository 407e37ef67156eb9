use Rattle.std.proofs.Common.{◌∙◌, ap, sum, sym}
use Rattle.icu_decimal_grouping.proofs.HeldSizesLemmas.{held_sum}
use Rattle.icu_decimal_grouping.proofs.group_sizes.GroupSizes.digits.Goals as goal

pub returns : goal.returns
returns c =
    let held = c.self.inside in
    sym (held_sum held.first held.middles held.middle held.last) ∙ ap sum c.self.view_is
