use Rattle.std.proofs.Common.{◌≡◌, ◌-◌, ◌/◌, ◌∙◌, ap, arith, rules}
use Rattle.icu_decimal_scientific.proofs.DivisionLemmas.{whole_below}
use Rattle.icu_decimal_scientific.proofs.ProductLemmas.{lowered_shown, rest_whole}
use Rattle.icu_decimal_scientific.proofs.product.lower_shown.Goals as goal

pub lower_trimmed-requires-clause-whole : goal.lower_trimmed-requires-clause-whole
lower_trimmed-requires-clause-whole c = whole_below c.args.number.now.count c.args.by (c.args.by / 2) c.requires (omega arith)

pub lower_trimmed-requires-2-clause-whole : goal.lower_trimmed-requires-2-clause-whole
lower_trimmed-requires-2-clause-whole c =
    rest_whole c.args.number.now.count c.lower_trimmed.new.number.count (c.args.by / 2) c.args.by c.lower_trimmed.ensures.count c.requires (omega arith)

pub show_down_to-requires : goal.show_down_to-requires
show_down_to-requires c =
    let at : c.place_of-shown.result ≡ c.args.number.now.low = search rules in
    let low = c.magnitude_range.ensures.number.low in
    let is = c.saturating_sub-lowest.ensures in
    omega (arith, at, low, is)

pub returns : goal.returns
returns c =
    let at : c.place_of-shown.result ≡ c.args.number.now.low = search rules in
    lowered_shown c.args.number.now c.lower_trimmed.new.number c.lower_trimmed-2.new.number c.show_down_to.new.number (c.args.by / 2) c.args.by c.magnitude_range.ensures.number (omega arith)
    c.lower_trimmed.ensures.count c.lower_trimmed.ensures.high c.lower_trimmed-2.ensures.count c.lower_trimmed-2.ensures.high c.saturating_sub-lowest.result c.show_down_to.ensures
    (c.saturating_sub-lowest.ensures ∙ ap (λ k. k - c.args.by) at)
