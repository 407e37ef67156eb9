use Rattle.std.proofs.Common.{rules, ◌≤◌, w16}
use Rattle.std.proofs.lemmas.Int.{to_z-of_z}
use Rattle.fixed_decimal.specs.Number.{place}
use Rattle.fixed_decimal.specs.Shifts.{PadsEnd}
use Rattle.locale_numbers_formats.proofs.ChangedLemmas.{pads_down_is}
use Rattle.locale_numbers_formats.proofs.padding.pad_down.Goals as goal

pub returns-then-position-start : goal.returns-then-position-start
returns-then-position-start c =
    let position = to_z-of_z w16 c.args.position c.ranges.position in
    let range = c.magnitude_range-range.ensures in
    let under : place c.args.position ≤ c.args.number.now.low = search rules in
    let pads : PadsEnd (place c.args.position) c.args.number.now c.pad_end.new.self = simp position at c.pad_end.ensures in
    pads_down_is (place c.args.position) c.args.number.now c.pad_end.new.self range.number under pads
