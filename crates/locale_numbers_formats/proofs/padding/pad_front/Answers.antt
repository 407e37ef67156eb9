use Rattle.std.proofs.Common.{rules, ◌+◌, ◌<◌, w16}
use Rattle.std.proofs.lemmas.Int.{to_z-of_z}
use Rattle.fixed_decimal.specs.Number.{place}
use Rattle.fixed_decimal.specs.Shifts.{PadsStart}
use Rattle.locale_numbers_formats.proofs.ChangedLemmas.{pads_start_is}
use Rattle.locale_numbers_formats.proofs.padding.pad_front.Goals as goal

pub returns-then-end-digits : goal.returns-then-end-digits
returns-then-end-digits c =
    let digits = to_z-of_z w16 c.args.digits c.ranges.digits in
    let range = c.magnitude_range-range.ensures in
    let above : c.args.number.now.high + 1 < place c.args.digits = search rules in
    let pads : PadsStart (place c.args.digits) c.args.number.now c.pad_start.new.self = simp digits at c.pad_start.ensures in
    pads_start_is c.args.digits c.args.number.now c.pad_start.new.self range.number above pads
