use Rattle.std.proofs.Common.{◌≡◌, ◌+◌, ◌-◌, ◌*◌, ◌^◌, ◌<◌, ◌≤◌, length, sym, ◌∙◌, subst, arith}
use Rattle.locale_numbers_formats.proofs.CuttingLemmas.{compared, last_marked, none_marked}
use Rattle.locale_numbers_formats.proofs.cutting.near_separator.Goals as goal

pub returns-then-marks-eq0 : goal.returns-then-marks-eq0
returns-then-marks-eq0 c =
    let text = c.args.text.now in
    let room : length text - 16 + 16 ≡ length text = omega (arith, c.requires) in
    none_marked c.args.separator text (length text - 16) room
    (sym (compared c.args.separator text (length text - 16) room) ∙ c.if-marks-eq0.true)

pub returns : goal.returns
returns c =
    let text = c.args.text.now in
    let room : length text - 16 + 16 ≡ length text = omega (arith, c.requires) in
    let same = compared c.args.separator text (length text - 16) room in
    last_marked c.args.separator text (length text - 16) room c.ilog2.result
    (subst (λ m. 2 ^ c.ilog2.result ≤ m) same c.ilog2.ensures.power_le)
    (subst (λ m. m < 2 * 2 ^ c.ilog2.result) same c.ilog2.ensures.next_power_gt)
