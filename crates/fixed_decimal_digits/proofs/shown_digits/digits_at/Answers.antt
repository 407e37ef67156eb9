use Rattle.std.proofs.Common.{◌+◌, ◌-◌, ◌∙◌, ◌++◌, ap, length, refl, replicate, arith}
use Rattle.fixed_decimal_digits.proofs.ShownDigitsLemmas.{shown_down}
use Rattle.fixed_decimal_digits.proofs.shown_digits.digits_at.Goals as goal

pub returns : goal.returns
returns c =
    let zeros = c.min-zeros_before.result in
    let places = c.args.count - zeros in
    ap (λ kept. replicate zeros 0 ++ (kept ++ replicate (places - c.len.result) 0)) c.run-inside.ensures
    ∙ shown_down c.args.digits.now.items c.args.top c.args.base c.args.count (c.args.base + c.args.count) (c.args.top + 1) zeros c.saturating_sub-2.result places c.len.result
    c.requires.tens c.requires.room refl refl
    (omega (arith, c.min-zeros_before.ensures, c.saturating_sub.ensures)) (omega (arith, c.saturating_sub-2.ensures)) refl (c.len.ensures.value ∙ ap length c.run-inside.ensures)
