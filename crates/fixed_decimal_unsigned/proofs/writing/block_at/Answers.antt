use Rattle.std.proofs.Common.{◌+◌, ◌-◌, map, sym, ap, ◌∙◌, arith}
use Rattle.fixed_decimal_unsigned.specs.Number.{digits_down}
use Rattle.fixed_decimal_unsigned.specs.NumberText.{character}
use Rattle.fixed_decimal_digits.proofs.ShownDigitsLemmas.{down_inside}
use Rattle.fixed_decimal_unsigned.proofs.StoredLemmas.{room_of}
use Rattle.fixed_decimal_unsigned.proofs.writing.block_at.Goals as goal

pub returns-then-index-len : goal.returns-then-index-len
returns-then-index-len c =
    let i = c.number.inside in
    let s = c.number.invariant in
    c.block.ensures
    ∙ ap (map character) (sym (down_inside i.digits.items i.top c.args.base 64 (i.top + 1 - (c.args.base + 64)) s.tight.tens (room_of _ _ _ _ s) (λ _. omega arith) (λ _. omega arith)))
    ∙ ap (λ v. map character (digits_down v.count c.args.base 64)) c.number.view_is
