use Rattle.std.proofs.Common.{◌≡◌, ◌++◌, ◌∙◌, length, map, sym, ap, arith}
use Rattle.std.proofs.lemmas.List.{map-append}
use Rattle.std.specs.Char.{digit_value}
use Rattle.fixed_decimal_digits.proofs.BlockLemmas.{pushed_length}
use Rattle.fixed_decimal_digits.proofs.digit_text.assign_texts.Goals as goal

pub push_text-requires-2-clause-room : goal.push_text-requires-2-clause-room
push_text-requires-2-clause-room c =
    let before = c.clear.new.self in
    let none : length before.items ≡ 0 = ap length c.clear.ensures.items in
    let pushed = ap length c.push_text.ensures.items ∙ pushed_length before.items c.args.whole.now in
    omega (arith, none, pushed, c.in_ok-make_room.ensures.ok, c.clear.ensures.capacity, c.push_text.ensures.capacity)

pub returns-clause-items : goal.returns-clause-items
returns-clause-items c =
    let whole = c.args.whole.now in let rest = map digit_value c.args.rest.now in
    c.push_text-2.ensures.items
    ∙ ap (λ ds. ds ++ rest) (c.push_text.ensures.items ∙ ap (λ ds. ds ++ map digit_value whole) c.clear.ensures.items)
    ∙ sym (map-append digit_value whole c.args.rest.now)
