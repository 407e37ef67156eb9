use Rattle.std.proofs.Common.{◌≡◌, ◌+◌, ◌*◌, ◌≤◌, ◌++◌, length, sum, take}
use Rattle.std.specs.Int.Digits.{AllBelowBase}
use Rattle.icu_decimal_plain.specs.PlainText.{digit_text}
use Rattle.icu_decimal_plain.specs.LaterGroups.{groups_ahead}
use Rattle.icu_decimal_plain.proofs.text_pieces.put_any_groups.Given as goal

abbrev pub invariant-loop-size : goal.invariant-loop-size
invariant-loop-size g l = record {
  whole : sum l.sizes ≡ length l.ahead;
  tens : AllBelowBase 10 l.ahead;
  text : take l.len l.waiting ++ groups_ahead (take l.separator.len l.separator.bytes) (digit_text l.table.chars.now) l.sizes l.ahead ≡ take l.initial.len l.initial.waiting ++ groups_ahead (take l.separator.len l.separator.bytes) (digit_text l.table.chars.now) l.initial.sizes l.digits;
  room : l.len + 4 * (length l.ahead + length l.sizes) ≤ l.initial.len + 4 * (length l.digits + length l.initial.sizes);
}
