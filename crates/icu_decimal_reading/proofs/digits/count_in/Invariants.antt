use Rattle.std.proofs.Common.{◌≡◌, ◌+◌, ◌≤◌, filter_map, length}
use Rattle.std.specs.Str.{chars}
use denote.Shadow.{shadow}
use denote.Text.{Utf8}
use Rattle.icu_decimal_reading.specs.Readable.{digit_of}
use Rattle.icu_decimal_reading.proofs.digits.count_in.Given as goal

abbrev pub invariant-loop-character : goal.invariant-loop-character
invariant-loop-character l = record {
  text_left : shadow (Utf8 l.left);
  count : l.count + length (filter_map (digit_of l.table) (chars l.left)) ≡ length (filter_map (digit_of l.table) (chars l.text));
  bound : l.count + length l.left ≤ length l.text;
}

abbrev pub decreases-loop-character : goal.decreases-loop-character
decreases-loop-character l = length l.left
