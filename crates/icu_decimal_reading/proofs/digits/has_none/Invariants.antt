use Rattle.std.proofs.Common.{◌≡◌, is_none, length}
use Rattle.std.specs.List.{list_all}
use Rattle.std.specs.Str.{chars}
use denote.Shadow.{shadow}
use denote.Text.{Utf8}
use Rattle.icu_decimal_reading.specs.Readable.{digit_of}
use Rattle.icu_decimal_reading.proofs.digits.has_none.Given as goal

abbrev pub invariant-loop-character : goal.invariant-loop-character
invariant-loop-character l = record {
  text_left : shadow (Utf8 l.left);
  same : list_all (λ c. is_none (digit_of l.table c)) (chars l.left) ≡ list_all (λ c. is_none (digit_of l.table c)) (chars l.text);
}

abbrev pub decreases-loop-character : goal.decreases-loop-character
decreases-loop-character l = length l.left
