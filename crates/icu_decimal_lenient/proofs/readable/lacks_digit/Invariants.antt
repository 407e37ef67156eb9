use Rattle.std.proofs.Common.{◌≡◌, is_none, length}
use Rattle.std.specs.List.{list_all}
use Rattle.std.specs.Str.{chars}
use denote.Shadow.{shadow}
use denote.Text.{Utf8}
use Rattle.icu_decimal_reading.specs.Readable.{digit_of}
use Rattle.icu_decimal_lenient.specs.Folding.{folded_chars, plain_digits}
use Rattle.icu_decimal_lenient.proofs.readable.lacks_digit.Given as goal

abbrev pub invariant-loop-character : goal.invariant-loop-character
invariant-loop-character l = record {
  text_left : shadow (Utf8 l.left);
  same : list_all (λ d. is_none (digit_of plain_digits d)) (folded_chars l.table (chars l.left)) ≡ list_all (λ d. is_none (digit_of plain_digits d)) (folded_chars l.table (chars l.text));
}

abbrev pub decreases-loop-character : goal.decreases-loop-character
decreases-loop-character l = length l.left
