use Rattle.std.proofs.Common.{◌≡◌, length}
use Rattle.std.specs.Str.{chars}
use denote.Shadow.{shadow}
use denote.Text.{Utf8}
use Rattle.icu_decimal_reading.specs.PlainReading.{begins_fraction}
use Rattle.icu_decimal_reading.proofs.digits.does_fraction_follow.Given as goal

abbrev pub invariant-loop-character : goal.invariant-loop-character
invariant-loop-character l = record {
  text_left : shadow (Utf8 l.left);
  text_wanted : shadow (Utf8 l.wanted);
  same : begins_fraction l.table (chars l.wanted) (chars l.left) ≡ begins_fraction l.table (chars l.separator) (chars l.text);
}

abbrev pub decreases-loop-character : goal.decreases-loop-character
decreases-loop-character l = length l.wanted
