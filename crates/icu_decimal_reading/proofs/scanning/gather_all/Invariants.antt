use Rattle.std.proofs.Common.{◌≡◌, ◌+◌, ◌≤◌, length}
use Rattle.std.specs.Str.{chars}
use denote.Shadow.{shadow}
use denote.Text.{Utf8}
use Rattle.icu_decimal_reading.specs.GatheredDigits.{with_characters}
use Rattle.icu_decimal_reading.specs.PlainReading.{digits_of_text}
use Rattle.icu_decimal_reading.proofs.scanning.gather_all.Given as goal

abbrev pub invariant-loop-character : goal.invariant-loop-character
invariant-loop-character l = record {
  text_left : shadow (Utf8 l.left);
  value : with_characters l.gathered (digits_of_text l.table (chars l.left)) ≡ with_characters l.initial.gathered (digits_of_text l.table (chars l.text));
  bound : l.gathered.count + length l.left ≤ l.initial.gathered.count + length l.text;
}

abbrev pub decreases-loop-character : goal.decreases-loop-character
decreases-loop-character l = length l.left
