use Rattle.std.proofs.Common.{◌≡◌, ◌++◌, length}
use Rattle.std.specs.Prelude.{string_bytes}
use Rattle.std.specs.Str.{chars, encode_utf8_all}
use denote.Shadow.{shadow}
use denote.Text.{Utf8}
use Rattle.icu_decimal_lenient.specs.LenientReading.{without_point}
use Rattle.icu_decimal_lenient.proofs.filling.put_without_point.Given as goal

abbrev pub invariant-loop-character : goal.invariant-loop-character
invariant-loop-character l = record {
  text_left : shadow (Utf8 l.left);
  value : string_bytes l.out ++ encode_utf8_all (without_point (chars l.separator) (chars l.left)) ≡ string_bytes l.initial.out ++ encode_utf8_all (without_point (chars l.separator) (chars l.text));
}

abbrev pub decreases-loop-character : goal.decreases-loop-character
decreases-loop-character l = length l.left
