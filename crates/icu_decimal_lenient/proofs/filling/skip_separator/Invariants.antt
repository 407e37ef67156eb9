use Rattle.std.proofs.Common.{◌≡◌, length}
use Rattle.std.specs.Str.{chars}
use denote.Shadow.{shadow}
use denote.Text.{Utf8}
use Rattle.icu_decimal_lenient.specs.LenientReading.{past_separator}
use Rattle.icu_decimal_lenient.proofs.filling.skip_separator.Given as goal

abbrev pub invariant-loop-character : goal.invariant-loop-character
invariant-loop-character l = record {
  text_left : shadow (Utf8 l.left);
  text_wanted : shadow (Utf8 l.wanted);
  same : past_separator (chars l.text) (chars l.wanted) (chars l.left) ≡ past_separator (chars l.text) (chars l.separator) (chars l.text);
}

abbrev pub decreases-loop-character : goal.decreases-loop-character
decreases-loop-character l = length l.wanted
