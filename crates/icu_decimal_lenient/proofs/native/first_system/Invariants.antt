use Rattle.std.proofs.Common.{◌≡◌, length, slice_get}
use Rattle.std.specs.Str.{chars}
use denote.Shadow.{shadow}
use denote.Text.{Utf8}
use Rattle.icu_decimal_lenient.specs.Native.{systems_in}
use Rattle.icu_decimal_lenient.proofs.native.first_system.Given as goal

abbrev pub invariant-loop-character : goal.invariant-loop-character
invariant-loop-character l = record {
  text_left : shadow (Utf8 l.left);
  same : slice_get (systems_in (chars l.left)) 0 ≡ slice_get (systems_in (chars l.text)) 0;
}

abbrev pub decreases-loop-character : goal.decreases-loop-character
decreases-loop-character l = length l.left
