use Rattle.std.proofs.Common.{◌≡◌, ◌≤◌, length}
use Rattle.std.specs.Str.{chars}
use denote.Shadow.{shadow}
use denote.Text.{Utf8}
use Rattle.icu_decimal_lenient.specs.Folding.{folded_chars}
use Rattle.icu_decimal_lenient.proofs.folding.split_folded.Given as goal

abbrev pub invariant-loop-character : goal.invariant-loop-character
invariant-loop-character l = record {
  text_left : shadow (Utf8 l.left);
  same : folded_chars l.table (chars l.left) ≡ folded_chars l.table (chars l.text);
  within : length l.left ≤ length l.text;
}

abbrev pub decreases-loop-character : goal.decreases-loop-character
decreases-loop-character l = length l.left
