use Rattle.std.proofs.Common.{◌≡◌, length}
use Rattle.icu_decimal_scientific.specs.ScientificReading.{lacks}
use denote.Shadow.{shadow}
use denote.Text.{Utf8}
use Rattle.icu_decimal_scientific.proofs.readable.does_lack.Given as goal

abbrev pub invariant-loop-character : goal.invariant-loop-character
invariant-loop-character l = record {
  text_left : shadow (Utf8 l.left);
  same : lacks l.mark l.left ≡ lacks l.mark l.text;
}

abbrev pub decreases-loop-character : goal.decreases-loop-character
decreases-loop-character l = length l.left
