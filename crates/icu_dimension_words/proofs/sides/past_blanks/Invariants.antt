use Rattle.std.proofs.Common.{◌≡◌, length}
use Rattle.std.specs.Str.{chars}
use denote.Shadow.{shadow}
use denote.Text.{Utf8}
use Rattle.icu_dimension_words.specs.WordSides.{past_blanks}
use Rattle.icu_dimension_words.proofs.sides.past_blanks.Given as goal

abbrev pub invariant-loop-character : goal.invariant-loop-character
invariant-loop-character l = record {
  text_left : shadow (Utf8 l.left);
  same : past_blanks (chars l.left) ≡ past_blanks (chars l.text);
}

abbrev pub decreases-loop-character : goal.decreases-loop-character
decreases-loop-character l = length l.left
