use Rattle.std.proofs.Common.{◌≡◌, length}
use Rattle.std.specs.Str.{chars}
use denote.Shadow.{shadow}
use denote.Text.{Utf8}
use Rattle.icu_decimal_plain.specs.BorrowedTables.{borrowed_tables}
use Rattle.icu_dimension_words.specs.WordsReading.{begins, may_clash}
use Rattle.icu_dimension_words.proofs.readable.may_clash_before.Given as goal

abbrev pub invariant-loop-character : goal.invariant-loop-character
invariant-loop-character l = record {
  text_left : shadow (Utf8 l.left);
  text_against : shadow (Utf8 l.against);
  same : may_clash (begins (borrowed_tables l.decimals)) (chars l.left) (chars l.against) ≡ may_clash (begins (borrowed_tables l.decimals)) (chars l.one) (chars l.other);
}

abbrev pub decreases-loop-character : goal.decreases-loop-character
decreases-loop-character l = length l.left
