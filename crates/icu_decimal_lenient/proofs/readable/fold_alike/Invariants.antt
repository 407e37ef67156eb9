use Rattle.std.proofs.Common.{◌≡◌, length}
use Rattle.std.specs.Str.{bytes_eq, chars}
use denote.Shadow.{shadow}
use denote.Text.{Utf8}
use Rattle.icu_decimal_lenient.specs.Folding.{folded_chars}
use Rattle.icu_decimal_lenient.proofs.readable.fold_alike.Given as goal

abbrev pub invariant-loop-character : goal.invariant-loop-character
invariant-loop-character l = record {
  text_left : shadow (Utf8 l.left);
  text_right : shadow (Utf8 l.right);
  same : bytes_eq (folded_chars l.table (chars l.left)) (folded_chars l.table (chars l.right)) ≡ bytes_eq (folded_chars l.table (chars l.one)) (folded_chars l.table (chars l.other));
}

abbrev pub decreases-loop-character : goal.decreases-loop-character
decreases-loop-character l = length l.left
