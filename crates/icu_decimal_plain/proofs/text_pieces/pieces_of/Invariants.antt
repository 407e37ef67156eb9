use Rattle.std.proofs.Common.{◌≡◌, ℕ, ◌-◌, ◌<◌, ◌≤◌, [], length, slice_index_or}
use Rattle.icu_decimal_plain.specs.Pieces.{Holds}
use Rattle.icu_decimal_plain.specs.PlainText.{digit_text}
use Rattle.icu_decimal_plain.proofs.text_pieces.pieces_of.Given as goal

abbrev pub invariant-loop-digit : goal.invariant-loop-digit
invariant-loop-digit l = record {
  digit : l.digit ≤ 10;
  long : length l.pieces ≡ 10;
  held : (d : ℕ) → d < l.digit → Holds (slice_index_or l.pieces d (record { bytes = []; len = 0 })) (digit_text l.table d);
}

abbrev pub decreases-loop-digit : goal.decreases-loop-digit
decreases-loop-digit l = 10 - l.digit
