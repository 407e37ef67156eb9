use Rattle.std.proofs.Common.{◌≡◌, ◌++◌, length}
use Rattle.std.specs.Prelude.{string_bytes}
use denote.Shadow.{shadow}
use denote.Text.{Utf8}
use Rattle.icu_decimal_lenient.specs.Native.{ascii_text}
use Rattle.icu_decimal_lenient.proofs.native.put_in_ascii.Given as goal

abbrev pub invariant-loop-character : goal.invariant-loop-character
invariant-loop-character l = record {
  text_left : shadow (Utf8 l.left);
  value : string_bytes l.out ++ ascii_text l.left ≡ string_bytes l.initial.out ++ ascii_text l.text;
}

abbrev pub decreases-loop-character : goal.decreases-loop-character
decreases-loop-character l = length l.left
