use Rattle.std.proofs.Common.{◌≡◌, drop, length, sum}
use Rattle.std.specs.Int.Digits.{AllBelowBase}
use Rattle.writeable.specs.AnnotatedText.{bytes}
use Rattle.writeable.specs.Taking.{IsWriting}
use Rattle.icu_decimal_plain.specs.LaterGroups.{groups_ahead}
use Rattle.icu_decimal_plain.specs.PlainText.{digit_text}
use Rattle.icu_decimal_plain.proofs.digit_chunks.write_chunks.Given as goal

abbrev pub invariant-loop-digits : goal.invariant-loop-digits
invariant-loop-digits g l = record {
  tens : AllBelowBase 10 l.digits;
  digits : drop (sum l.sizes) l.digits ≡ drop (sum l.initial.sizes) l.initial.digits;
  writing : IsWriting g.S.Sink.takes g.S.Sink.refused l.initial.sink (bytes (groups_ahead l.separator (digit_text l.table.chars.now) l.initial.sizes l.initial.digits)) l.sink (bytes (groups_ahead l.separator (digit_text l.table.chars.now) l.sizes l.digits));
}

abbrev pub decreases-loop-digits : goal.decreases-loop-digits
decreases-loop-digits g l = length l.digits
