use Rattle.std.proofs.Common.{◌≤◌, map}
use Rattle.writeable.specs.AnnotatedText.{bytes}
use Rattle.writeable.specs.Taking.{IsWriting}
use Rattle.fixed_decimal_unsigned.specs.Number.{digits_down}
use Rattle.fixed_decimal_unsigned.specs.NumberText.{character}
use Rattle.fixed_decimal_unsigned.proofs.writing.write_digits.Given as goal

abbrev pub invariant-loop-left : goal.invariant-loop-left
invariant-loop-left g l = record {
  left : l.left ≤ l.count;
  writing : IsWriting g.S.Sink.takes g.S.Sink.refused l.initial.sink (bytes (map character (digits_down l.number.count l.base l.count))) l.sink (bytes (map character (digits_down l.number.count l.base l.left)));
}

abbrev pub decreases-loop-left : goal.decreases-loop-left
decreases-loop-left g l = l.left
