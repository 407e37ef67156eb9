use Rattle.std.specs.Int.Digits.{AllBelowBase}
use Rattle.writeable.specs.Taking.{IsWriting}
use Rattle.icu_decimal_plain.specs.LaterGroups.{later_events}
use Rattle.icu_decimal_plain.proofs.writing.write_groups.Given as goal

abbrev pub invariant-loop-size : goal.invariant-loop-size
invariant-loop-size g l = record {
  tens : AllBelowBase 10 l.digits;
  writing : IsWriting g.S.Sink.takes g.S.Sink.refused l.initial.sink (later_events l.separator l.table.chars.now l.initial.sizes l.initial.digits) l.sink (later_events l.separator l.table.chars.now l.sizes l.digits);
}
