use Rattle.std.proofs.Common.{OnOk, OnErr, subst}
use Rattle.writeable.specs.Taking.{HasBegun}
use Rattle.fixed_decimal_signed.proofs.WritingLemmas.{decimal_events}
use Rattle.fixed_decimal_signed.proofs.writing.SignedUnsignedDecimalWriteable.write_to.Goals as goal

pub returns-clause-ok : goal.returns-clause-ok
returns-clause-ok g c =
    subst (λ es. OnOk c.write_parts.result (g.S.Sink.takes c.args.sink.now es c.write_parts.new.sink)) (decimal_events c.args.self.now) c.write_parts.ensures.ok

pub returns-clause-begun : goal.returns-clause-begun
returns-clause-begun g c =
    subst (λ es. OnErr c.write_parts.result (HasBegun {S = g.row.S.Denot} g.S.Sink.takes g.S.Sink.lacks_room c.args.sink.now es c.write_parts.new.sink)) (decimal_events c.args.self.now) c.write_parts.ensures.begun
