use Rattle.std.proofs.Common.{refl}
use Rattle.writeable.specs.Taking.{on_err_by}
use Rattle.writeable.proofs.TakenTextLemmas.{lent_by, bytes_begun}
use Rattle.writeable.proofs.partless_sink.PartlessSinkSink.write_str.Goals as goal

pub returns-clause-begun : goal.returns-clause-begun
returns-clause-begun g c = on_err_by c.write_str.result
    (bytes_begun g.S.Sink.takes g.S.Sink.lacks_room lent_by c.args.self.now c.args.text.now _ refl)
    c.write_str.ensures.begun
