use Rattle.std.proofs.lemmas.Result.{on_ok_weaker}
use Rattle.writeable.specs.Taking.{begun_first, on_err}
use Rattle.icu_locale_core.proofs.printing.write_keyword.Goals as goal

pub returns-in_err-write_str-clause-begun : goal.returns-in_err-write_str-clause-begun
returns-in_err-write_str-clause-begun g c =
    on_err c.from_residual.result (begun_first g.S.Sink.takes g.S.Sink.lacks_room g.met.S.Sink.lacks_more _ _ _ _ c.in_err-write_str.ensures.begun)

pub returns-clause-ok : goal.returns-clause-ok
returns-clause-ok g c =
    let first = c.in_ok-write_str.ensures in
    on_ok_weaker c.write_to.result (g.met.S.Sink.joins _ _ _ _ _ first.ok first.refused) c.write_to.ensures.ok

pub returns-clause-begun : goal.returns-clause-begun
returns-clause-begun g c =
    let first = c.in_ok-write_str.ensures in
    g.met.S.Sink.stops_in_second c.write_to.result _ _ _ _ _ first.ok first.refused c.write_to.ensures.begun
