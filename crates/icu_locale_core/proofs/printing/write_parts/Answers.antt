use Rattle.std.proofs.Common.{OnOk, OnErr, subst}
use Rattle.std.proofs.lemmas.Result.{on_ok_weaker}
use Rattle.writeable.specs.Taking.{HasBegun, begun_first, begun_then, on_err}
use Rattle.icu_locale_core.proofs.DataTextLemmas.{events_told}
use Rattle.icu_locale_core.proofs.printing.write_parts.Goals as goal

pub returns-in_err-write_str-clause-begun : goal.returns-in_err-write_str-clause-begun
returns-in_err-write_str-clause-begun g c =
    subst (λ es. OnErr c.from_residual.result (HasBegun g.S.Sink.takes g.S.Sink.lacks_room c.args.sink.now es c.write_str.new.self)) (events_told _ _ _ c.data_locale.view_is c.as_str.ensures)
    (on_err c.from_residual.result (begun_first g.S.Sink.takes g.S.Sink.lacks_room g.met.S.Sink.lacks_more _ _ _ _ c.in_err-write_str.ensures.begun))

pub returns-in_err-write_optional-clause-begun : goal.returns-in_err-write_optional-clause-begun
returns-in_err-write_optional-clause-begun g c =
    let language = c.in_ok-write_str.ensures in
    let stopped = begun_first g.S.Sink.takes g.S.Sink.lacks_room g.met.S.Sink.lacks_more _ _ _ _ c.in_err-write_optional.ensures.begun in
    subst (λ es. OnErr c.from_residual-in_err-write_optional.result (HasBegun g.S.Sink.takes g.S.Sink.lacks_room c.args.sink.now es c.write_optional.new.sink)) (events_told _ _ _ c.data_locale.view_is c.as_str.ensures)
    (on_err c.from_residual-in_err-write_optional.result (begun_then g.S.Sink.takes g.S.Sink.lacks_room g.S.Sink.refused g.met.S.Sink.joins _ _ _ _ _ language.ok language.refused stopped))

pub returns-in_err-write_optional-2-clause-begun : goal.returns-in_err-write_optional-2-clause-begun
returns-in_err-write_optional-2-clause-begun g c =
    let language = c.in_ok-write_str.ensures in
    let script = c.in_ok-write_optional.ensures in
    let stopped = begun_first g.S.Sink.takes g.S.Sink.lacks_room g.met.S.Sink.lacks_more _ _ _ _ c.in_err-write_optional-2.ensures.begun in
    let behind = begun_then g.S.Sink.takes g.S.Sink.lacks_room g.S.Sink.refused g.met.S.Sink.joins _ _ _ _ _ script.ok script.refused stopped in
    subst (λ es. OnErr c.from_residual-in_err-write_optional-2.result (HasBegun g.S.Sink.takes g.S.Sink.lacks_room c.args.sink.now es c.write_optional-2.new.sink)) (events_told _ _ _ c.data_locale.view_is c.as_str.ensures)
    (on_err c.from_residual-in_err-write_optional-2.result (begun_then g.S.Sink.takes g.S.Sink.lacks_room g.S.Sink.refused g.met.S.Sink.joins _ _ _ _ _ language.ok language.refused behind))

pub returns-in_err-write_optional-3-clause-begun : goal.returns-in_err-write_optional-3-clause-begun
returns-in_err-write_optional-3-clause-begun g c =
    let language = c.in_ok-write_str.ensures in
    let script = c.in_ok-write_optional.ensures in
    let region = c.in_ok-write_optional-2.ensures in
    let stopped = begun_first g.S.Sink.takes g.S.Sink.lacks_room g.met.S.Sink.lacks_more _ _ _ _ c.in_err-write_optional-3.ensures.begun in
    let behind = begun_then g.S.Sink.takes g.S.Sink.lacks_room g.S.Sink.refused g.met.S.Sink.joins _ _ _ _ _ region.ok region.refused stopped in
    let more = begun_then g.S.Sink.takes g.S.Sink.lacks_room g.S.Sink.refused g.met.S.Sink.joins _ _ _ _ _ script.ok script.refused behind in
    subst (λ es. OnErr c.from_residual-in_err-write_optional-3.result (HasBegun g.S.Sink.takes g.S.Sink.lacks_room c.args.sink.now es c.write_optional-3.new.sink)) (events_told _ _ _ c.data_locale.view_is c.as_str.ensures)
    (on_err c.from_residual-in_err-write_optional-3.result (begun_then g.S.Sink.takes g.S.Sink.lacks_room g.S.Sink.refused g.met.S.Sink.joins _ _ _ _ _ language.ok language.refused more))

pub returns-clause-ok : goal.returns-clause-ok
returns-clause-ok g c =
    let language = c.in_ok-write_str.ensures in
    let script = c.in_ok-write_optional.ensures in
    let region = c.in_ok-write_optional-2.ensures in
    let variant = c.in_ok-write_optional-3.ensures in
    subst (λ es. OnOk c.write_subdivision.result (g.S.Sink.takes c.args.sink.now es c.write_subdivision.new.sink)) (events_told _ _ _ c.data_locale.view_is c.as_str.ensures)
    (on_ok_weaker c.write_subdivision.result (λ last.
    g.met.S.Sink.joins _ _ _ _ _ language.ok language.refused
    (g.met.S.Sink.joins _ _ _ _ _ script.ok script.refused (g.met.S.Sink.joins _ _ _ _ _ region.ok region.refused (g.met.S.Sink.joins _ _ _ _ _ variant.ok variant.refused last))))
    c.write_subdivision.ensures.ok)

pub returns-clause-begun : goal.returns-clause-begun
returns-clause-begun g c =
    let language = c.in_ok-write_str.ensures in
    let script = c.in_ok-write_optional.ensures in
    let region = c.in_ok-write_optional-2.ensures in
    let variant = c.in_ok-write_optional-3.ensures in
    let r = c.write_subdivision.result in
    subst (λ es. OnErr r (HasBegun g.S.Sink.takes g.S.Sink.lacks_room c.args.sink.now es c.write_subdivision.new.sink)) (events_told _ _ _ c.data_locale.view_is c.as_str.ensures)
    (g.met.S.Sink.stops_in_second r _ _ _ _ _ language.ok language.refused
    (g.met.S.Sink.stops_in_second r _ _ _ _ _ script.ok script.refused
    (g.met.S.Sink.stops_in_second r _ _ _ _ _ region.ok region.refused (g.met.S.Sink.stops_in_second r _ _ _ _ _ variant.ok variant.refused c.write_subdivision.ensures.begun))))
