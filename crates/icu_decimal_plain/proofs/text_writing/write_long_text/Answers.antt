use Rattle.std.proofs.lemmas.Result.{on_ok_weaker}
use Rattle.writeable.specs.Taking.{begun_first, on_err}
use Rattle.icu_decimal_plain.specs.BorrowedTables.{borrowed_tables}
use Rattle.icu_decimal_plain.proofs.PlainTextLemmas.{unsigned_bytes}
use Rattle.icu_decimal_plain.proofs.text_writing.write_long_text.Goals as goal

pub returns-in_err-write_whole_text-clause-begun : goal.returns-in_err-write_whole_text-clause-begun
returns-in_err-write_whole_text-clause-begun g c =
    on_err c.from_residual.result
    (rw (unsigned_bytes (borrowed_tables c.args.tables.now) c.args.number.now)
    (begun_first g.S.Sink.takes g.S.Sink.lacks_room g.met.S.Sink.lacks_more _ _ _ _ c.in_err-write_whole_text.ensures.begun))

pub returns-clause-ok : goal.returns-clause-ok
returns-clause-ok g c =
    rw (unsigned_bytes (borrowed_tables c.args.tables.now) c.args.number.now)
    (on_ok_weaker c.write_fraction_text.result (λ taken. g.met.S.Sink.joins _ _ _ _ _ c.in_ok-write_whole_text.ensures.ok c.in_ok-write_whole_text.ensures.refused taken) c.write_fraction_text.ensures.ok)

pub returns-clause-begun : goal.returns-clause-begun
returns-clause-begun g c =
    rw (unsigned_bytes (borrowed_tables c.args.tables.now) c.args.number.now)
    (g.met.S.Sink.stops_in_second _ _ _ _ _ _ c.in_ok-write_whole_text.ensures.ok c.in_ok-write_whole_text.ensures.refused c.write_fraction_text.ensures.begun)
