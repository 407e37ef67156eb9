use Rattle.std.proofs.Common.{take}
use Rattle.icu_decimal_plain.proofs.PlainTextLemmas.{bytes_chained}
use Rattle.icu_decimal_plain.proofs.text_writing.write_group.Goals as goal

pub returns-clause-begun : goal.returns-clause-begun
returns-clause-begun g c =
    rw (bytes_chained c.args.table.now.chars.now (take c.args.size c.args.digits.now))
    (g.met.S.Sink.stops_in_second _ _ _ _ _ _ c.in_ok-write_str.ensures.ok c.in_ok-write_str.ensures.refused c.write_digits.ensures.begun)
