use Rattle.std.proofs.Common.{eq-eqb}
use Rattle.legumeyet_columns.proofs.ReadyLemmas.{plain_closed}
use Rattle.legumeyet_columns.proofs.reading.closing_feed.Goals as goal

pub returns-then-bytes-at-eq10-clause-closed : goal.returns-then-bytes-at-eq10-clause-closed
returns-then-bytes-at-eq10-clause-closed c =
    plain_closed c.args.dialect c.args.bytes.now c.in_ok-at.at c.in_ok-at.ensures (eq-eqb _ 10 c.if-bytes-at-eq10.true)
