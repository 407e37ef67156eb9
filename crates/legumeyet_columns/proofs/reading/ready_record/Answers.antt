use Rattle.std.proofs.Common.{refl}
use Rattle.legumeyet_columns.proofs.ReadyLemmas.{ready_left, ready_row}
use Rattle.legumeyet_columns.proofs.reading.ready_record.Goals as goal

pub returns-clause-record : goal.returns-clause-record
returns-clause-record c = ready_row c.args.dialect c.args.bytes.now _ c.in_ok-at.at c.in_ok-at.ensures.feed refl c.in_ok-at.ensures.closed

pub returns-clause-left : goal.returns-clause-left
returns-clause-left c = ready_left c.args.dialect c.args.bytes.now _ c.in_ok-at.at c.in_ok-at.ensures.feed refl c.in_ok-at.ensures.closed
