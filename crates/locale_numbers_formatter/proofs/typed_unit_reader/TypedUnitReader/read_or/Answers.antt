use Rattle.std.proofs.Common.{Some}
use Rattle.locale_numbers_formatter.proofs.LenientUnitLemmas.{read_exactly}
use Rattle.locale_numbers_formatter.proofs.typed_unit_reader.TypedUnitReader.read_or.Goals as goal

pub returns-in-Ok-clause-reading : goal.returns-in-Ok-clause-reading
returns-in-Ok-clause-reading c = read_exactly c.args.self.now (Some c.args.other.now) c.args.text.now c.in-Ok.number c.in-Ok.ensures.reading
