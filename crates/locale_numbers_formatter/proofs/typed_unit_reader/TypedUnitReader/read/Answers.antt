use Rattle.locale_numbers_formatter.proofs.LenientUnitLemmas.{exactly_read}
use Rattle.locale_numbers_formatter.proofs.typed_unit_reader.TypedUnitReader.read.Goals as goal

pub returns-in-Ok-clause-reading : goal.returns-in-Ok-clause-reading
returns-in-Ok-clause-reading c = exactly_read c.args.self.now c.args.text.now c.in-Ok.number c.in-Ok.ensures.reading
