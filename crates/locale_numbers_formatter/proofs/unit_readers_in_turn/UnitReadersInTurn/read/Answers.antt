use Rattle.locale_numbers_formatter.proofs.LenientUnitLemmas.{in_turn_allocates, in_turn_answers}
use Rattle.locale_numbers_formatter.proofs.unit_readers_in_turn.UnitReadersInTurn.read.Goals as goal

pub returns-clause-memory : goal.returns-clause-memory
returns-clause-memory c = λ refused. in_turn_allocates c.args.self.now c.args.text.now (c.read_in_native.ensures.memory refused)

pub returns-clause-reading : goal.returns-clause-reading
returns-clause-reading c = in_turn_answers c.args.self.now c.args.text.now c.read_in_native.result c.read_in_native.ensures.reading
