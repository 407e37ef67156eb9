use Rattle.std.proofs.Common.{◌∙◌, sym}
use Rattle.locale_numbers_formatter.proofs.ReadBackLemmas.{unit_answered}
use Rattle.locale_numbers_formatter.proofs.number_reader.read_unit.Goals as goal

pub returns-then-can_read-clause-reading : goal.returns-then-can_read-clause-reading
returns-then-can_read-clause-reading c =
    unit_answered c.functions_answer_readings.ensures.exact c.args.reader.now c.args.text.now c.read_readable.result c.requires.texts
    (sym c.requires.asked ∙ c.if-can_read.true) c.read_readable.ensures.unreadable c.read_readable.ensures.not_written c.read_readable.ensures.value
