use Rattle.std.proofs.Common.{sym, subst, ◌∙◌}
use Rattle.icu_dimension_affixes.specs.UnitReading.{HasManyBetween}
use Rattle.icu_dimension_lenient.proofs.UnitReadingsLemmas.{answered, unread}
use Rattle.locale_numbers_formatter.proofs.asked_unit_reader.AskedUnitReader.read.Goals as goal

pub read_readable-requires : goal.read_readable-requires
read_readable-requires c = sym c.self.invariant.1 ∙ c.if-self.true

pub returns-then-self-clause-reading : goal.returns-then-self-clause-reading
returns-then-self-clause-reading c =
    rw (sym c.self.view_is) (answered c.self.inside.reader c.args.text.now c.read_readable.result
    c.self.invariant.0 (sym c.self.invariant.1 ∙ c.if-self.true) c.read_readable.ensures.unreadable c.read_readable.ensures.not_written c.read_readable.ensures.value)

pub returns-else-self-clause-reading : goal.returns-else-self-clause-reading
returns-else-self-clause-reading c = rw (sym c.self.view_is) (unread c.self.inside.reader c.args.text.now (sym c.self.invariant.1 ∙ c.if-self.false))

pub returns-then-self-clause-memory : goal.returns-then-self-clause-memory
returns-then-self-clause-memory c = λ ran_out. subst (λ r. HasManyBetween r c.args.text.now) c.self.view_is (c.read_readable.ensures.memory ran_out)
