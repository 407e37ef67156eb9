use Rattle.std.proofs.Common.{ap}
use Rattle.icu_decimal.specs.FoundTables.{found_tables}
use Rattle.icu_decimal.proofs.laws.found.same_tables.Goals as goal

pub returns : goal.returns
returns c = record {
  same = c.same_preferences.ensures.same;
  tables = λ same chain symbols digits option. ap (λ p. found_tables chain symbols digits p option) (c.same_preferences.ensures.same.0 same);
}
