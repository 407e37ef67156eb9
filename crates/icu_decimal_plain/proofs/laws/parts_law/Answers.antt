use Rattle.icu_decimal_plain.proofs.PartLemmas.{decimal_has_parts, unit_has_parts, unsigned_has_parts}
use Rattle.icu_decimal_plain.proofs.SeparatorLemmas.{separators_between}
use Rattle.icu_decimal_plain.proofs.laws.parts_law.Goals as goal

pub returns : goal.returns
returns c = record {
  unsigned = unsigned_has_parts;
  decimal = decimal_has_parts;
  unit = unit_has_parts;
  separators = separators_between;
}
