use Rattle.std.proofs.Common.{◌∙◌, ap}
use Rattle.icu_dimension_affixes.specs.UnitReading.{text_by}
use Rattle.icu_dimension.proofs.reading.read_once.Goals as goal

-- what the reader refuses is refused of its tables
pub returns-in-Ok-clause-not_written : goal.returns-in-Ok-clause-not_written
returns-in-Ok-clause-not_written c =
    λ refused v decimal written. c.read.ensures.not_written refused v decimal (ap (λ r. text_by r v) c.in-Ok.ensures ∙ written)
