use Rattle.locale_numbers_formats.proofs.PieceLemmas.{fields_none, fields_some}
use Rattle.locale_numbers_formats.proofs.cutting.cut_field.Goals as goal

pub returns-in-None : goal.returns-in-None
returns-in-None c = fields_none _ _ c.in-None.ensures

pub returns-in-Some : goal.returns-in-Some
returns-in-Some c = fields_some _ _ _ c.in-Some.ensures
