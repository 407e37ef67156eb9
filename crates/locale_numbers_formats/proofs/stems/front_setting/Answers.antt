use Rattle.std.proofs.Common.{Option, ap}
use Rattle.locale_numbers_formats.specs.Stems.{or_unknown}
use Rattle.locale_numbers_formats.specs.declared.stems.Setting.{Setting}
use Rattle.locale_numbers_formats.proofs.stems.front_setting.Goals as goal

pub returns-in-Some : goal.returns-in-Some
returns-in-Some c = ap (λ (o : Option Setting). or_unknown o) c.in-Some.ensures

pub returns-in-None : goal.returns-in-None
returns-in-None c = ap (λ (o : Option Setting). or_unknown o) c.in-None.ensures
