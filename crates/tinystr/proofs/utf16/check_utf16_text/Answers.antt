use Rattle.std.proofs.Common.{inr, refl}
use Rattle.tinystr.proofs.FaultsLemmas.{ends_in_nul}
use Rattle.tinystr.proofs.utf16.check_utf16_text.Goals as goal

pub returns-in-Ok-true : goal.returns-in-Ok-true
returns-in-Ok-true c =
    (c.in-Ok-true.ensures.0, inr (refl, ends_in_nul c.in-Ok-true.field-0 c.args.units.now c.in-Ok-true.ensures.1 c.in-Ok-true.field-0-test))
