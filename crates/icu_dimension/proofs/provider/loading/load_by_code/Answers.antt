use Rattle.icu_dimension.proofs.ChoiceLemmas.{kept_error, kept_found, passed_on}
use Rattle.icu_dimension.proofs.provider.loading.load_by_code.Goals as goal

pub returns-in-Ok : goal.returns-in-Ok
returns-in-Ok g c = kept_found _ _ _ c.in-Ok.ensures

pub returns-in-IdentifierNotFound : goal.returns-in-IdentifierNotFound
returns-in-IdentifierNotFound g c = passed_on _ _ _ (rw c.in-IdentifierNotFound.is at c.in-Err.ensures) c.load_usual_amounts.ensures

pub returns-in_default : goal.returns-in_default
returns-in_default g c = kept_error _ _ _ c.in-Err.ensures c.in_default.not-IdentifierNotFound
