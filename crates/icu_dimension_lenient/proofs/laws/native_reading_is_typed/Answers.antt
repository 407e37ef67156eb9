use Rattle.icu_dimension_lenient.proofs.NativeUnitLemmas.{native_is_typed}
use Rattle.icu_dimension_lenient.proofs.laws.native_reading_is_typed.Goals as goal

pub returns : goal.returns
returns c = native_is_typed
