use Rattle.icu_decimal_lenient.specs.Native.{native_zeros, system_of}
use Rattle.icu_decimal_lenient.proofs.native.system_of.Goals as goal

pub returns-then-code-gt127-clause-value : goal.returns-then-code-gt127-clause-value
unfolding system_of native_zeros
returns-then-code-gt127-clause-value c = c.zero_in.ensures.value
