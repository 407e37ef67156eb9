use Rattle.std.proofs.Common.{◌≡◌, drop}
use Rattle.std.specs.List.{find}
use Rattle.icu_decimal_lenient.specs.Native.{is_from}
use Rattle.icu_decimal_lenient.proofs.native.zero_in.Given as goal

abbrev pub invariant-loop-zero : goal.invariant-loop-zero
invariant-loop-zero l = find (is_from l.code) (drop l.zero-index l.zeros) ≡ find (is_from l.code) l.zeros
