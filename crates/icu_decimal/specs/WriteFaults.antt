-- The numbers of the errors of writing a number.
-- Defined in docs/formatters.md, "Abstract formatters".
-- Cited by `WriteFault::number`.
use Rattle.std.specs.Prelude.{ℕ}
use Rattle.icu_decimal.specs.declared.write_fault.WriteFault.{WriteFault}

abbrev pub write_fault_number : WriteFault → ℕ
write_fault_number WriteFault.Sink = 1
write_fault_number WriteFault.Memory = 2
