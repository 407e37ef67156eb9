-- The exit status of a call that ended before it had done what was asked.
-- Defined in docs/command.md, "Statuses".
-- Cited by `CallFault::status`, `CallFault::of_read` and `tell_fault`.
use Rattle.std.specs.Prelude.{ℕ}
use Rattle.locale_numbers.specs.Fault.{status_of}
use Rattle.legumeyet.specs.declared.fault.CallFault.{CallFault}
use Rattle.legumeyet.specs.declared.fault.CallFault.TheVariants.{Program, Read, Write}

-- standard input or output failed: 5
abbrev pub call_status : CallFault → ℕ
call_status (Program fault) = status_of fault
call_status (Read error) = 5
call_status (Write error) = 5
