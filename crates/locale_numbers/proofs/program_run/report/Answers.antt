use Rattle.std.proofs.Common.{Err}
use Rattle.std.specs.Prelude.{IsErrOf}
use Rattle.locale_numbers_lines.specs.declared.run_error.RunError.{RunError}
use Rattle.locale_numbers.specs.declared.fault.ProgramFault.{ProgramFault}
use Rattle.locale_numbers.proofs.program_run.report.Goals as goal

run_fault : {S T : Type 0} (f h : RunError) → IsErrOf {T = S} {E = ProgramFault} (Err (ProgramFault.Run f)) (ProgramFault.Run h) → IsErrOf {T = T} {E = RunError} (Err f) h
run_fault f h e = cc

pub returns-in-Err-left-clause-reader_failed : goal.returns-in-Err-left-clause-reader_failed
returns-in-Err-left-clause-reader_failed g c e = c.run-left.ensures.reader_failed (rw c.in-Err-left.is (run_fault _ _ e))
