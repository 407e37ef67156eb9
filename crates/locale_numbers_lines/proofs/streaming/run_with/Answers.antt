use Rattle.std.proofs.Common.{◌≡◌, Err, ap}
use Rattle.std.proofs.lemmas.Result.{err_from_is_err_and}
use Rattle.locale_numbers_lines.specs.declared.run_error.RunError.TheVariants.{Read, Memory}
use Rattle.locale_numbers_lines.proofs.streaming.run_with.Goals as goal

pub returns-in_err-lines-clause-reader_failed : goal.returns-in_err-lines-clause-reader_failed
returns-in_err-lines-clause-reader_failed g c =
    let p = err_from_is_err_and c.from_residual-in_err-lines.result c.from_residual-in_err-lines.ensures.1 in
    rw (p.1, p.2) (λ is. let same : c.in_err-lines.field-0.0 ≡ Read = cc is in c.in_err-lines.ensures.reader_failed (ap Err same))

pub returns-in_err-lines-clause-memory_only : goal.returns-in_err-lines-clause-memory_only
returns-in_err-lines-clause-memory_only g c =
    let p = err_from_is_err_and c.from_residual-in_err-lines.result c.from_residual-in_err-lines.ensures.1 in
    rw (p.1, p.2) (λ is. let same : c.in_err-lines.field-0.0 ≡ Memory = cc is in c.in_err-lines.ensures.memory_only (ap Err same))

pub returns-clause-made : goal.returns-clause-made
returns-clause-made g c = rw c.made.ensures.value c.in_ok-lines.ensures.outcome.made
