use Rattle.std.proofs.Common.{refl}
use Rattle.std.proofs.lemmas.Result.{err_from_is_err_and}
use Rattle.locale_numbers_lines.proofs.ProgressLemmas.{progress_written, progress_answered, answered_written, answered_part}
use Rattle.locale_numbers_lines.proofs.feeding.feed.Goals as goal

pub returns-in_ok-write_ready-in-Ok-clause-came : goal.returns-in_ok-write_ready-in-Ok-clause-came
returns-in_ok-write_ready-in-Ok-clause-came g c = progress_written _ _ _ _ _ _ _ _ _ _ _ _ c.in-Ok.ensures.came c.in_ok-write_ready-in-Ok.ensures.wrote

pub returns-in_err-write_ready-in-Ok-clause-came : goal.returns-in_err-write_ready-in-Ok-clause-came
returns-in_err-write_ready-in-Ok-clause-came g c =
    let p = err_from_is_err_and c.from_residual.result c.from_residual.ensures.1 in
    rw (p.1, p.2) (answered_part _ _ _ _ _ _ (progress_answered _ _ _ _ _ _ _ _ _ _ _ _ c.in-Ok.ensures.came refl) c.in_err-write_ready-in-Ok.ensures.wrote)

pub returns-in_ok-write_ready-in-Err-Memory-clause-came : goal.returns-in_ok-write_ready-in-Err-Memory-clause-came
returns-in_ok-write_ready-in-Err-Memory-clause-came g c = answered_written _ _ _ _ _ _ (rw c.in-Err-Memory.field-0-is at c.in-Err-Memory.ensures.came) c.in_ok-write_ready-in-Err-Memory.ensures.wrote

pub returns-in_err-write_ready-in-Err-Memory-clause-came : goal.returns-in_err-write_ready-in-Err-Memory-clause-came
returns-in_err-write_ready-in-Err-Memory-clause-came g c =
    let p = err_from_is_err_and c.from_residual-in_err-write_ready-in-Err-Memory.result c.from_residual-in_err-write_ready-in-Err-Memory.ensures.1 in
    rw (p.1, p.2) (answered_part _ _ _ _ _ _ (rw c.in-Err-Memory.field-0-is at c.in-Err-Memory.ensures.came) c.in_err-write_ready-in-Err-Memory.ensures.wrote)
