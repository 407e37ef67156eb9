use Rattle.std.proofs.Common.{sym}
use Rattle.icu_decimal_plain.proofs.PieceLemmas.{run_bytes}
use Rattle.icu_decimal_plain.proofs.text_writing.write_run.Goals as goal

pub returns-clause-ok : goal.returns-clause-ok
returns-clause-ok g c =
    rw (sym (run_bytes c.args.table.now.chars.now c.chunks-chunks.result c.args.digits.now c.args.count c.chunks-chunks.ensures.whole)) c.write_groups.ensures.ok

pub returns-clause-begun : goal.returns-clause-begun
returns-clause-begun g c =
    rw (sym (run_bytes c.args.table.now.chars.now c.chunks-chunks.result c.args.digits.now c.args.count c.chunks-chunks.ensures.whole)) c.write_groups.ensures.begun
