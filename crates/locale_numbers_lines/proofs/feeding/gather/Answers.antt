use Rattle.std.proofs.Common.{lit<, rules, refl}
use Rattle.std.proofs.lemmas.Result.{err_from_is_err_and}
use Rattle.locale_numbers_lines.proofs.ProgressLemmas.{progress_begun, progress_line, progress_moved, progress_held, progress_answered, answered_part}
use Rattle.locale_numbers_lines.proofs.feeding.gather.Goals as goal

pub line-init : goal.line-init
line-init g c = record {
  came = progress_begun _ _ _ _ _ _ _ c.requires.cut c.requires.nothing c.ranges.lines.fits;
  same = search rules;
  can_answer = search rules;
  well = search rules;
  short = rw c.requires.nothing (lit< tt);
}

pub line-preserved : goal.line-preserved
line-preserved g c =
    let done = c.in_ok-answer_held.ensures in
    record {
      came = progress_moved _ _ _ _ _ _ _ _ _ _ _ _ _ (progress_line _ _ _ _ _ _ _ _ _ _ _ _ _ _ _ _ _ _ c.line.invariant.came c.in-Some.ensures.parts c.line.invariant.same done.text done.made c.saturating_add-count.ensures done.gone)
          c.in_ok-write_full.ensures.moved;
      same = search rules;
      can_answer = search rules;
      well = search rules;
      short = c.in_ok-write_full.ensures.short;
    }

pub returns-in_err-write_full-clause-came : goal.returns-in_err-write_full-clause-came
returns-in_err-write_full-clause-came g c =
    let p = err_from_is_err_and c.from_residual-in_err-write_full.result c.from_residual-in_err-write_full.ensures.1 in
    let done = c.in_ok-answer_held.ensures in
    rw (p.1, p.2)
    (answered_part _ _ _ _ _ _ (progress_answered _ _ _ _ _ _ _ _ _ _ _ _ (progress_line _ _ _ _ _ _ _ _ _ _ _ _ _ _ _ _ _ _ c.line.invariant.came c.in-Some.ensures.parts c.line.invariant.same done.text done.made c.saturating_add-count.ensures done.gone) refl)
    c.in_err-write_full.ensures.moved)

pub returns-clause-came : goal.returns-clause-came
returns-clause-came g c = progress_held _ _ _ _ _ _ _ _ _ _ _ _ c.line.invariant.came c.in_default.ensures.parts c.in_ok-extend_from_slice.ensures.items
