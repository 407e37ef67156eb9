use Rattle.std.proofs.Common.{◌+◌, ◌≤◌, length, arith}
use Rattle.tinystr_words.proofs.CutLaws.{change_goes_on}
use Rattle.tinystr_words.proofs.slices.change.Goals as goal

pub loop-from-preserved : goal.loop-from-preserved
loop-from-preserved g c =
    let within : c.loop-from.from + c.min-count.result ≤ length c.args.bytes.now = omega arith in (
      within,
      change_goes_on g.C.WordChange.change c.args.bytes.now c.loop-from.bytes c.change_at.new.bytes c.loop-from.from c.min-count.result within
          c.loop-from.invariant.1 c.change_at.ensures,
    )
