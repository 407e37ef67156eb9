use Rattle.std.proofs.Common.{arith, sym}
use Rattle.writeable_bytes.proofs.LaidLemmas.{laid_beyond, copied_whole, copied_cut}
use Rattle.writeable_bytes.proofs.laying.lay.Goals as goal

pub returns-then-from-out : goal.returns-then-from-out
returns-then-from-out c = sym (laid_beyond c.args.from c.args.text.now c.args.out.now (omega arith))

pub returns-then-text-room : goal.returns-then-text-room
returns-then-text-room c =
    copied_whole c.args.from _ c.args.text.now c.args.out.now _ (omega arith) (omega arith) c.copy_from_slice.ensures.after

pub returns-else-text-room : goal.returns-else-text-room
returns-else-text-room c =
    copied_cut c.args.from _ c.args.text.now c.args.out.now _ (omega arith) (omega arith)
    c.copy_from_slice-else-text-room.ensures.after
