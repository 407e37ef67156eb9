use Rattle.std.proofs.Common.{◌<◌, length, arith}
use Rattle.tinystr.specs.Lossy.{kept_or_replacement}
use Rattle.tinystr.proofs.LossyLemmas.{put_more}
use Rattle.tinystr.proofs.utf16.put_lossy_utf16.Goals as goal

pub loop-i-preserved : goal.loop-i-preserved
loop-i-preserved c =
    let within : c.loop-i.i < length c.args.units.now = omega arith in
    let room : c.loop-i.i < length c.args.bytes.now = omega arith in
    rw c.lossy_byte.ensures (put_more (kept_or_replacement c.args.replacement) c.args.units.now c.args.bytes.now c.loop-i.bytes c.loop-i.i within room c.loop-i.invariant)
