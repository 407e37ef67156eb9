use Rattle.std.proofs.Common.{◌≡◌, ◌<◌, length, replicate, arith}
use Rattle.std.proofs.lemmas.List.{length-replicate}
use Rattle.tinystr.specs.SmallText.{NUL}
use Rattle.tinystr.proofs.LossyLemmas.{put_same}
use Rattle.tinystr.proofs.asciibyte.to_ascii_byte_array.Goals as goal

pub loop-i-preserved : goal.loop-i-preserved
loop-i-preserved g c =
    let long : length (replicate g.row.N NUL) ≡ g.row.N = length-replicate g.row.N NUL in
    let within : c.loop-i.i < length c.args.bytes.now = omega (arith, c.told-bytes) in
    let room : c.loop-i.i < length (replicate g.row.N NUL) = omega (arith, long) in
    put_same c.args.bytes.now (replicate g.row.N NUL) c.loop-i.all c.loop-i.i within room c.loop-i.invariant
