use Rattle.std.proofs.Common.{arith}
use Rattle.icu_decimal_direct.proofs.PuttingLemmas.{begin_put}
use Rattle.icu_decimal_direct.proofs.putting.put_begin.Goals as goal

pub returns-clause-text : goal.returns-clause-text
returns-clause-text g c =
    let told = c.told-out in
    let room = c.requires.room in
    begin_put c.args.out.now c.args.bytes.now c.args.len c.args.count (omega (arith, told, room)) c.requires.long c.requires.few
