use Rattle.std.proofs.Common.{arith}
use Rattle.icu_decimal_direct.proofs.ShortLemmas.{laid_put}
use Rattle.icu_decimal_direct.proofs.short_text.ShortText.put.Goals as goal

pub returns-clause-text : goal.returns-clause-text
returns-clause-text g c =
    let told = c.told-out in
    let room = c.requires.room in
    laid_put c.args.out.now c.args.self.now.bytes _ c.lay.new.bytes c.args.len c.args.self.now.len 32 (omega (arith, told, room)) c.args.self.now.held.long c.args.self.now.held.few c.lay.ensures
