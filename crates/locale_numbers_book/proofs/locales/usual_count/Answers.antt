use Rattle.std.proofs.Common.{arith}
use Rattle.locale_numbers_book.proofs.LocaleLemmas.{usual_within}
use Rattle.locale_numbers_book.proofs.locales.usual_count.Goals as goal

pub overflow_add-count : goal.overflow_add-count
overflow_add-count c =
    let whole = usual_within c.args.symbols.now.entries in
    omega (arith, c.loop-id.invariant, whole, c.iter-id-items.ensures.fits)
