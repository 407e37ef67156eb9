use Rattle.std.proofs.Common.{Some, sym, subst}
use Rattle.legumeyet_c.specs.HeldFormats.{HeldFormat}
use Rattle.legumeyet_c.specs.Kinds.{format_in}
use Rattle.legumeyet_c.specs.Opening.{FindsFormat}
use Rattle.legumeyet_c.proofs.OpeningLemmas.{memory_misses, opening_by, opening_refused}
use Rattle.legumeyet_c.proofs.small_books.open_in.Goals as goal

pub returns-in-Ok : goal.returns-in-Ok
returns-in-Ok c =
    opening_by format_in _ _ _
    (λ x is. subst (λ (h : HeldFormat). FindsFormat (Some c.args.book.now) c.args.asked.now c.args.tag.now h) (sym is) c.in-Ok.ensures.value)
    (memory_misses (Some c.args.book.now) c.args.asked.now c.args.tag.now c.in-Ok.held c.in-Ok.ensures.value)
    c.put_after.ensures

pub returns-in-Err : goal.returns-in-Err
returns-in-Err c = opening_refused format_in _ _ c.args.handle.now.pointer.value _ c.in-Err.ensures.fault
