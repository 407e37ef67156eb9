use Rattle.std.proofs.Common.{sym, subst, Option, ap}
use Rattle.locale_numbers.specs.Book.{BookTables}
use Rattle.legumeyet_c.specs.HeldFormats.{HeldFormat}
use Rattle.legumeyet_c.specs.Kinds.{book_in, format_in}
use Rattle.legumeyet_c.specs.Opening.{FindsFormat, IsFindingFault}
use Rattle.legumeyet_c.proofs.OpeningLemmas.{memory_misses, opening_by, opening_refused}
use Rattle.legumeyet_c.proofs.format_opening.open.Goals as goal

pub returns-in-Ok-clause-told : goal.returns-in-Ok-clause-told
returns-in-Ok-clause-told c =
    let book = book_in c.args.book.now.pointer.value in
    let found = subst (λ (b : Option BookTables). FindsFormat b c.args.asked.now c.args.tag.now c.in-Ok.held) (ap book_in c.content.ensures.value) c.in-Ok.ensures.value in
    opening_by format_in _ _ _
    (λ x is. subst (λ (h : HeldFormat). FindsFormat book c.args.asked.now c.args.tag.now h) (sym is) found)
    (memory_misses book c.args.asked.now c.args.tag.now c.in-Ok.held found)
    c.put_after.ensures

pub returns-in-Err-clause-told : goal.returns-in-Err-clause-told
returns-in-Err-clause-told c =
    opening_refused format_in _ _ c.args.handle.now.pointer.value _
    (subst (λ (b : Option BookTables). IsFindingFault b c.args.asked.now c.args.tag.now c.in-Err.error) (ap book_in c.content.ensures.value) c.in-Err.ensures.fault)
