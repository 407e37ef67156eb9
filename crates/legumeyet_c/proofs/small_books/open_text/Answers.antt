use Rattle.std.proofs.Common.{inl}
use Rattle.legumeyet_c.specs.Kinds.{format_in}
use Rattle.legumeyet_c.proofs.OpeningLemmas.{opening_refused}
use Rattle.legumeyet_c.proofs.SmallBookLemmas.{opening_said}
use Rattle.legumeyet_c.proofs.small_books.open_text.Goals as goal

pub returns-in-Ok : goal.returns-in-Ok
returns-in-Ok c =
    let said = c.in-Ok.ensures.value in
    opening_said c.args.text.items c.args.asked.now c.args.tag.now c.in-Ok.book (record { value = said.0; reads = said.1; is_book = said.2 }) _ _ _ c.open_in-opened.ensures

pub returns-in-Err : goal.returns-in-Err
returns-in-Err c =
    opening_refused format_in _ _ c.args.handle.now.pointer.value _ (inl (record { fault = c.in-Err.fault; refused = c.in-Err.ensures.refused; told = c.error_of.ensures }))
