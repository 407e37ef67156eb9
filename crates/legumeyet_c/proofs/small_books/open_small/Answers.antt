use Rattle.legumeyet_c.specs.Kinds.{format_in}
use Rattle.legumeyet_c.proofs.OpeningLemmas.{opening_refused}
use Rattle.legumeyet_c.proofs.SmallBookLemmas.{small_opening, unwanted_missed}
use Rattle.legumeyet_c.proofs.small_books.open_small.Goals as goal

pub returns-in-Ok : goal.returns-in-Ok
returns-in-Ok c =
    small_opening c.args.texts.now c.args.asked.now c.args.tag.now c.in-Ok.text.items _ _ _ c.in-Ok.ensures.value c.open_text.ensures

pub returns-in-Err : goal.returns-in-Err
returns-in-Err c =
    opening_refused format_in _ _ c.args.handle.now.pointer.value _ (unwanted_missed c.args.texts.now c.args.asked.now c.args.tag.now c.in-Err.error c.in-Err.ensures.fault)
