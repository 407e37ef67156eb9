use Rattle.std.proofs.Common.{sym, ap, inr, rules}
use Rattle.locale_numbers_book.specs.TagFormatters.{or_no_table}
use Rattle.locale_numbers_book.proofs.book.Book.found_locale.Goals as goal

pub returns-in_err-preferences-clause-single : goal.returns-in_err-preferences-clause-single
returns-in_err-preferences-clause-single c = λ m means.
    let kept = c.in_err-preferences.ensures.single m means in
    let same = c.from_residual.ensures.1 in
    search rules

pub returns-in-Err-clause-fault : goal.returns-in-Err-clause-fault
returns-in-Err-clause-fault c = inr (rw c.in_ok-preferences.ensures.value (ap or_no_table (sym c.in-Err.ensures)))

pub returns-in-Ok-clause-value : goal.returns-in-Ok-clause-value
returns-in-Ok-clause-value c = rw c.in_ok-preferences.ensures.value (ap or_no_table (sym c.in-Ok.ensures))
