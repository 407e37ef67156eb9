use Rattle.std.proofs.Common.{sym, ap, inr, rules}
use Rattle.icu_decimal.specs.Choice.{answered}
use Rattle.locale_numbers_book.specs.TagFormatters.{or_no_table}
use Rattle.locale_numbers_book.proofs.book.Book.plural_rules.Goals as goal

pub returns-in_err-preferences-clause-single : goal.returns-in_err-preferences-clause-single
returns-in_err-preferences-clause-single c = λ m means.
    let kept = c.in_err-preferences.ensures.single m means in
    let same = c.from_residual.ensures.1 in
    search rules

pub returns-in-None-clause-fault : goal.returns-in-None-clause-fault
returns-in-None-clause-fault c = inr (rw c.in_ok-preferences.ensures.value (ap (λ found. or_no_table (answered found)) (sym c.in-None.ensures)))

pub returns-in-Some-clause-value : goal.returns-in-Some-clause-value
returns-in-Some-clause-value c = rw c.in_ok-preferences.ensures.value (ap (λ found. or_no_table (answered found)) (sym c.in-Some.ensures))
