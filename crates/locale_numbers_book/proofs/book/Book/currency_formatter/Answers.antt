use Rattle.std.proofs.Common.{◌≡◌, ◌⊎◌, Result, Ok, Err, inr, refl, subst, sym}
use Rattle.std.specs.Prelude.{IfErr, IfOk}
use Rattle.icu_dimension.specs.FoundUnits.{CurrencySettings}
use Rattle.icu_dimension.specs.HeldFormatters.{currency_settings_of}
use Rattle.locale_numbers_book.specs.declared.formatter_error.FormatterError.{FormatterError}
use Rattle.locale_numbers_book.proofs.UnitLemmas.{code_read}
use Rattle.locale_numbers_book.proofs.book.Book.currency_formatter.Goals as goal

pub returns-in-Ok-clause-value : goal.returns-in-Ok-clause-value
returns-in-Ok-clause-value c =
    let read = code_read c.args.self.now c.args.tag.now c.args.code.now c.in-Ok.code c.args.options c.in-Ok.ensures.0 c.in-Ok.ensures.1 in
    subst (λ (r : Result CurrencySettings FormatterError). IfOk c.formatter_of_code.result (λ formatter. r ≡ Ok (currency_settings_of formatter))) (sym read) c.formatter_of_code.ensures.value

pub returns-in-Ok-clause-fault : goal.returns-in-Ok-clause-fault
returns-in-Ok-clause-fault c =
    let read = code_read c.args.self.now c.args.tag.now c.args.code.now c.in-Ok.code c.args.options c.in-Ok.ensures.0 c.in-Ok.ensures.1 in
    subst (λ (r : Result CurrencySettings FormatterError). IfErr c.formatter_of_code.result (λ fault. (fault ≡ FormatterError.Memory) ⊎ (r ≡ Err fault))) (sym read) c.formatter_of_code.ensures.fault

pub returns-in-Err-clause-fault : goal.returns-in-Err-clause-fault
returns-in-Err-clause-fault c = inr (rw c.in-Err.ensures.0 refl)
