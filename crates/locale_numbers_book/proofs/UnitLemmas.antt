-- What a book has of units or of plurals, and the code of a currency that is read: `specs/Tables.antt` and `specs/TagFormatters.antt`.
use Rattle.std.proofs.Common.{◌≡◌, true, Option, None, Some, option_and_then, Result, Err, refl, sym, ap, ◌∙◌}
use Rattle.icu_decimal.specs.Choice.{answered}
use Rattle.icu_decimal.specs.declared.error.DataError.{DataError}
use Rattle.icu_dimension.specs.CurrencyCodes.{is_currency_code}
use Rattle.icu_dimension.specs.declared.CurrencyFormatterOptions.{CurrencyFormatterOptions}
use Rattle.icu_locale_core.specs.Subtags.{Text}
use Rattle.locale_numbers_book.specs.Book.{BookTables}
use Rattle.locale_numbers_book.specs.TagFormatters.{currency_for, currency_found_in, found_by}
use Rattle.locale_numbers_book.specs.Wanted.{wanted_of}

-- units, or plurals
module _ {P T : Type 0} (find : P → Option T) (there : Option P) where
  -- what they have
  pub of_part : (part : P) (result : Result T DataError) → there ≡ Some part → result ≡ answered (find part) → result ≡ answered (option_and_then find there)
  of_part part result held is = is ∙ ap (λ (o : Option P). answered (option_and_then find o)) (sym held)

  -- without them nothing is there
  pub without_part : there ≡ None → Err DataError.IdentifierNotFound ≡ answered (option_and_then find there)
  without_part held = ap (λ (o : Option P). answered (option_and_then find o)) (sym held)

-- a code that is read is the text itself
pub code_read : (book : BookTables) (tag code read : Text) (options : CurrencyFormatterOptions) → is_currency_code code ≡ true → read ≡ code
    → currency_for book tag code options ≡ found_by (λ preferences. currency_found_in book preferences read options) (wanted_of tag)
code_read book tag code read options is same =
    let here : currency_for book tag code options ≡ found_by (λ preferences. currency_found_in book preferences code options) (wanted_of tag) = rw is refl in
    here ∙ ap (λ (c : Text). found_by (λ preferences. currency_found_in book preferences c options) (wanted_of tag)) (sym same)
