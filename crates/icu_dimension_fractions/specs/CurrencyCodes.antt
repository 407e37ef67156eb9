-- When a text is the code of a currency: three letters `A` to `Z`.
-- ISO 4217; docs/units.md, "Codes of currencies".
-- Cited by the calls of `CurrencyCode`.
use Rattle.std.specs.Prelude.{ℕ, Bool, ◌&&◌, ◌==◌, List, length}
use Rattle.std.specs.List.{list_all}
use Rattle.std.specs.Char.{is_ascii_uppercase}
use Rattle.icu_dimension_fractions.specs.declared.code.CurrencyCodeError.{CurrencyCodeError}

abbrev pub is_currency_code : List ℕ → Bool
is_currency_code text = length text == 3 && list_all is_ascii_uppercase text

abbrev pub code_error_number : CurrencyCodeError → ℕ
code_error_number CurrencyCodeError.NoCode = 1
