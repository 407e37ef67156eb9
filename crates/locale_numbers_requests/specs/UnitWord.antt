-- Which unit a word names: percents by their sign, or a currency by how amounts of it are written and its code.
-- Defined in docs/requests.md, "Units".
-- Cited by `answer` and `run`, through FormField.antt.
use Rattle.std.specs.Prelude.{ℕ, ◌-◌, if◌then◌else◌, List, drop, length, take, Option, Some, None, codes}
use Rattle.std.specs.Str.{bytes_eq}
use Rattle.icu_dimension_fractions.specs.CurrencyCodes.{is_currency_code}
use Rattle.icu_dimension_fractions.specs.declared.CurrencyStyle.TheVariants as style
use Rattle.icu_dimension_fractions.specs.declared.CurrencyWidth.TheVariants as width
use Rattle.icu_dimension_fractions.specs.declared.PercentSign.{PercentSign}
use Rattle.icu_dimension_fractions.specs.declared.PercentSign.TheVariants as sign
use Rattle.locale_numbers_formats.specs.declared.NumberUnit.{NumberUnit}
use Rattle.locale_numbers_formats.specs.declared.NumberUnit.TheVariants.{Percent, Currency}
use Rattle.locale_numbers_requests.specs.declared.unit_word.AmountWord.{AmountWord}

-- the sign of percents
abbrev pub sign_of_percents : List ℕ → Option PercentSign
sign_of_percents word =
    if bytes_eq word (codes "percent") then Some sign.Percent
    else if bytes_eq word (codes "permille") then Some sign.Permille
    else None

-- how an amount is written, by what is before the code
abbrev pub amount_word : List ℕ → Option AmountWord
amount_word front =
    if bytes_eq front (codes "currency-") then Some (record { style = style.Standard; width = width.Short })
    else if bytes_eq front (codes "accounting-") then Some (record { style = style.Accounting; width = width.Short })
    else if bytes_eq front (codes "code-") then Some (record { style = style.Standard; width = width.IsoCode })
    else None

-- the currency of a code, where it is one
abbrev pub amount_by : Option AmountWord → List ℕ → Option NumberUnit
amount_by None code = None
amount_by (Some word) code =
    if is_currency_code code then Some (Currency (record { code = code; style = word.style; width = word.width })) else None

-- a code is the three last letters of a word
abbrev pub amount_named : List ℕ → Option NumberUnit
amount_named word = amount_by (amount_word (take (length word - 3) word)) (drop (length word - 3) word)

-- percents, or amounts of a currency
abbrev pub percents_or : Option PercentSign → Option NumberUnit → Option NumberUnit
percents_or None other = other
percents_or (Some sign) other = Some (Percent sign)

-- the unit that a word names
abbrev pub unit_named : List ℕ → Option NumberUnit
unit_named word = percents_or (sign_of_percents word) (amount_named word)
