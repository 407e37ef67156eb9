-- Values from outside that a wrong definition does not survive: the tables of docs/units.md, "Lenient reading".
use Rattle.std.proofs.Common.{◌≡◌, ℕ, true, List, [], ◌∷◌, ◌++◌, None, Some, refl}
use Rattle.std.specs.Prelude.{codes}
use Rattle.std.specs.Str.{chars, trim_start, trim_end}
use Rattle.fixed_decimal.specs.declared.Sign.TheVariants.{None as NoSign, Negative}
use lib.Utf8.{encode}
use Rattle.icu_decimal_reading.specs.DecimalOfText.{PlainReading, not_written}
use Rattle.icu_decimal_lenient.specs.Folding.{fold_of, folded_symbols}
use Rattle.icu_decimal_lenient.proofs.KnownLenient.{english, number}
use Rattle.icu_dimension_affixes.specs.UnitPatterns.{AffixesText, PatternTexts}
use Rattle.icu_dimension_affixes.specs.UnitText.{UnitSettings}
use Rattle.icu_dimension_affixes.specs.declared.affixes.UnitPlace.TheVariants.{Before}
use Rattle.icu_dimension_affixes.specs.declared.unit.UnitKind.TheVariants.{Currency}
use Rattle.icu_dimension_lenient.specs.Agreement.{agreed_reading}
use Rattle.icu_dimension_lenient.specs.LenientUnits.{LenientTexts, folded_ways, is_leniently_unit_readable_by, lenient_texts, read_own, typed_unit_reading}

-- U+20AC and U+00A0, in UTF-8
abbrev pub euro : List ℕ
euro = 226 ∷ 130 ∷ 172 ∷ []

abbrev no_break_space : List ℕ
no_break_space = 194 ∷ 160 ∷ []

abbrev pub before : List ℕ → List ℕ → List ℕ → AffixesText
before first second third = record { place = Before; first = first; second = second; third = third }

abbrev pub settings : PatternTexts → List ℕ → UnitSettings
settings pattern unit = record { tables = english; pattern = pattern; unit = record { kind = Currency; text = unit } }

-- in English `€`, in accounting `$`, and `Rs`, which is written `Rs 5`
abbrev pub euros : LenientTexts
euros = lenient_texts (settings (record { unsigned = before [] [] []; minus = None; plus = None }) euro) (codes "EUR")

abbrev accounts : LenientTexts
accounts = lenient_texts (settings (record { unsigned = before [] [] []; minus = Some (before (codes "(") [] (codes ")")); plus = Some (before (codes "+") [] []) }) (codes "$")) (codes "USD")

abbrev rupees : LenientTexts
rupees = lenient_texts (settings (record { unsigned = before [] no_break_space []; minus = None; plus = None }) (codes "Rs")) (codes "PKR")

abbrev typed : LenientTexts → List ℕ → PlainReading
typed a text = agreed_reading (folded_ways (folded_symbols english) a.folded text)

of_euros : is_leniently_unit_readable_by euros ≡ true
unfolding fold_of chars encode
of_euros = refl

of_accounts : is_leniently_unit_readable_by accounts ≡ true
unfolding fold_of chars encode
of_accounts = refl

-- without groups

ungrouped : read_own (folded_symbols english) euros.folded.pairs (euro ++ codes "1234.5") ≡ number NoSign 12345 4 1
unfolding fold_of chars trim_start trim_end encode
ungrouped = refl

-- on the other side, with a space and without

after : typed euros (codes "5" ++ euro) ≡ number NoSign 5 1 0
unfolding fold_of chars trim_start trim_end encode
after = refl

pub after_space : typed euros (codes "5 " ++ euro) ≡ number NoSign 5 1 0
unfolding fold_of chars trim_start trim_end encode
after_space = refl

before_space : typed euros (euro ++ codes " 5") ≡ number NoSign 5 1 0
unfolding fold_of chars trim_start trim_end encode
before_space = refl

code_before : typed euros (codes "EUR 5") ≡ number NoSign 5 1 0
unfolding fold_of chars trim_start trim_end encode
code_before = refl

code_after : typed euros (codes "5EUR") ≡ number NoSign 5 1 0
unfolding fold_of chars trim_start trim_end encode
code_after = refl

-- signs

sign_next : typed euros (euro ++ codes "-5") ≡ number Negative 5 1 0
unfolding fold_of chars trim_start trim_end encode
sign_next = refl

sign_outside : typed euros (codes "-" ++ (euro ++ codes " 5")) ≡ number Negative 5 1 0
unfolding fold_of chars trim_start trim_end encode
sign_outside = refl

in_parentheses : typed accounts (codes "($1234.5)") ≡ number Negative 12345 4 1
unfolding fold_of chars trim_start trim_end encode
in_parentheses = refl

-- none

half_grouped : typed euros (euro ++ codes "1,23") ≡ not_written
unfolding fold_of chars trim_start trim_end encode
half_grouped = refl

other_currency : typed euros (codes "$5") ≡ not_written
unfolding fold_of chars trim_start trim_end encode
other_currency = refl

two_units : typed euros (euro ++ (codes "5" ++ euro)) ≡ not_written
unfolding fold_of chars trim_start trim_end encode
two_units = refl

unit_and_code : typed euros (euro ++ codes "5 EUR") ≡ not_written
unfolding fold_of chars trim_start trim_end encode
unit_and_code = refl

half_parentheses : typed accounts (codes "($5") ≡ not_written
unfolding fold_of chars trim_start trim_end encode
half_parentheses = refl

-- filled between the affixes alone

filled_amount : typed euros (euro ++ codes ".5") ≡ number NoSign 5 1 1
unfolding fold_of chars trim_start trim_end encode
filled_amount = refl

abbreviation : typed rupees (codes "Rs.5") ≡ not_written
unfolding fold_of chars trim_start trim_end encode
abbreviation = refl

without_space : typed rupees (codes "Rs5") ≡ number NoSign 5 1 0
unfolding fold_of chars trim_start trim_end encode
without_space = refl

-- two ways

abbrev points : LenientTexts
points = lenient_texts (settings (record { unsigned = before [] [] []; minus = None; plus = None }) (codes ".")) (codes "XAD")

two_ways : typed_unit_reading english points.folded (codes " .50") ≡ not_written
unfolding fold_of chars trim_start trim_end encode
two_ways = refl

one_way : typed_unit_reading english points.folded (codes "XAD 0.50") ≡ number NoSign 50 1 2
unfolding fold_of chars trim_start trim_end encode
one_way = refl
