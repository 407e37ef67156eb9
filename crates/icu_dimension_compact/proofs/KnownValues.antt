-- Rows of compact amounts, as Intl of Node 20 (CLDR 48) writes them, so that a wrong definition does not pass.
use Rattle.std.proofs.Common.{◌≡◌, ℕ, ◌+◌, ◌*◌, ◌^◌, true, false, List, [], ◌∷◌, ◌++◌, None, Some, codes, lit≤}
use Rattle.fixed_decimal.specs.Number.{Number}
use Rattle.fixed_decimal.specs.SignedValue.{SignedValue}
use Rattle.fixed_decimal.specs.declared.Sign.TheVariants.{None as NoSign, Negative}
use Rattle.icu_decimal_compact_value.specs.declared.entry.CompactEntry.{CompactEntry}
use Rattle.icu_decimal_patterns.specs.Elements.{only_other, with_few}
use Rattle.icu_decimal_plurals.specs.Rules.{Rules}
use Rattle.icu_decimal_plurals.specs.declared.operand.Operand.TheVariants as operand
use Rattle.icu_decimal.specs.Symbols.{SymbolStrings, english_strings, english_symbols}
use Rattle.icu_decimal.specs.declared.options.GroupingStrategy.TheVariants.{Min2}
use Rattle.icu_decimal.specs.CompactText.{lowest_place}
use Rattle.icu_dimension_affixes.specs.UnitPatterns.{AffixesText, PatternTexts}
use Rattle.icu_dimension_affixes.specs.declared.affixes.UnitPlace.TheVariants.{Before, After}
use Rattle.icu_dimension_affixes.specs.declared.patterns.LetterEnds.{LetterEnds}
use Rattle.icu_dimension_affixes.specs.declared.unit.UnitKind.TheVariants.{Currency}
use Rattle.icu_dimension_compact.specs.AmountTables.{AmountTable}
use Rattle.icu_dimension_compact.specs.CompactAmounts.{AmountSettings, amount_of}
use Rattle.icu_dimension_compact.proofs.AmountRowLemmas.{said, said_at}

-- U+00A0 and U+200F, in UTF-8
abbrev apart : List ℕ
apart = 194 ∷ 160 ∷ []

abbrev right_to_left : List ℕ
right_to_left = 226 ∷ 128 ∷ 143 ∷ []

-- affixes with the currency before the number, and after it
abbrev before : List ℕ → List ℕ → List ℕ → AffixesText
before first second third = record { place = Before; first = first; second = second; third = third }

abbrev after : List ℕ → List ℕ → List ℕ → AffixesText
after first second third = record { place = After; first = first; second = second; third = third }

-- a pattern with no affixes of a sign's own, and with some
abbrev alone : AffixesText → PatternTexts
alone unsigned = record { unsigned = unsigned; minus = None; plus = None }

abbrev with_own : AffixesText → AffixesText → AffixesText → PatternTexts
with_own unsigned minus plus = record { unsigned = unsigned; minus = Some minus; plus = Some plus }

abbrev typed : ℕ → ℕ → CompactEntry
typed log10_type exponent = record { log10_type = log10_type; exponent = exponent }

-- the ends of `$`, `US$`, and `CHF` that are letters
abbrev no_letter : LetterEnds
no_letter = record { first = false; last = false }

abbrev first_letter : LetterEnds
first_letter = record { first = true; last = false }

abbrev both_letters : LetterEnds
both_letters = record { first = true; last = true }

-- the rules of languages whose types have only `other`, and of Arabic, of which `few` is asked for: n % 100 = 3..10
abbrev no_rules : Rules
no_rules = record { zero = None; one = None; two = None; few = None; many = None }

abbrev arabic_rules : Rules
arabic_rules = record no_rules { few = Some ((record { operand = operand.N; modulus = Some 100; is_denied = false; intervals = record { low = 3; high = 10 } ∷ [] } ∷ []) ∷ []) }

abbrev symbols : List ℕ → List ℕ → List ℕ → List ℕ → SymbolStrings
symbols minus plus point group = record english_strings { minus_sign_prefix = minus; plus_sign_prefix = plus; decimal_separator = point; grouping_separator = group }

abbrev written_with : SymbolStrings → Rules → AmountTable → PatternTexts → List ℕ → LetterEnds → AmountSettings
written_with strings rules table pattern text ends = record {
  plain = record {
    tables = record { symbols = record { strings = strings; grouping_sizes = english_symbols.grouping_sizes }; digits = codes "0123456789"; strategy = Min2 };
    pattern = pattern;
    unit = record { kind = Currency; text = text };
  };
  ends = ends;
  rules = rules;
  table = table;
}

-- a whole number that is shown with so many digits, and one with one digit of a fraction
abbrev whole : ℕ → ℕ → Number
whole n digits = record { count = n * 10 ^ 32768; low = 32768; high = 32767 + digits }

abbrev tenths : ℕ → ℕ → Number
tenths n digits = record { count = n * 10 ^ 32767; low = 32767; high = 32767 + digits }

abbrev plain : Number → SignedValue Number
plain n = record { sign = NoSign; absolute = n }

abbrev minus : Number → SignedValue Number
minus n = record { sign = Negative; absolute = n }

-- ---- tables of CLDR 48, as far as rows need them

abbrev english_types : AmountTable
english_types = record {
  entries = typed 3 3 ∷ typed 6 6 ∷ typed 9 9 ∷ [];
  patterns =
      Some (only_other (record { standard = (alone (before [] [] (codes "K"))); alpha_next_to_number = Some (alone (before [] apart (codes "K"))) }))
      ∷ Some (only_other (record { standard = (alone (before [] [] (codes "M"))); alpha_next_to_number = Some (alone (before [] apart (codes "M"))) }))
      ∷ Some (only_other (record { standard = (alone (before [] [] (codes "B"))); alpha_next_to_number = Some (alone (before [] apart (codes "B"))) }))
      ∷ [];
}

abbrev english : PatternTexts → List ℕ → LetterEnds → AmountSettings
english = written_with (symbols (codes "-") (codes "+") (codes ".") (codes ",")) no_rules english_types

abbrev german_types : AmountTable
german_types = record {
  entries = typed 3 0 ∷ typed 6 6 ∷ [];
  patterns =
      None
      ∷ Some (only_other (record { standard = (alone (after [] (apart ++ (codes "Mio." ++ apart)) [])); alpha_next_to_number = None }))
      ∷ [];
}

abbrev german : PatternTexts → List ℕ → LetterEnds → AmountSettings
german = written_with (symbols (codes "-") (codes "+") (codes ",") (codes ".")) no_rules german_types

abbrev french_types : AmountTable
french_types = record {
  entries = typed 3 3 ∷ [];
  patterns =
      Some (only_other (record { standard = (alone (after [] (apart ++ (codes "k" ++ apart)) [])); alpha_next_to_number = None }))
      ∷ [];
}

abbrev french : PatternTexts → List ℕ → LetterEnds → AmountSettings
french = written_with (symbols (codes "-") (codes "+") (codes ",") (226 ∷ 128 ∷ 175 ∷ [])) no_rules french_types

abbrev spanish_types : AmountTable
spanish_types = record {
  entries = typed 6 6 ∷ typed 10 9 ∷ [];
  patterns =
      Some (only_other (record { standard = (alone (after [] (apart ++ (codes "M" ++ apart)) [])); alpha_next_to_number = None }))
      ∷ Some (only_other (record { standard = (alone (after [] (apart ++ (codes "mil" ++ (apart ++ (codes "M" ++ apart)))) [])); alpha_next_to_number = None }))
      ∷ [];
}

abbrev spanish : PatternTexts → List ℕ → LetterEnds → AmountSettings
spanish = written_with (symbols (codes "-") (codes "+") (codes ",") (codes ".")) no_rules spanish_types

abbrev japanese_types : AmountTable
japanese_types = record {
  entries = typed 3 0 ∷ typed 4 4 ∷ [];
  patterns =
      None
      ∷ Some (only_other (record { standard = (alone (before [] [] (228 ∷ 184 ∷ 135 ∷ []))); alpha_next_to_number = Some (alone (before [] apart (228 ∷ 184 ∷ 135 ∷ []))) }))
      ∷ [];
}

abbrev japanese : PatternTexts → List ℕ → LetterEnds → AmountSettings
japanese = written_with (symbols (codes "-") (codes "+") (codes ".") (codes ",")) no_rules japanese_types

abbrev hindi_types : AmountTable
hindi_types = record {
  entries = typed 3 3 ∷ typed 5 5 ∷ [];
  patterns =
      Some (only_other (record { standard = (alone (before [] [] (194 ∷ 160 ∷ 224 ∷ 164 ∷ 185 ∷ 224 ∷ 164 ∷ 156 ∷ 224 ∷ 164 ∷ 188 ∷ 224 ∷ 164 ∷ 190 ∷ 224 ∷ 164 ∷ 176 ∷ []))); alpha_next_to_number = Some (alone (before [] apart (194 ∷ 160 ∷ 224 ∷ 164 ∷ 185 ∷ 224 ∷ 164 ∷ 156 ∷ 224 ∷ 164 ∷ 188 ∷ 224 ∷ 164 ∷ 190 ∷ 224 ∷ 164 ∷ 176 ∷ []))) }))
      ∷ Some (only_other (record { standard = (alone (before [] [] (194 ∷ 160 ∷ 224 ∷ 164 ∷ 178 ∷ 224 ∷ 164 ∷ 190 ∷ 224 ∷ 164 ∷ 150 ∷ []))); alpha_next_to_number = Some (alone (before [] apart (194 ∷ 160 ∷ 224 ∷ 164 ∷ 178 ∷ 224 ∷ 164 ∷ 190 ∷ 224 ∷ 164 ∷ 150 ∷ []))) }))
      ∷ [];
}

abbrev hindi : PatternTexts → List ℕ → LetterEnds → AmountSettings
hindi = written_with (symbols (codes "-") (codes "+") (codes ".") (codes ",")) no_rules hindi_types

abbrev arabic_types : AmountTable
arabic_types = record {
  entries = typed 3 3 ∷ typed 4 3 ∷ [];
  patterns =
      Some (with_few (only_other (record { standard = (alone (after right_to_left (194 ∷ 160 ∷ 216 ∷ 163 ∷ 217 ∷ 132 ∷ 217 ∷ 129 ∷ 194 ∷ 160 ∷ []) [])); alpha_next_to_number = None })) (Some (record { standard = (alone (after right_to_left (194 ∷ 160 ∷ 216 ∷ 162 ∷ 217 ∷ 132 ∷ 216 ∷ 167 ∷ 217 ∷ 129 ∷ 194 ∷ 160 ∷ []) [])); alpha_next_to_number = None })))
      ∷ Some (only_other (record { standard = (alone (after right_to_left (194 ∷ 160 ∷ 216 ∷ 163 ∷ 217 ∷ 132 ∷ 217 ∷ 129 ∷ 194 ∷ 160 ∷ []) [])); alpha_next_to_number = None }))
      ∷ [];
}

abbrev arabic : PatternTexts → List ℕ → LetterEnds → AmountSettings
arabic = written_with (symbols ((226 ∷ 128 ∷ 142 ∷ []) ++ (codes "-")) ((226 ∷ 128 ∷ 142 ∷ []) ++ (codes "+")) (codes ".") (codes ",")) arabic_rules arabic_types

abbrev hebrew_types : AmountTable
hebrew_types = record {
  entries = typed 3 3 ∷ [];
  patterns =
      Some (only_other (record { standard = (alone (after right_to_left (codes "K" ++ (226 ∷ 128 ∷ 143 ∷ 194 ∷ 160 ∷ 226 ∷ 128 ∷ 143 ∷ [])) [])); alpha_next_to_number = None }))
      ∷ [];
}

abbrev hebrew : PatternTexts → List ℕ → LetterEnds → AmountSettings
hebrew = written_with (symbols ((226 ∷ 128 ∷ 142 ∷ []) ++ (codes "-")) ((226 ∷ 128 ∷ 142 ∷ []) ++ (codes "+")) (codes ".") (codes ",")) no_rules hebrew_types

abbrev polish_types : AmountTable
polish_types = record {
  entries = typed 3 3 ∷ [];
  patterns =
      Some (only_other (record { standard = (alone (after [] (apart ++ (codes "tys." ++ apart)) [])); alpha_next_to_number = None }))
      ∷ [];
}

abbrev polish : PatternTexts → List ℕ → LetterEnds → AmountSettings
polish = written_with (symbols (codes "-") (codes "+") (codes ",") apart) no_rules polish_types

abbrev swahili_types : AmountTable
swahili_types = record {
  entries = typed 3 3 ∷ [];
  patterns =
      Some (only_other (record { standard = (with_own (before [] (apart ++ (codes "elfu" ++ apart)) []) (before [] (apart ++ (codes "elfu" ++ (apart ++ (codes "-")))) []) (before [] (apart ++ (codes "elfu" ++ (apart ++ (codes "+")))) [])); alpha_next_to_number = None }))
      ∷ [];
}

abbrev swahili : PatternTexts → List ℕ → LetterEnds → AmountSettings
swahili = written_with (symbols (codes "-") (codes "+") (codes ".") (codes ",")) no_rules swahili_types

abbrev swiss_german_types : AmountTable
swiss_german_types = record {
  entries = typed 3 0 ∷ typed 6 6 ∷ [];
  patterns =
      None
      ∷ Some (only_other (record { standard = (alone (before [] apart (apart ++ (codes "Mio.")))); alpha_next_to_number = None }))
      ∷ [];
}

abbrev swiss_german : PatternTexts → List ℕ → LetterEnds → AmountSettings
swiss_german = written_with (symbols (codes "-") (codes "+") (codes ".") (226 ∷ 128 ∷ 153 ∷ [])) no_rules swiss_german_types

-- ---- rows

abbrev english_usd : AmountSettings
english_usd = english (alone (before [] [] [])) (codes "$") no_letter

english_usd_999 : said (amount_of english_usd (plain (whole 999 3))) ≡ (codes "$999", 0)
unfolding lowest_place lib.Utf8.encode
english_usd_999 = said_at english_usd (plain (whole 999 3)) 32770 32770 (lit≤ tt) (lit≤ tt) (lit≤ tt) (lit≤ tt)

english_usd_1234 : said (amount_of english_usd (plain (whole 1234 4))) ≡ (codes "$1.2K", 3)
unfolding lowest_place lib.Utf8.encode
english_usd_1234 = said_at english_usd (plain (whole 1234 4)) 32771 32768 (lit≤ tt) (lit≤ tt) (lit≤ tt) (lit≤ tt)

english_usd_12345_6 : said (amount_of english_usd (plain (tenths 123456 5))) ≡ (codes "$12K", 3)
unfolding lowest_place lib.Utf8.encode
english_usd_12345_6 = said_at english_usd (plain (tenths 123456 5)) 32772 32769 (lit≤ tt) (lit≤ tt) (lit≤ tt) (lit≤ tt)

english_usd_999999 : said (amount_of english_usd (plain (whole 999999 6))) ≡ (codes "$1M", 6)
unfolding lowest_place lib.Utf8.encode
english_usd_999999 = said_at english_usd (plain (whole 999999 6)) 32773 32768 (lit≤ tt) (lit≤ tt) (lit≤ tt) (lit≤ tt)

english_usd_1500000 : said (amount_of english_usd (plain (whole 1500000 7))) ≡ (codes "$1.5M", 6)
unfolding lowest_place lib.Utf8.encode
english_usd_1500000 = said_at english_usd (plain (whole 1500000 7)) 32774 32768 (lit≤ tt) (lit≤ tt) (lit≤ tt) (lit≤ tt)

english_usd_1000000000 : said (amount_of english_usd (plain (whole 1000000000 10))) ≡ (codes "$1B", 9)
unfolding lowest_place lib.Utf8.encode
english_usd_1000000000 = said_at english_usd (plain (whole 1000000000 10)) 32777 32768 (lit≤ tt) (lit≤ tt) (lit≤ tt) (lit≤ tt)

english_usd_minus_5 : said (amount_of english_usd (minus (whole 5 1))) ≡ (codes "-$5", 0)
unfolding lowest_place lib.Utf8.encode
english_usd_minus_5 = said_at english_usd (minus (whole 5 1)) 32768 32768 (lit≤ tt) (lit≤ tt) (lit≤ tt) (lit≤ tt)

english_usd_minus_1234 : said (amount_of english_usd (minus (whole 1234 4))) ≡ (codes "-$1.2K", 3)
unfolding lowest_place lib.Utf8.encode
english_usd_minus_1234 = said_at english_usd (minus (whole 1234 4)) 32771 32768 (lit≤ tt) (lit≤ tt) (lit≤ tt) (lit≤ tt)

abbrev english_usd_in_accounting : AmountSettings
english_usd_in_accounting = english (with_own (before [] [] []) (before (codes "(") [] (codes ")")) (before (codes "+") [] [])) (codes "$") no_letter

english_usd_accounting_minus_5 : said (amount_of english_usd_in_accounting (minus (whole 5 1))) ≡ (codes "($5)", 0)
unfolding lowest_place lib.Utf8.encode
english_usd_accounting_minus_5 = said_at english_usd_in_accounting (minus (whole 5 1)) 32768 32768 (lit≤ tt) (lit≤ tt) (lit≤ tt) (lit≤ tt)

english_usd_accounting_minus_1234 : said (amount_of english_usd_in_accounting (minus (whole 1234 4))) ≡ (codes "-$1.2K", 3)
unfolding lowest_place lib.Utf8.encode
english_usd_accounting_minus_1234 = said_at english_usd_in_accounting (minus (whole 1234 4)) 32771 32768 (lit≤ tt) (lit≤ tt) (lit≤ tt) (lit≤ tt)

abbrev english_chf : AmountSettings
english_chf = english (alone (before [] apart [])) (codes "CHF") both_letters

english_chf_1234 : said (amount_of english_chf (plain (whole 1234 4))) ≡ (codes "CHF" ++ (apart ++ (codes "1.2K")), 3)
unfolding lowest_place lib.Utf8.encode
english_chf_1234 = said_at english_chf (plain (whole 1234 4)) 32771 32768 (lit≤ tt) (lit≤ tt) (lit≤ tt) (lit≤ tt)

abbrev english_chf_in_accounting : AmountSettings
english_chf_in_accounting = english (with_own (before [] apart []) (before (codes "(") apart (codes ")")) (before (codes "+") apart [])) (codes "CHF") both_letters

english_chf_accounting_minus_5 : said (amount_of english_chf_in_accounting (minus (whole 5 1))) ≡ (codes "(CHF" ++ (apart ++ (codes "5)")), 0)
unfolding lowest_place lib.Utf8.encode
english_chf_accounting_minus_5 = said_at english_chf_in_accounting (minus (whole 5 1)) 32768 32768 (lit≤ tt) (lit≤ tt) (lit≤ tt) (lit≤ tt)

abbrev german_eur : AmountSettings
german_eur = german (alone (after [] apart [])) (226 ∷ 130 ∷ 172 ∷ []) no_letter

german_eur_1234 : said (amount_of german_eur (plain (whole 1234 4))) ≡ (codes "1234" ++ (194 ∷ 160 ∷ 226 ∷ 130 ∷ 172 ∷ []), 0)
unfolding lowest_place lib.Utf8.encode
german_eur_1234 = said_at german_eur (plain (whole 1234 4)) 32771 32771 (lit≤ tt) (lit≤ tt) (lit≤ tt) (lit≤ tt)

german_eur_12345_6 : said (amount_of german_eur (plain (tenths 123456 5))) ≡ (codes "12.346" ++ (194 ∷ 160 ∷ 226 ∷ 130 ∷ 172 ∷ []), 0)
unfolding lowest_place lib.Utf8.encode
german_eur_12345_6 = said_at german_eur (plain (tenths 123456 5)) 32772 32772 (lit≤ tt) (lit≤ tt) (lit≤ tt) (lit≤ tt)

german_eur_999999 : said (amount_of german_eur (plain (whole 999999 6))) ≡ (codes "999.999" ++ (194 ∷ 160 ∷ 226 ∷ 130 ∷ 172 ∷ []), 0)
unfolding lowest_place lib.Utf8.encode
german_eur_999999 = said_at german_eur (plain (whole 999999 6)) 32773 32773 (lit≤ tt) (lit≤ tt) (lit≤ tt) (lit≤ tt)

german_eur_1500000 : said (amount_of german_eur (plain (whole 1500000 7))) ≡ (codes "1,5" ++ (apart ++ (codes "Mio." ++ (194 ∷ 160 ∷ 226 ∷ 130 ∷ 172 ∷ []))), 6)
unfolding lowest_place lib.Utf8.encode
german_eur_1500000 = said_at german_eur (plain (whole 1500000 7)) 32774 32768 (lit≤ tt) (lit≤ tt) (lit≤ tt) (lit≤ tt)

abbrev french_eur : AmountSettings
french_eur = french (alone (after [] apart [])) (226 ∷ 130 ∷ 172 ∷ []) no_letter

french_eur_1234 : said (amount_of french_eur (plain (whole 1234 4))) ≡ (codes "1,2" ++ (apart ++ (codes "k" ++ (194 ∷ 160 ∷ 226 ∷ 130 ∷ 172 ∷ []))), 3)
unfolding lowest_place lib.Utf8.encode
french_eur_1234 = said_at french_eur (plain (whole 1234 4)) 32771 32768 (lit≤ tt) (lit≤ tt) (lit≤ tt) (lit≤ tt)

abbrev french_eur_in_accounting : AmountSettings
french_eur_in_accounting = french (with_own (after [] apart []) (after (codes "(") apart (codes ")")) (after (codes "+") apart [])) (226 ∷ 130 ∷ 172 ∷ []) no_letter

french_eur_accounting_minus_5 : said (amount_of french_eur_in_accounting (minus (whole 5 1))) ≡ (codes "(5" ++ (194 ∷ 160 ∷ 226 ∷ 130 ∷ 172 ∷ []) ++ (codes ")"), 0)
unfolding lowest_place lib.Utf8.encode
french_eur_accounting_minus_5 = said_at french_eur_in_accounting (minus (whole 5 1)) 32768 32768 (lit≤ tt) (lit≤ tt) (lit≤ tt) (lit≤ tt)

abbrev spanish_eur : AmountSettings
spanish_eur = spanish (alone (after [] apart [])) (226 ∷ 130 ∷ 172 ∷ []) no_letter

spanish_eur_1000000000 : said (amount_of spanish_eur (plain (whole 1000000000 10))) ≡ (codes "1000" ++ (apart ++ (codes "M" ++ (194 ∷ 160 ∷ 226 ∷ 130 ∷ 172 ∷ []))), 6)
unfolding lowest_place lib.Utf8.encode
spanish_eur_1000000000 = said_at spanish_eur (plain (whole 1000000000 10)) 32777 32771 (lit≤ tt) (lit≤ tt) (lit≤ tt) (lit≤ tt)

abbrev japanese_jpy : AmountSettings
japanese_jpy = japanese (alone (before [] [] [])) (239 ∷ 191 ∷ 165 ∷ []) no_letter

japanese_jpy_12345_6 : said (amount_of japanese_jpy (plain (tenths 123456 5))) ≡ ((239 ∷ 191 ∷ 165 ∷ []) ++ (codes "1.2" ++ (228 ∷ 184 ∷ 135 ∷ [])), 4)
unfolding lowest_place lib.Utf8.encode
japanese_jpy_12345_6 = said_at japanese_jpy (plain (tenths 123456 5)) 32772 32768 (lit≤ tt) (lit≤ tt) (lit≤ tt) (lit≤ tt)

abbrev japanese_jpy_in_accounting : AmountSettings
japanese_jpy_in_accounting = japanese (with_own (before [] [] []) (before (codes "(") [] (codes ")")) (before (codes "+") [] [])) (239 ∷ 191 ∷ 165 ∷ []) no_letter

japanese_jpy_accounting_minus_1234 : said (amount_of japanese_jpy_in_accounting (minus (whole 1234 4))) ≡ (codes "(" ++ (239 ∷ 191 ∷ 165 ∷ []) ++ (codes "1234)"), 0)
unfolding lowest_place lib.Utf8.encode
japanese_jpy_accounting_minus_1234 = said_at japanese_jpy_in_accounting (minus (whole 1234 4)) 32771 32771 (lit≤ tt) (lit≤ tt) (lit≤ tt) (lit≤ tt)

abbrev japanese_chf : AmountSettings
japanese_chf = japanese (alone (before [] apart [])) (codes "CHF") both_letters

japanese_chf_999999 : said (amount_of japanese_chf (plain (whole 999999 6))) ≡ (codes "CHF" ++ (apart ++ (codes "100" ++ (228 ∷ 184 ∷ 135 ∷ []))), 4)
unfolding lowest_place lib.Utf8.encode
japanese_chf_999999 = said_at japanese_chf (plain (whole 999999 6)) 32773 32770 (lit≤ tt) (lit≤ tt) (lit≤ tt) (lit≤ tt)

abbrev hindi_inr : AmountSettings
hindi_inr = hindi (alone (before [] [] [])) (226 ∷ 130 ∷ 185 ∷ []) no_letter

hindi_inr_1234 : said (amount_of hindi_inr (plain (whole 1234 4))) ≡ ((226 ∷ 130 ∷ 185 ∷ []) ++ (codes "1.2" ++ (194 ∷ 160 ∷ 224 ∷ 164 ∷ 185 ∷ 224 ∷ 164 ∷ 156 ∷ 224 ∷ 164 ∷ 188 ∷ 224 ∷ 164 ∷ 190 ∷ 224 ∷ 164 ∷ 176 ∷ [])), 3)
unfolding lowest_place lib.Utf8.encode
hindi_inr_1234 = said_at hindi_inr (plain (whole 1234 4)) 32771 32768 (lit≤ tt) (lit≤ tt) (lit≤ tt) (lit≤ tt)

hindi_inr_999999 : said (amount_of hindi_inr (plain (whole 999999 6))) ≡ ((226 ∷ 130 ∷ 185 ∷ []) ++ (codes "10" ++ (194 ∷ 160 ∷ 224 ∷ 164 ∷ 178 ∷ 224 ∷ 164 ∷ 190 ∷ 224 ∷ 164 ∷ 150 ∷ [])), 5)
unfolding lowest_place lib.Utf8.encode
hindi_inr_999999 = said_at hindi_inr (plain (whole 999999 6)) 32773 32769 (lit≤ tt) (lit≤ tt) (lit≤ tt) (lit≤ tt)

abbrev arabic_eur : AmountSettings
arabic_eur = arabic (alone (after right_to_left apart [])) (226 ∷ 130 ∷ 172 ∷ []) no_letter

arabic_eur_1234 : said (amount_of arabic_eur (plain (whole 1234 4))) ≡ (right_to_left ++ (codes "1.2" ++ (194 ∷ 160 ∷ 216 ∷ 163 ∷ 217 ∷ 132 ∷ 217 ∷ 129 ∷ 194 ∷ 160 ∷ 226 ∷ 130 ∷ 172 ∷ [])), 3)
unfolding lowest_place lib.Utf8.encode
arabic_eur_1234 = said_at arabic_eur (plain (whole 1234 4)) 32771 32768 (lit≤ tt) (lit≤ tt) (lit≤ tt) (lit≤ tt)

arabic_eur_5000 : said (amount_of arabic_eur (plain (whole 5000 4))) ≡ (right_to_left ++ (codes "5" ++ (194 ∷ 160 ∷ 216 ∷ 162 ∷ 217 ∷ 132 ∷ 216 ∷ 167 ∷ 217 ∷ 129 ∷ 194 ∷ 160 ∷ 226 ∷ 130 ∷ 172 ∷ [])), 3)
unfolding lowest_place lib.Utf8.encode
arabic_eur_5000 = said_at arabic_eur (plain (whole 5000 4)) 32771 32768 (lit≤ tt) (lit≤ tt) (lit≤ tt) (lit≤ tt)

abbrev hebrew_usd : AmountSettings
hebrew_usd = hebrew (with_own (after right_to_left (194 ∷ 160 ∷ 226 ∷ 128 ∷ 143 ∷ []) []) (after ((226 ∷ 128 ∷ 143 ∷ 226 ∷ 128 ∷ 142 ∷ []) ++ (codes "-")) (194 ∷ 160 ∷ 226 ∷ 128 ∷ 143 ∷ []) []) (after ((226 ∷ 128 ∷ 143 ∷ 226 ∷ 128 ∷ 142 ∷ []) ++ (codes "+")) (194 ∷ 160 ∷ 226 ∷ 128 ∷ 143 ∷ []) [])) (codes "$") no_letter

hebrew_usd_1234 : said (amount_of hebrew_usd (plain (whole 1234 4))) ≡ (right_to_left ++ (codes "1.2K" ++ (226 ∷ 128 ∷ 143 ∷ 194 ∷ 160 ∷ 226 ∷ 128 ∷ 143 ∷ []) ++ (codes "$")), 3)
unfolding lowest_place lib.Utf8.encode
hebrew_usd_1234 = said_at hebrew_usd (plain (whole 1234 4)) 32771 32768 (lit≤ tt) (lit≤ tt) (lit≤ tt) (lit≤ tt)

abbrev polish_usd : AmountSettings
polish_usd = polish (alone (after [] apart [])) (codes "USD") both_letters

polish_usd_1234 : said (amount_of polish_usd (plain (whole 1234 4))) ≡ (codes "1,2" ++ (apart ++ (codes "tys." ++ (apart ++ (codes "USD")))), 3)
unfolding lowest_place lib.Utf8.encode
polish_usd_1234 = said_at polish_usd (plain (whole 1234 4)) 32771 32768 (lit≤ tt) (lit≤ tt) (lit≤ tt) (lit≤ tt)

abbrev polish_usd_in_accounting : AmountSettings
polish_usd_in_accounting = polish (with_own (after [] apart []) (after (codes "(") apart (codes ")")) (after (codes "+") apart [])) (codes "USD") both_letters

polish_usd_accounting_minus_5 : said (amount_of polish_usd_in_accounting (minus (whole 5 1))) ≡ (codes "(5" ++ (apart ++ (codes "USD)")), 0)
unfolding lowest_place lib.Utf8.encode
polish_usd_accounting_minus_5 = said_at polish_usd_in_accounting (minus (whole 5 1)) 32768 32768 (lit≤ tt) (lit≤ tt) (lit≤ tt) (lit≤ tt)

abbrev swahili_usd : AmountSettings
swahili_usd = swahili (alone (before [] apart [])) (codes "US$") first_letter

swahili_usd_minus_1234 : said (amount_of swahili_usd (minus (whole 1234 4))) ≡ (codes "US$" ++ (apart ++ (codes "elfu" ++ (apart ++ (codes "-1.2")))), 3)
unfolding lowest_place lib.Utf8.encode
swahili_usd_minus_1234 = said_at swahili_usd (minus (whole 1234 4)) 32771 32768 (lit≤ tt) (lit≤ tt) (lit≤ tt) (lit≤ tt)

abbrev swiss_german_chf : AmountSettings
swiss_german_chf = swiss_german (with_own (before [] apart []) (before [] (codes "-") []) (before [] (codes "+") [])) (codes "CHF") both_letters

swiss_german_chf_minus_5 : said (amount_of swiss_german_chf (minus (whole 5 1))) ≡ (codes "CHF-5", 0)
unfolding lowest_place lib.Utf8.encode
swiss_german_chf_minus_5 = said_at swiss_german_chf (minus (whole 5 1)) 32768 32768 (lit≤ tt) (lit≤ tt) (lit≤ tt) (lit≤ tt)

swiss_german_chf_minus_1500000 : said (amount_of swiss_german_chf (minus (whole 1500000 7))) ≡ (codes "-CHF" ++ (apart ++ (codes "1.5" ++ (apart ++ (codes "Mio.")))), 6)
unfolding lowest_place lib.Utf8.encode
swiss_german_chf_minus_1500000 = said_at swiss_german_chf (minus (whole 1500000 7)) 32774 32768 (lit≤ tt) (lit≤ tt) (lit≤ tt) (lit≤ tt)
