-- Worked rows of `specs/AmountSlots.antt`: what known slots say, and the texts around the digits of known amounts.
-- The slots of languages are those that `books/make-cldr` makes of CLDR 48; the others follow from the rules of README.md by hand. `~` is U+00A0.
use Rattle.std.proofs.Common.{◌≡◌, ℕ, true, false, List, [], ◌∷◌, ◌++◌, codes, Option, Some, None, option_map, refl}
use Rattle.std.specs.Prelude.{option_and_then}
use Rattle.serde_json.specs.Data.{Data, Items, null, number, unsigned, string, array, no_items, item}
use Rattle.icu_decimal.specs.Elements.{Elements, only_other, with_few}
use Rattle.icu_dimension.specs.UnitPatterns.{AffixPair, AffixesText, PatternChoice, PatternTexts, chosen, pair_with}
use Rattle.icu_dimension.specs.declared.LetterEnds.{LetterEnds}
use Rattle.icu_dimension.specs.declared.UnitPlace.TheVariants.{Before, After}
use Rattle.icu_dimension_compact.specs.AmountTables.{AmountPatterns}
use Rattle.locale_numbers_compact_amounts.specs.AmountSlots.{patterns_in}

-- ---- values

abbrev pub items : List Data → Items
items [] = no_items
items (d ∷ ds) = item d (items ds)

abbrev pub list : List Data → Data
list ds = array (items ds)

abbrev pub text : List ℕ → Data
text bytes = string bytes

abbrev pub size : ℕ → Data
size n = number (unsigned n)

-- the place of the currency, and U+00A0
abbrev pub place : List ℕ
place = 194 ∷ 164 ∷ []

abbrev pub apart : List ℕ
apart = 194 ∷ 160 ∷ []

abbrev pub texts : List ℕ → List ℕ → Data
texts before after = list (text before ∷ text after ∷ [])

abbrev pub slot : List ℕ → Data → Data → Data
slot category pattern beside = list (text category ∷ pattern ∷ beside ∷ [])

abbrev pub type : ℕ → ℕ → List Data → Data
type log10_type exponent slots = list (size log10_type ∷ size exponent ∷ list slots ∷ [])

abbrev pub entry : List ℕ → List ℕ → List Data → Data
entry locale system types = list (text locale ∷ text system ∷ list types ∷ [])

-- ---- patterns

abbrev before : List ℕ → List ℕ → List ℕ → AffixesText
before first second third = record { place = Before; first = first; second = second; third = third }

abbrev pub after : List ℕ → List ℕ → List ℕ → AffixesText
after first second third = record { place = After; first = first; second = second; third = third }

abbrev pub alone : AffixesText → PatternTexts
alone affixes = record { unsigned = affixes; minus = None; plus = None }

abbrev pub without_beside : PatternTexts → PatternChoice
without_beside standard = record { standard = standard; alpha_next_to_number = None }

-- `¤` and `K`, and with a space beside a letter
abbrev pub thousands : Data
thousands = slot (codes "other") (texts place (codes "K")) (texts (place ++ apart) (codes "K"))

abbrev pub in_thousands : AmountPatterns
in_thousands = Some (only_other (record { standard = alone (before [] [] (codes "K")); alpha_next_to_number = Some (alone (before [] apart (codes "K"))) }))

english_slots : patterns_in (list (thousands ∷ [])) ≡ Some in_thousands
english_slots = refl

no_slots : patterns_in (list []) ≡ Some None
no_slots = refl

-- two plurals, `other` first
abbrev pub few : Data
few = slot (codes "few") (texts [] (codes "a" ++ place)) null

abbrev pub many : Data
many = slot (codes "other") (texts [] (codes "b" ++ place)) null

two_plurals : patterns_in (list (many ∷ few ∷ []))
    ≡ Some (Some (with_few (only_other (without_beside (alone (after [] (codes "b") [])))) (Some (without_beside (alone (after [] (codes "a") []))))))
two_plurals = refl

other_last : patterns_in (list (few ∷ many ∷ [])) ≡ None
other_last = refl

few_twice : patterns_in (list (many ∷ few ∷ few ∷ [])) ≡ None
few_twice = refl

other_twice : patterns_in (list (many ∷ many ∷ [])) ≡ None
other_twice = refl

out_of_order : patterns_in (list (many ∷ few ∷ slot (codes "one") (texts place []) null ∷ [])) ≡ None
out_of_order = refl

no_category : patterns_in (list (slot (codes "some") (texts place []) null ∷ [])) ≡ None
no_category = refl

no_place : patterns_in (list (slot (codes "other") (texts [] (codes "K")) null ∷ [])) ≡ None
no_place = refl

place_twice : patterns_in (list (slot (codes "other") (texts place place) null ∷ [])) ≡ None
place_twice = refl

three_texts : patterns_in (list (slot (codes "other") (list (text place ∷ text [] ∷ text [] ∷ [])) null ∷ [])) ≡ None
three_texts = refl

one_text_beside : patterns_in (list (slot (codes "other") (texts place []) (list (text place ∷ [])) ∷ [])) ≡ None
one_text_beside = refl

two_fields : patterns_in (list (list (text (codes "other") ∷ texts place [] ∷ []) ∷ [])) ≡ None
two_fields = refl

-- ---- what is around the digits of amounts, as Intl of Node 20 (CLDR 48) writes them

-- of the slots that CLDR has for a type: the texts before and after the digits, for a category and a currency, without a sign of its own
abbrev pair_of : (PatternTexts → Option AffixesText) → (Elements PatternChoice → Option PatternChoice) → LetterEnds → List ℕ → List Data → Option AffixPair
pair_of own category ends unit slots =
    option_and_then (λ patterns. option_and_then (λ elements. option_and_then
    (λ choice. option_map (λ affixes. pair_with affixes unit) (own (chosen choice ends))) (category elements)) patterns) (patterns_in (list slots))

abbrev around : (Elements PatternChoice → Option PatternChoice) → LetterEnds → List ℕ → List Data → Option AffixPair
around = pair_of (λ p. Some p.unsigned)

-- the same with a minus sign among them; none where the sign is before them
abbrev around_minus : (Elements PatternChoice → Option PatternChoice) → LetterEnds → List ℕ → List Data → Option AffixPair
around_minus = pair_of (λ p. p.minus)

abbrev other : Elements PatternChoice → Option PatternChoice
other s = Some s.other

abbrev texts_around : List ℕ → List ℕ → Option AffixPair
texts_around before after = Some (record { before = before; after = after })

-- the ends of `$` and of `CHF` that are letters
abbrev no_letter : LetterEnds
no_letter = record { first = false; last = false }

abbrev first_letter : LetterEnds
first_letter = record { first = true; last = false }

abbrev both_letters : LetterEnds
both_letters = record { first = true; last = true }

-- `$1.2K`
english_dollars : around other no_letter (codes "$") (thousands ∷ []) ≡ texts_around (codes "$") (codes "K")
english_dollars = refl

-- `CHF~1.2K`
english_francs : around other both_letters (codes "CHF") (thousands ∷ []) ≡ texts_around (codes "CHF" ++ (194 ∷ 160 ∷ [])) (codes "K")
english_francs = refl

-- `-$1.2K`
english_minus : around_minus other no_letter (codes "$") (thousands ∷ []) ≡ None
english_minus = refl

-- of German millions
abbrev pub german_millions : List Data
german_millions =
    slot (codes "other") (texts [] ((194 ∷ 160 ∷ []) ++ codes "Mio." ++ (194 ∷ 160 ∷ 194 ∷ 164 ∷ []))) null
    ∷ []

-- `1,2~Mio.~€`
german_euros : around other no_letter (226 ∷ 130 ∷ 172 ∷ []) german_millions ≡ texts_around [] ((194 ∷ 160 ∷ []) ++ codes "Mio." ++ (194 ∷ 160 ∷ 226 ∷ 130 ∷ 172 ∷ []))
german_euros = refl

-- `1,5~Mio.~EUR`
german_codes : around other both_letters (codes "EUR") german_millions ≡ texts_around [] ((194 ∷ 160 ∷ []) ++ codes "Mio." ++ (194 ∷ 160 ∷ []) ++ codes "EUR")
german_codes = refl

-- of Spanish, from 10^10 on
abbrev pub spanish_milliards : List Data
spanish_milliards =
    slot (codes "other") (texts [] ((194 ∷ 160 ∷ []) ++ codes "mil" ++ (194 ∷ 160 ∷ []) ++ codes "M" ++ (194 ∷ 160 ∷ 194 ∷ 164 ∷ []))) null
    ∷ []

-- `12~mil~M~€`
spanish_euros : around other no_letter (226 ∷ 130 ∷ 172 ∷ []) spanish_milliards ≡ texts_around [] ((194 ∷ 160 ∷ []) ++ codes "mil" ++ (194 ∷ 160 ∷ []) ++ codes "M" ++ (194 ∷ 160 ∷ 226 ∷ 130 ∷ 172 ∷ []))
spanish_euros = refl

-- of Japanese, from 10^4 on
abbrev japanese_myriads : List Data
japanese_myriads =
    slot (codes "other") (texts (194 ∷ 164 ∷ []) (228 ∷ 184 ∷ 135 ∷ [])) (texts (194 ∷ 164 ∷ 194 ∷ 160 ∷ []) (228 ∷ 184 ∷ 135 ∷ []))
    ∷ []

-- `￥1.2万`
japanese_yen : around other no_letter (239 ∷ 191 ∷ 165 ∷ []) japanese_myriads ≡ texts_around (239 ∷ 191 ∷ 165 ∷ []) (228 ∷ 184 ∷ 135 ∷ [])
japanese_yen = refl

-- `JPY~1.2万`
japanese_codes : around other both_letters (codes "JPY") japanese_myriads ≡ texts_around (codes "JPY" ++ (194 ∷ 160 ∷ [])) (228 ∷ 184 ∷ 135 ∷ [])
japanese_codes = refl

-- of Arabic thousands
abbrev arabic_thousands : List Data
arabic_thousands =
    slot (codes "other") (texts (226 ∷ 128 ∷ 143 ∷ []) (194 ∷ 160 ∷ 216 ∷ 163 ∷ 217 ∷ 132 ∷ 217 ∷ 129 ∷ 194 ∷ 160 ∷ 194 ∷ 164 ∷ [])) null
    ∷ slot (codes "few") (texts (226 ∷ 128 ∷ 143 ∷ []) (194 ∷ 160 ∷ 216 ∷ 162 ∷ 217 ∷ 132 ∷ 216 ∷ 167 ∷ 217 ∷ 129 ∷ 194 ∷ 160 ∷ 194 ∷ 164 ∷ [])) null
    ∷ []

-- of 5000, after a mark of direction
arabic_few : around (λ s. s.few) no_letter (226 ∷ 130 ∷ 172 ∷ []) arabic_thousands ≡ texts_around (226 ∷ 128 ∷ 143 ∷ []) (194 ∷ 160 ∷ 216 ∷ 162 ∷ 217 ∷ 132 ∷ 216 ∷ 167 ∷ 217 ∷ 129 ∷ 194 ∷ 160 ∷ 226 ∷ 130 ∷ 172 ∷ [])
arabic_few = refl

-- of 11000
arabic_other : around other no_letter (226 ∷ 130 ∷ 172 ∷ []) arabic_thousands ≡ texts_around (226 ∷ 128 ∷ 143 ∷ []) (194 ∷ 160 ∷ 216 ∷ 163 ∷ 217 ∷ 132 ∷ 217 ∷ 129 ∷ 194 ∷ 160 ∷ 226 ∷ 130 ∷ 172 ∷ [])
arabic_other = refl

-- of Swahili thousands and millions
abbrev swahili_thousands : List Data
swahili_thousands =
    slot (codes "other") (list (text ((194 ∷ 164 ∷ 194 ∷ 160 ∷ []) ++ codes "elfu" ++ (194 ∷ 160 ∷ [])) ∷ text [] ∷ text ((194 ∷ 164 ∷ 194 ∷ 160 ∷ []) ++ codes "elfu" ++ (194 ∷ 160 ∷ []) ++ codes "-") ∷ text [] ∷ text ((194 ∷ 164 ∷ 194 ∷ 160 ∷ []) ++ codes "elfu" ++ (194 ∷ 160 ∷ []) ++ codes "+") ∷ text [] ∷ [])) null
    ∷ []

abbrev swahili_millions : List Data
swahili_millions =
    slot (codes "other") (texts (194 ∷ 164 ∷ 194 ∷ 160 ∷ []) (codes "M")) null
    ∷ slot (codes "one") (list (text (194 ∷ 164 ∷ 194 ∷ 160 ∷ []) ∷ text (codes "M") ∷ text ((194 ∷ 164 ∷ 194 ∷ 160 ∷ []) ++ codes "-") ∷ text (codes "M") ∷ text ((194 ∷ 164 ∷ 194 ∷ 160 ∷ []) ++ codes "+") ∷ text (codes "M") ∷ [])) null
    ∷ []

-- `US$~elfu~1.2`
swahili_1234 : around other first_letter (codes "US$") swahili_thousands ≡ texts_around (codes "US$" ++ (194 ∷ 160 ∷ []) ++ codes "elfu" ++ (194 ∷ 160 ∷ [])) []
swahili_1234 = refl

-- `US$~elfu~-1.2`
swahili_minus_1234 : around_minus other first_letter (codes "US$") swahili_thousands ≡ texts_around (codes "US$" ++ (194 ∷ 160 ∷ []) ++ codes "elfu" ++ (194 ∷ 160 ∷ []) ++ codes "-") []
swahili_minus_1234 = refl

-- `US$~-1M`
swahili_minus_1000000 : around_minus (λ s. s.one) first_letter (codes "US$") swahili_millions ≡ texts_around (codes "US$" ++ (194 ∷ 160 ∷ []) ++ codes "-") (codes "M")
swahili_minus_1000000 = refl

-- `-US$~2M`
swahili_minus_2000000 : around_minus other first_letter (codes "US$") swahili_millions ≡ None
swahili_minus_2000000 = refl

-- of Anii millions
abbrev anii_millions : List Data
anii_millions =
    slot (codes "other") (texts ((194 ∷ 164 ∷ 194 ∷ 160 ∷ []) ++ codes "bkl" ++ (194 ∷ 160 ∷ [])) []) null
    ∷ slot (codes "zero") (texts ((194 ∷ 164 ∷ 194 ∷ 160 ∷ []) ++ codes "gkl" ++ (194 ∷ 160 ∷ [])) []) null
    ∷ slot (codes "one") (texts ((194 ∷ 164 ∷ 194 ∷ 160 ∷ []) ++ codes "gkl" ++ (194 ∷ 160 ∷ [])) []) null
    ∷ []

-- `US$~gkl~1`
anii_1000000 : around (λ s. s.one) first_letter (codes "US$") anii_millions ≡ texts_around (codes "US$" ++ (194 ∷ 160 ∷ []) ++ codes "gkl" ++ (194 ∷ 160 ∷ [])) []
anii_1000000 = refl

-- `US$~bkl~2`
anii_2000000 : around other first_letter (codes "US$") anii_millions ≡ texts_around (codes "US$" ++ (194 ∷ 160 ∷ []) ++ codes "bkl" ++ (194 ∷ 160 ∷ [])) []
anii_2000000 = refl
