-- Values from outside that a wrong definition of typed words does not survive: the tables of docs/words.md, "Typed text".
use Rattle.std.proofs.Common.{◌≡◌, ℕ, true, false, List, [], ◌∷◌, ◌++◌, None, Some, refl, ap, ◌∙◌, unwrap_or}
use Rattle.std.specs.Prelude.{codes}
use Rattle.std.specs.Str.{chars, encode_utf8_all, trim_start, trim_end}
use lib.Utf8.{encode}
use Rattle.fixed_decimal.specs.declared.Sign.TheVariants.{None as NoSign, Negative}
use Rattle.icu_decimal_symbols.specs.Symbols.{SymbolStrings, english_strings}
use Rattle.icu_decimal_plain.specs.PlainText.{Tables}
use Rattle.icu_decimal_plurals.specs.Reading.{rules_of}
use Rattle.icu_decimal_plurals.specs.Rules.{Rules, no_rules}
use Rattle.icu_decimal_plurals.specs.declared.category.PluralCategory.{PluralCategory}
use Rattle.icu_decimal_plurals.specs.declared.category.PluralCategory.TheVariants.{One}
use Rattle.icu_decimal_reading.specs.DecimalOfText.{PlainReading, not_written}
use Rattle.icu_decimal_lenient.specs.Folding.{fold_of, folded_symbols, folded_text}
use Rattle.icu_decimal_lenient.specs.LenientReading.{lenient_reading, or_else}
use Rattle.icu_decimal_lenient.specs.Native.{native_text, native_zeros, system_of}
use Rattle.icu_decimal_lenient.proofs.KnownLenient.{english, latin, number, with_strings}
use Rattle.icu_dimension_lenient.specs.Agreement.{agreed_reading}
use Rattle.icu_dimension_words.specs.Words.{Pair, Words, around, bare, only_other, with_one}
use Rattle.icu_dimension_words.specs.WordsText.{WordSettings}
use Rattle.icu_dimension_words.specs.declared.word.WordKind.TheVariants.{Unit}
use Rattle.icu_dimension_words.specs.LenientWords.{LenientWords, is_leniently_words_readable_by, lenient_words, lenient_words_reading, read_word, typed_words_reading, with_words}
use Rattle.icu_dimension_words.specs.NativeWords.{native_words_reading}
use Rattle.icu_dimension_words.specs.TypedWords.{typed_word}
use Rattle.icu_dimension_words.specs.WordReadings.{words_reading}
use Rattle.icu_dimension_words.proofs.NativeWordLemmas.{native_is_ascii}

abbrev after : List ℕ → Pair
after text = record { before = []; after = text }

abbrev english_rules : Rules
english_rules = unwrap_or (rules_of ((One, codes "i = 1 and v = 0") ∷ [])) no_rules

abbrev settings : Tables → Words → WordSettings
settings tables words = record { tables = tables; rules = english_rules; words = words; kind = Unit }

abbrev typed : LenientWords → List ℕ → PlainReading
typed a text = typed_words_reading a.settings.tables a.typed text

-- a folded and trimmed text under one pair of words: the definition on longer texts whole computes for too long
abbrev under : Tables → Pair → List ℕ → PlainReading
under t pair text = read_word (folded_symbols t) text (typed_word t.digits None (around pair))

-- ---- English, in two widths

abbrev long : Words
long = with_one (only_other (after (codes " kilometers"))) (Some (around (after (codes " kilometer"))))

abbrev kilometers : LenientWords
kilometers = with_words (lenient_words (settings english long)) (only_other (after (codes " km")))

are_readable : is_leniently_words_readable_by (settings english long) ≡ true
unfolding fold_of chars encode
are_readable = refl

short : typed kilometers (codes "5 km") ≡ number NoSign 5 1 0
unfolding fold_of chars trim_start trim_end encode
short = refl

without_blank : typed kilometers (codes "5km") ≡ number NoSign 5 1 0
unfolding fold_of chars trim_start trim_end encode
without_blank = refl

blanks : typed kilometers (codes " 5  kilometers ") ≡ number NoSign 5 1 0
unfolding fold_of chars trim_start trim_end encode
blanks = refl

no_break_space : typed kilometers (codes "5" ++ (194 ∷ 160 ∷ codes "km")) ≡ number NoSign 5 1 0
unfolding fold_of chars trim_start trim_end encode
no_break_space = refl

many_for_one : typed kilometers (codes "1 kilometers") ≡ number NoSign 1 1 0
unfolding fold_of chars trim_start trim_end encode
many_for_one = refl

one_for_many : typed kilometers (codes "5 kilometer") ≡ number NoSign 5 1 0
unfolding fold_of chars trim_start trim_end encode
one_for_many = refl

in_groups : under english (after (codes " km")) (codes "1,234.5km") ≡ number NoSign 12345 4 1
unfolding fold_of chars trim_start trim_end encode
in_groups = refl

without_groups : under english (after (codes " km")) (codes "1234.5 km") ≡ number NoSign 12345 4 1
unfolding fold_of chars trim_start trim_end encode
without_groups = refl

true_minus : folded_text latin (encode_utf8_all (0x2212 ∷ codes "5 km")) ≡ codes "-5 km"
unfolding fold_of chars trim_start trim_end encode
true_minus = refl

filled : typed kilometers (codes ".5 km") ≡ number NoSign 5 1 1
unfolding fold_of chars trim_start trim_end encode
filled = refl

without_words : typed kilometers (codes "1234.5") ≡ number NoSign 12345 4 1
unfolding fold_of chars trim_start trim_end encode
without_words = refl

-- none: letters keep their case, and nothing is dropped

capitals : typed kilometers (codes "5 KM") ≡ not_written
unfolding fold_of chars trim_start trim_end encode
capitals = refl

other_language : typed kilometers (codes "5 kilometros") ≡ not_written
unfolding fold_of chars trim_start trim_end encode
other_language = refl

half_grouped : under english (after (codes " km")) (codes "1,23 km") ≡ not_written
unfolding fold_of chars trim_start trim_end encode
half_grouped = refl

twice : typed kilometers (codes "5 km km") ≡ not_written
unfolding fold_of chars trim_start trim_end encode
twice = refl

other_side : typed kilometers (codes "km 5") ≡ not_written
unfolding fold_of chars trim_start trim_end encode
other_side = refl

no_number : typed kilometers (codes "km") ≡ not_written
unfolding fold_of chars trim_start trim_end encode
no_number = refl

-- ---- a name of a currency

amount : under english (after (codes " US dollars")) (codes "1,234.50US dollars") ≡ number NoSign 123450 4 2
unfolding fold_of chars trim_start trim_end encode
amount = refl

small_letters : under english (after (codes " US dollars")) (codes "1,234.50 us dollars") ≡ not_written
unfolding fold_of chars trim_start trim_end encode
small_letters = refl

-- ---- Swahili, where the words are before the number: it is not filled there

abbrev swahili : Pair
swahili = record { before = codes "dola za Marekani "; after = [] }

minus_after : under english swahili (codes "dola za Marekani -5") ≡ number Negative 5 1 0
unfolding fold_of chars trim_start trim_end encode
minus_after = refl

point_after : under english swahili (codes "dola za Marekani.5") ≡ not_written
unfolding fold_of chars trim_start trim_end encode
point_after = refl

-- ---- Polish: U+00F3 in the words of `many`

abbrev polish_strings : SymbolStrings
polish_strings = record english_strings { decimal_separator = codes ","; grouping_separator = 194 ∷ 160 ∷ [] }

abbrev polish_tables : Tables
polish_tables = with_strings latin polish_strings

few_for_many : under polish_tables (after (codes " kilometry")) (codes "5 kilometry") ≡ number NoSign 5 1 0
unfolding fold_of chars trim_start trim_end encode
few_for_many = refl

many_in_polish : under polish_tables (after (codes " kilometr" ++ (195 ∷ 179 ∷ codes "w"))) (codes "1 234,5kilometr" ++ (195 ∷ 179 ∷ codes "w")) ≡ number NoSign 12345 4 1
unfolding fold_of chars trim_start trim_end encode
many_in_polish = refl

-- ---- Arabic: a text without the number, U+0645 U+062A U+0631, and U+200E before the sign

abbrev meter : List ℕ
meter = 217 ∷ 133 ∷ 216 ∷ 170 ∷ 216 ∷ 177 ∷ []

abbrev arabic_tables : Tables
arabic_tables = with_strings latin (record english_strings { minus_sign_prefix = 226 ∷ 128 ∷ 142 ∷ codes "-"; plus_sign_prefix = 226 ∷ 128 ∷ 142 ∷ codes "+" })

abbrev arabic : LenientWords
arabic = lenient_words (settings arabic_tables (with_one (only_other (after (codes " " ++ meter))) (Some (bare meter))))

bare_meter : typed arabic (codes " " ++ meter) ≡ number NoSign 1 1 0
unfolding fold_of chars trim_start trim_end encode
bare_meter = refl

one_meter : typed arabic (codes "1" ++ meter) ≡ number NoSign 1 1 0
unfolding fold_of chars trim_start trim_end encode
one_meter = refl

minus_one_meter : under arabic_tables (after (codes " " ++ meter)) (codes "-1 " ++ meter) ≡ number Negative 1 1 0
unfolding fold_of chars trim_start trim_end encode
minus_one_meter = refl

minus_meter : typed arabic (codes "-" ++ meter) ≡ not_written
unfolding fold_of chars trim_start trim_end encode
minus_meter = refl

-- ---- two ways that differ

first_way : under english (after (codes " km")) (codes "12km") ≡ number NoSign 12 2 0
unfolding fold_of chars trim_start trim_end encode
first_way = refl

second_way : under english (after (codes " 2km")) (codes "12km") ≡ number NoSign 1 1 0
unfolding fold_of chars trim_start trim_end encode
second_way = refl

ways_differ : agreed_reading (number NoSign 12 2 0 ∷ (number NoSign 1 1 0 ∷ [])) ≡ not_written
ways_differ = refl

no_second_way : under english (after (codes " 2km")) (codes "13km") ≡ not_written
unfolding fold_of chars trim_start trim_end encode
no_second_way = refl

-- ---- exactly

exact : words_reading kilometers.settings (codes "5 kilometers") ≡ number NoSign 5 1 0
unfolding chars encode
exact = refl

exact_category : words_reading kilometers.settings (codes "1 kilometers") ≡ not_written
unfolding chars encode
exact_category = refl

-- ---- 5 in the digits of Devanagari: in steps, since the definition on it whole computes for too long

abbrev devanagari : List ℕ
devanagari = encode_utf8_all (0x96B ∷ codes " km")

spelled : native_text devanagari ≡ Some (codes "5 km")
unfolding system_of native_zeros chars encode
spelled = refl

as_it_is : lenient_words_reading kilometers devanagari ≡ not_written
unfolding fold_of chars trim_start trim_end encode
as_it_is = refl

not_exact : words_reading kilometers.settings (codes "5 km") ≡ not_written
unfolding chars encode
not_exact = refl

in_devanagari : native_words_reading kilometers devanagari ≡ number NoSign 5 1 0
in_devanagari =
    native_is_ascii kilometers devanagari (codes "5 km") _ spelled as_it_is
    (ap (λ r. or_else r (typed kilometers (codes "5 km"))) not_exact ∙ short)
