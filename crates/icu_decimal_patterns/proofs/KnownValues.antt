-- Values of the definitions, from docs/compact-text.md.
use Rattle.std.proofs.Common.{◌≡◌, ℕ, List, [], ◌∷◌, codes, None, Some, refl, arith}
use Rattle.serde_json.specs.Data.{Data, array, null, number, unsigned, string, no_items, item}
use Rattle.writeable.specs.AnnotatedText.{bytes, text_of}
use Rattle.icu_decimal_plurals.specs.Operands.{Operands}
use Rattle.icu_decimal_plurals.specs.Rules.{Rules}
use Rattle.icu_decimal_symbols.specs.declared.error.DataError.{DataError}
use Rattle.icu_decimal_compact_value.specs.declared.entry.CompactEntry.{CompactEntry}
use Rattle.icu_decimal_patterns.specs.Elements.{only_other, slot_of, with_explicit_one, with_few}
use Rattle.icu_decimal_patterns.specs.KeptEntries.{CompactTable, Keeps, NeverFalls, Patterns, TypePatterns, first_fault}
use Rattle.icu_decimal_patterns.specs.Pattern.{literal, around, pattern_events}
use Rattle.icu_decimal_patterns.specs.SlotsJson.{slots_of}
use Rattle.icu_decimal_patterns.specs.TableJson.{slots_json, table_json, types_of}
use Rattle.icu_decimal_patterns.proofs.KeptLemmas.{keeps_kept}

-- ---- patterns

around_a_value : text_of (pattern_events (around (codes "<") (codes "K>")) (bytes (codes "1.2"))) ≡ codes "<1.2K>"
unfolding bytes
around_a_value = refl

alone : text_of (pattern_events (literal (codes "thousand")) (bytes (codes "1.2"))) ≡ codes "thousand"
unfolding bytes
alone = refl

-- ---- slots: no rules, so that every number is of `other`

abbrev no_rules : Rules
no_rules = record { zero = None; one = None; two = None; few = None; many = None }

-- 1, 1.0, and 1 with the exponent 3
abbrev one : Operands
one = record { i = 1; v = 0; f = 0; t = 0; w = 0; c = 0 }

abbrev one_point_zero : Operands
one_point_zero = record { i = 1; v = 1; f = 0; t = 0; w = 0; c = 0 }

abbrev one_thousand : Operands
one_thousand = record { i = 1; v = 0; f = 0; t = 0; w = 0; c = 3 }

-- `a thousand` in slot `1`, `thousands` for `other`
abbrev thousands : Patterns
thousands = with_explicit_one (only_other (around [] (codes " thousands"))) (Some (literal (codes "a thousand")))

exactly_one : slot_of thousands no_rules one ≡ literal (codes "a thousand")
exactly_one = refl

not_one_point_zero : slot_of thousands no_rules one_point_zero ≡ around [] (codes " thousands")
not_one_point_zero = refl

not_with_an_exponent : slot_of thousands no_rules one_thousand ≡ around [] (codes " thousands")
not_with_an_exponent = refl

-- ---- what is kept

abbrev letter : List ℕ → Patterns
letter text = only_other (around [] text)

abbrev typed : ℕ → ℕ → List ℕ → TypePatterns
typed log10_type exponent text = record { log10_type = log10_type; exponent = exponent; patterns = letter text }

abbrev with_slot_one : ℕ → TypePatterns
with_slot_one log10_type = record { log10_type = log10_type; exponent = 3; patterns = thousands }

-- types 3 and 6, both `K`: type 3 alone, whatever the exponents

one_letter : Keeps None (typed 3 3 (codes "K") ∷ typed 6 6 (codes "K") ∷ []) (typed 3 3 (codes "K") ∷ [])
one_letter = keeps_kept None (typed 3 3 (codes "K") ∷ typed 6 6 (codes "K") ∷ [])

-- type 0 with the patterns of smaller numbers, and then type 3

zero_skipped : Keeps (Some (letter [])) (typed 0 0 [] ∷ typed 3 3 (codes "K") ∷ []) (typed 3 3 (codes "K") ∷ [])
zero_skipped = keeps_kept (Some (letter [])) (typed 0 0 [] ∷ typed 3 3 (codes "K") ∷ [])

-- after a type that is kept the patterns of smaller numbers are kept

zero_again : Keeps (Some (letter [])) (typed 3 3 (codes "K") ∷ typed 4 3 [] ∷ []) (typed 3 3 (codes "K") ∷ typed 4 3 [] ∷ [])
zero_again = keeps_kept (Some (letter [])) (typed 3 3 (codes "K") ∷ typed 4 3 [] ∷ [])

-- `a thousand` in slot `1` at type 3, and `thousands` for `other` at both types

without_slot_one : Keeps None (with_slot_one 3 ∷ typed 4 3 (codes " thousands") ∷ []) (with_slot_one 3 ∷ [])
without_slot_one = keeps_kept None (with_slot_one 3 ∷ typed 4 3 (codes " thousands") ∷ [])

falling : ¬ (NeverFalls 0 (typed 3 3 (codes "K") ∷ typed 6 2 (codes "M") ∷ []))
falling h = let bad = h.1.0 in omega (arith, bad)

too_many_zeros : first_fault (typed 20 4 (codes "K") ∷ []) ≡ Some DataError.TooManyZeros
too_many_zeros = refl

above_type : first_fault (typed 3 4 (codes "K") ∷ []) ≡ Some DataError.AboveType
above_type = refl

fifteen_zeros : first_fault (typed 19 4 (codes "K") ∷ []) ≡ None
fifteen_zeros = refl

-- ---- JSON

abbrev slot : List ℕ → Data → Data
slot name pattern = array (item (string name) (item pattern no_items))

letter_slots : slots_of (array (item (slot (codes "other") (array (item (string []) (item (string (codes "K")) no_items)))) no_items)) ≡ Some (letter (codes "K"))
letter_slots = refl

without_other : slots_of (array (item (slot (codes "one") (array (item (string (codes "K")) no_items))) no_items)) ≡ None
without_other = refl

twice : slots_of (array (item (slot (codes "other") (array (item (string (codes "K")) no_items))) (item (slot (codes "other") (array (item (string (codes "K")) no_items))) no_items))) ≡ None
twice = refl

unknown : slots_of (array (item (slot (codes "2") (array (item (string (codes "K")) no_items))) (item (slot (codes "other") (array (item (string (codes "K")) no_items))) no_items))) ≡ None
unknown = refl

-- ---- tables as JSON

abbrev one_text : List ℕ → Data
one_text text = array (item (string text) no_items)

abbrev two_texts : List ℕ → List ℕ → Data
two_texts before after = array (item (string before) (item (string after) no_items))

abbrev one_type : ℕ → ℕ → List ℕ → Data
one_type log10_type exponent text =
    array (item (number (unsigned log10_type)) (item (number (unsigned exponent)) (item (array (item (slot (codes "other") (two_texts [] text)) no_items)) no_items)))

-- `[[3,3,[["other",["","K"]]]],[6,6,[["other",["","M"]]]]]`
abbrev english : Data
english = array (item (one_type 3 3 (codes "K")) (item (one_type 6 6 (codes "M")) no_items))

abbrev entry : ℕ → CompactEntry
entry log10_type = record { log10_type = log10_type; exponent = log10_type }

abbrev english_table : CompactTable
english_table = record { entries = entry 3 ∷ entry 6 ∷ []; patterns = letter (codes "K") ∷ letter (codes "M") ∷ [] }

english_read : types_of english ≡ Some (typed 3 3 (codes "K") ∷ typed 6 6 (codes "M") ∷ [])
english_read = refl

english_written : table_json english_table ≡ english
english_written = refl

no_rows : types_of (array no_items) ≡ Some []
no_rows = refl

not_an_array : types_of null ≡ None
not_an_array = refl

equal_types : types_of (array (item (one_type 3 3 (codes "K")) (item (one_type 3 3 (codes "M")) no_items))) ≡ None
equal_types = refl

falling_types : types_of (array (item (one_type 6 3 (codes "K")) (item (one_type 3 3 (codes "M")) no_items))) ≡ None
falling_types = refl

greatest_type : types_of (array (item (one_type 255 255 (codes "K")) no_items)) ≡ Some (typed 255 255 (codes "K") ∷ [])
greatest_type = refl

no_byte : types_of (array (item (one_type 256 3 (codes "K")) no_items)) ≡ None
no_byte = refl

two_fields : types_of (array (item (array (item (number (unsigned 3)) (item (number (unsigned 3)) no_items))) no_items)) ≡ None
two_fields = refl

-- `[["1",["a thousand"]],["few",["K",""]],["other",[""," thousands"]]]`
slots_written : slots_json (with_few thousands (Some (around (codes "K") [])))
    ≡ array (item (slot (codes "1") (one_text (codes "a thousand"))) (item (slot (codes "few") (two_texts (codes "K") [])) (item (slot (codes "other") (two_texts [] (codes " thousands"))) no_items)))
slots_written = refl
