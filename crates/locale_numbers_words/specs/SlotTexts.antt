-- The texts of words: a name, a pair around a number, and the words of a unit; when two are the same, and what a JSON value says.
-- Defined in docs/words.md, "Tables of words".
-- Cited by the calls of `CurrencyName`, `TextPair` and `UnitText`, and by the reading of slots.
use Rattle.std.specs.Prelude.{ℕ, Bool, false, ◌&&◌, List, Option, None, Some, is_some, option_and_then, option_map, if◌then◌else◌}
use Rattle.std.proofs.Common.{◌≡◌, ap, Decides}
use Rattle.std.specs.Cmp.{IsEquivalence, decided}
use Rattle.std.specs.Cmp.Lexicographic.{bytes_decides}
use Rattle.std.specs.Str.{bytes_eq}
use Rattle.std.proofs.lemmas.Bool.Decides.{Decides-and, Decides-like}
use Rattle.serde_json.specs.Data.{Data}
use Rattle.serde_json.specs.Find.{as_str}
use Rattle.icu_decimal.specs.declared.plurals.PluralCategory.{PluralCategory}
use Rattle.icu_dimension_words.specs.Words.{Pair, Word, around, bare}
use Rattle.icu_dimension_words.specs.WordsText.{named_number}
use Rattle.locale_numbers_tables.specs.Entries.{field_at, has_count}

-- ---- what a JSON value says

abbrev pub name_in : PluralCategory → Data → Option (List ℕ)
name_in category value = as_str value

abbrev pub pair_of : List ℕ → List ℕ → Pair
pair_of before after = record { before = before; after = after }

-- two texts: before the number, and after it
abbrev pub pair_in : Data → Option Pair
pair_in value =
    if has_count 2 value
    then option_and_then (λ before. option_map (pair_of before) (field_at as_str 1 value)) (field_at as_str 0 value)
    else None

-- a text alone, only of a category that is named after a number
abbrev pub bare_in : PluralCategory → Data → Option (List ℕ)
bare_in category value = if has_count 1 value && is_some (named_number category) then field_at as_str 0 value else None

abbrev pub word_in : PluralCategory → Data → Option Word
word_in category value = if has_count 2 value then option_map around (pair_in value) else option_map bare (bare_in category value)

-- ---- the texts that are owned

-- one text, or two around a number
abbrev pub word_of_texts : List ℕ → Option (List ℕ) → Word
word_of_texts first None = bare first
word_of_texts first (Some after) = around (pair_of first after)

-- ---- when two are the same

pub same_name_equiv : IsEquivalence bytes_eq
same_name_equiv = decided bytes_eq bytes_decides

abbrev pub same_pair : Pair → Pair → Bool
same_pair p q = bytes_eq p.before q.before && bytes_eq p.after q.after

pub same_pair_decides : (p q : Pair) → Decides (same_pair p q) (p ≡ q)
same_pair_decides p q = Decides-like (same_pair p q)
    (λ h i. record { before = h.0 i; after = h.1 i })
    (λ e. (ap (λ r. r.before) e, ap (λ r. r.after) e))
    (Decides-and _ _ (bytes_decides p.before q.before) (bytes_decides p.after q.after))

pub same_pair_equiv : IsEquivalence same_pair
same_pair_equiv = decided same_pair same_pair_decides

abbrev pub same_word : Word → Word → Bool
same_word (around p) (around q) = same_pair p q
same_word (around p) (bare u) = false
same_word (bare t) (around q) = false
same_word (bare t) (bare u) = bytes_eq t u

pub same_word_decides : (w v : Word) → Decides (same_word w v) (w ≡ v)
same_word_decides (around p) (around q) = Decides-like (same_pair p q) (λ e. ap around e) (λ e. cc) (same_pair_decides p q)
same_word_decides (around p) (bare u) = (λ e. cc, λ e. cc)
same_word_decides (bare t) (around q) = (λ e. cc, λ e. cc)
same_word_decides (bare t) (bare u) = Decides-like (bytes_eq t u) (λ e. ap bare e) (λ e. cc) (bytes_decides t u)

pub same_word_equiv : IsEquivalence same_word
same_word_equiv = decided same_word same_word_decides
