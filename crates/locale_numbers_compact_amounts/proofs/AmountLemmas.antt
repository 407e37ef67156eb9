-- Entries of compact amounts: what a table without a fault says, and where memory may be wanting.
use Rattle.std.proofs.Common.{◌≡◌, ℕ, ◌==◌, Bool, true, false, ◌&&◌, not, cond, length, List, [], ◌∷◌, Option, None, Some, if◌then◌else◌, option_map, ◌++◌, refl, sym, ap, subst, arith}
use Rattle.std.specs.Prelude.{option_and_then, suc}
use Rattle.std.proofs.lemmas.Bool.Decides.{nat_tests}
use Rattle.std.proofs.lemmas.List.{append-nil, append_assoc}
use Rattle.serde_json.specs.Data.{Data, Items, no_items, item}
use Rattle.icu_dimension_compact.specs.declared.CompactEntry.{CompactEntry}
use Rattle.icu_dimension_compact.specs.AmountTables.{AmountPatterns, AmountTable, fit_from, rise_from, table_fault}
use Rattle.icu_dimension_compact.specs.declared.error.ShortCurrencyCompactError.{ShortCurrencyCompactError}
use Rattle.icu_dimension_compact.specs.declared.error.ShortCurrencyCompactError.TheVariants as table
use Rattle.locale_numbers_compact_amounts.specs.AmountEntries.{amounts_fault, has_frame, has_types, made, said_fault, type_in, types_said, with_first}
use Rattle.locale_numbers_tables.specs.declared.BookError.{BookError}
use Rattle.locale_numbers_tables.specs.declared.BookError.TheVariants.{Shape, Types, Exponents}
use Rattle.locale_numbers_tables.specs.Faults.{first_broken}

-- ---- where memory may be wanting

pub amounts_sound : (entry : Data) → amounts_fault entry ≡ None → has_frame entry ≡ true
amounts_sound entry sound = by (has_frame entry) (has_types entry) _ sound
  where
    by : (a b : Bool) (o : Option BookError) → (if a && b then o else Some Shape) ≡ None → a ≡ true
    by true b o is = refl
    by false b o is = cc

-- ---- the table of types

abbrev fault_by : Bool → Bool → Bool → Option ShortCurrencyCompactError
fault_by l r f = cond (not l) (Some table.Lengths) (cond (not r) (Some table.Types) (cond (not f) (Some table.Exponents) None))

abbrev told_by : Bool → Bool → Option BookError
told_by r f = first_broken ((Shape, true) ∷ (Types, r) ∷ (Exponents, f) ∷ [])

made_by : (l r f : Bool) (t : AmountTable) → fault_by l r f ≡ None → (if r && f then Some t else None) ≡ Some t
made_by true true true t is = refl
made_by true true false t is = cc
made_by true false f t is = cc
made_by false r f t is = cc

none_by : (l r f : Bool) → fault_by l r f ≡ None → told_by r f ≡ None
none_by true true true is = refl
none_by true true false is = cc
none_by true false f is = cc
none_by false r f is = cc

types_by : (l r f : Bool) → fault_by l r f ≡ Some table.Types → told_by r f ≡ Some Types
types_by true true true is = cc
types_by true true false is = cc
types_by true false f is = refl
types_by false r f is = cc

exponents_by : (l r f : Bool) → fault_by l r f ≡ Some table.Exponents → told_by r f ≡ Some Exponents
exponents_by true true true is = cc
exponents_by true true false is = refl
exponents_by true false f is = cc
exponents_by false r f is = cc

lengths_by : (l r f : Bool) → fault_by l r f ≡ Some table.Lengths → l ≡ false
lengths_by true true true is = cc
lengths_by true true false is = cc
lengths_by true false f is = cc
lengths_by false r f is = refl

same_length : (a b : ℕ) → a ≡ b → (a == b) ≡ true
same_length a b e = grind (arith, nat_tests)

module _ (entries : List CompactEntry) (patterns : List AmountPatterns) where
  abbrev pub table_of : AmountTable
  table_of = record { entries = entries; patterns = patterns }

  abbrev alike : Bool
  alike = length entries == length patterns

  pub made_sound : table_fault entries patterns ≡ None → made table_of ≡ Some table_of
  made_sound is = made_by alike (rise_from 0 entries) (fit_from 0 entries) table_of is

  pub no_fault : table_fault entries patterns ≡ None → said_fault (Some table_of) ≡ None
  no_fault is = none_by alike (rise_from 0 entries) (fit_from 0 entries) is

  pub types_told : table_fault entries patterns ≡ Some table.Types → said_fault (Some table_of) ≡ Some Types
  types_told is = types_by alike (rise_from 0 entries) (fit_from 0 entries) is

  pub exponents_told : table_fault entries patterns ≡ Some table.Exponents → said_fault (Some table_of) ≡ Some Exponents
  exponents_told is = exponents_by alike (rise_from 0 entries) (fit_from 0 entries) is

  both : (b : Bool) → b ≡ true → b ≡ false → ⊥
  both true h is = cc
  both false h is = cc

  pub lengths_told : length entries ≡ length patterns → table_fault entries patterns ≡ Some table.Lengths → said_fault (Some table_of) ≡ Some Shape
  lengths_told same is = absurd (both alike (same_length (length entries) (length patterns) same) (lengths_by alike (rise_from 0 entries) (fit_from 0 entries) is))

-- types have as many patterns as entries
abbrev AreAlike : AmountTable → Type 0
AreAlike t = length t.entries ≡ length t.patterns

with_one_more : (type : CompactEntry × AmountPatterns) (t : AmountTable) → AreAlike t → AreAlike (with_first type t)
with_one_more type t h = ap suc h

said_alike : (items : Items) (t : AmountTable) → types_said items ≡ Some t → AreAlike t
said_alike no_items t is = let same : record { entries = []; patterns = [] } ≡ t = cc in subst (λ s. AreAlike s) same refl
said_alike (item d ds) t is = by (type_in d) (types_said ds) (λ s h. said_alike ds s h) is
  where
    by : (type : Option (CompactEntry × AmountPatterns)) (rest : Option AmountTable) → ((s : AmountTable) → rest ≡ Some s → AreAlike s)
        → option_and_then (λ type. option_map (with_first type) rest) type ≡ Some t → AreAlike t
    by None rest ih is = cc
    by (Some type) None ih is = cc
    by (Some type) (Some s) ih is = let same : with_first type s ≡ t = cc in subst (λ s. AreAlike s) same (with_one_more type s (ih s refl))

pub filled_alike : (items : Items) (entries : List CompactEntry) (patterns : List AmountPatterns) (good : Bool) → good ≡ true
    → (if good then Some (record { entries = entries; patterns = patterns }) else None) ≡ types_said items → length entries ≡ length patterns
filled_alike items entries patterns true is said = said_alike items (record { entries = entries; patterns = patterns }) (sym said)
filled_alike items entries patterns false is said = cc

-- ---- rows

abbrev pub joined : List CompactEntry → List AmountPatterns → AmountTable → AmountTable
joined entries patterns t = record { entries = entries ++ t.entries; patterns = patterns ++ t.patterns }

-- a type after others
one_more : (entries : List CompactEntry) (patterns : List AmountPatterns) (type : CompactEntry × AmountPatterns) (t : AmountTable)
    → joined (entries ++ type.0 ∷ []) (patterns ++ type.1 ∷ []) t ≡ joined entries patterns (with_first type t)
one_more entries patterns type t i = record {
  entries = append_assoc entries (type.0 ∷ []) t.entries i;
  patterns = append_assoc patterns (type.1 ∷ []) t.patterns i;
}

pub filled_more : (entries : List CompactEntry) (patterns : List AmountPatterns) (type : CompactEntry × AmountPatterns) (rest : Option AmountTable)
    → option_map (joined (entries ++ type.0 ∷ []) (patterns ++ type.1 ∷ [])) rest ≡ option_map (joined entries patterns) (option_map (with_first type) rest)
filled_more entries patterns type None = refl
filled_more entries patterns type (Some t) = ap (λ t. Some t) (one_more entries patterns type t)

pub filled_none : (all : Option AmountTable) → option_map (joined [] []) all ≡ all
filled_none None = refl
filled_none (Some t) = refl

pub filled_all : (entries : List CompactEntry) (patterns : List AmountPatterns)
    → option_map (joined entries patterns) (types_said no_items) ≡ Some (record { entries = entries; patterns = patterns })
filled_all entries patterns = ap (λ t. Some t) (λ i. record { entries = append-nil entries i; patterns = append-nil patterns i })
