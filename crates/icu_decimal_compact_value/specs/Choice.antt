-- Which entry of a table a number is shown under, with which significand and exponent; which entry an exact form has.
-- Defined in docs/compact-text.md, "The entry".
-- Cited by `show`, `can_show`, `exponent_for_magnitude`, `exact_entry` and by the functions of the module `laws`.
use Rattle.std.specs.Prelude.{ℕ, suc, ◌+◌, ◌/◌, ◌^◌, ◌<◌, ◌==◌, Bool, false, ◌&&◌, cond, nat_lt, nat_le, List, [], ◌∷◌, Option, None, Some}
use Rattle.std.specs.List.{find, slice_get}
use Rattle.std.specs.Option.{option_or, option_and_then}
use Rattle.fixed_decimal.specs.Rounding.{count_limit}
use Rattle.icu_decimal_compact_value.specs.declared.entry.CompactEntry.{CompactEntry}
use Rattle.icu_decimal_compact_value.specs.ShownValue.{magnitude, shown_value}

-- the last entry whose type a magnitude reaches
abbrev pub entry_at : ℕ → List CompactEntry → ℕ → Option CompactEntry
entry_at ones [] k = None
entry_at ones (x ∷ xs) k = option_or (entry_at ones xs k) (cond (nat_le (ones + x.log10_type) k) (Some x) None)

-- the entry after that one: the first whose type the magnitude does not reach
abbrev pub next_at : ℕ → List CompactEntry → ℕ → Option CompactEntry
next_at ones entries k = find (λ x. nat_lt k (ones + x.log10_type)) entries

-- the exponent of an entry, and 0 of none
abbrev pub exponent_of : Option CompactEntry → ℕ
exponent_of None = 0
exponent_of (Some x) = x.exponent

-- the place of the exponent that numbers whose first digit is at place k are shown with
abbrev pub exponent_place : ℕ → List CompactEntry → ℕ → ℕ
exponent_place ones entries k = ones + exponent_of (entry_at ones entries k)

-- the value shown under a table
abbrev pub shown_under : ℕ → List CompactEntry → ℕ → ℕ
shown_under ones entries n = shown_value ones (exponent_place ones entries) n

-- an entry is there, and its exponent is at the place k
abbrev pub has_exponent_at : ℕ → ℕ → Option CompactEntry → Bool
has_exponent_at ones k None = false
has_exponent_at ones k (Some x) = ones + x.exponent == k

-- a shown value is ten to the magnitude after place k, and the next entry has this magnitude as its exponent
abbrev pub is_carried_to : ℕ → List CompactEntry → ℕ → ℕ → Bool
is_carried_to ones entries k value = (value == 10 ^ suc k) && has_exponent_at ones (suc k) (next_at ones entries k)

-- a number is carried: its shown value is ten to the next magnitude, which is the next entry's exponent
abbrev pub is_carried : ℕ → List CompactEntry → ℕ → Bool
is_carried ones entries n = is_carried_to ones entries (magnitude ones n) (shown_under ones entries n)

-- what is shown: the count of a significand, its exponent, and the entry whose patterns are around it
pub record Choice : Type 0 where
  pub count : ℕ
  pub exponent : ℕ
  pub entry : Option CompactEntry

-- a value under an entry
abbrev pub under : ℕ → Option CompactEntry → Choice
under value entry = record { count = value / 10 ^ exponent_of entry; exponent = exponent_of entry; entry = entry }

-- what a number is shown as: its shown value under the entry of its magnitude, or 1 under the next entry
abbrev pub chosen : ℕ → List CompactEntry → ℕ → Choice
chosen ones entries n =
    let k = magnitude ones n in
    under (shown_under ones entries n) (cond (is_carried ones entries n) (next_at ones entries k) (entry_at ones entries k))

-- the entry, or none, of an exact form: that of the significand's magnitude and the exponent together, where it has this exponent
abbrev pub exact_entry : ℕ → List CompactEntry → ℕ → ℕ → Option (Option CompactEntry)
exact_entry ones entries s x =
    let entry = entry_at ones entries (magnitude ones s + x) in
    cond (exponent_of entry == x) (Some entry) None

-- the shown value stays below the limit of decimals
pub record CanShow (entries : List CompactEntry) (n : ℕ) : Type 0 where
  pub below : shown_under 32768 entries n < count_limit

-- the entry that an index names
abbrev pub entry_of : List CompactEntry → Option ℕ → Option CompactEntry
entry_of entries index = option_and_then (slice_get entries) index
