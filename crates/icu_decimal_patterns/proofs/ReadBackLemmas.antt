-- The JSON value of a table is read as its types.
use Rattle.std.proofs.Common.{◌≡◌, ◌<◌, ℕ, suc, Bool, true, false, not, ◌&&◌, cond, codes, List, [], ◌∷◌, Option, Some, None, refl, sym, ap, ◌∙◌}
use Rattle.std.specs.List.{list_all, list_any}
use Rattle.std.specs.Option.{option_or}
use Rattle.std.specs.Str.{bytes_eq}
use Rattle.std.proofs.lemmas.Bool.{and_parts, le-leb, lt-ltb, not-true, or_parts}
use Rattle.icu_decimal_compact_value.specs.declared.entry.CompactEntry.{CompactEntry}
use Rattle.icu_decimal_compact_value.specs.Entries.{Rises}
use Rattle.icu_decimal_patterns.specs.KeptEntries.{CompactTable, IsOwnTable, Patterns, types_held}
use Rattle.icu_decimal_patterns.specs.SmallEntries.{AreSmall}
use Rattle.icu_decimal_patterns.specs.Pattern.{PatternText, literal, around}
use Rattle.icu_decimal_patterns.specs.SlotsJson.{elements_in, elements_with, is_named, is_slot, is_slot_name, pattern_in, pattern_named, repeats_name, slots_of}
use Rattle.icu_decimal_patterns.specs.TableJson.{SaysTable, Slot, all_types, filled_slots, named_slots, pattern_json, rise_from, slot_json, slots_json, table_json, type_in, type_json, type_with, types_json, types_of}
use Rattle.icu_decimal_patterns.proofs.SlotsLemmas.{listed_of}

-- ---- slots

pattern_read : (p : PatternText) → pattern_in (pattern_json p) ≡ Some p
pattern_read (literal text) = refl
pattern_read (around before after) = refl

slot_tested : (name : List ℕ) (p : PatternText) → is_slot (slot_json name p) ≡ (is_slot_name name && true)
slot_tested name (literal text) = refl
slot_tested name (around before after) = refl

all_slots : (slots : List Slot) → list_all (λ (s : Slot). is_slot_name s.0) slots ≡ true → list_all is_slot (filled_slots slots) ≡ true
all_slots [] all = refl
all_slots ((name, None) ∷ slots) all = all_slots slots (and_parts (is_slot_name name) _ all).1
all_slots ((name, Some p) ∷ slots) all =
    let parts = and_parts (is_slot_name name) (list_all (λ (s : Slot). is_slot_name s.0) slots) all in
    rw (slot_tested name p, parts.0) (all_slots slots parts.1)

-- a slot of this name, filled or not
abbrev has_name : List ℕ → List Slot → Bool
has_name name slots = list_any (λ (s : Slot). bytes_eq s.0 name) slots

none_named : (name : List ℕ) (slots : List Slot) → has_name name slots ≡ false → list_any (is_named name) (filled_slots slots) ≡ false
none_named name [] none = refl
none_named name ((other, None) ∷ slots) none = none_named name slots (or_parts (bytes_eq other name) (has_name name slots) none).1
none_named name ((other, Some p) ∷ slots) none =
    let parts = or_parts (bytes_eq other name) (has_name name slots) none in
    rw parts.0 (none_named name slots parts.1)

-- no two slots have one name
abbrev are_distinct : List Slot → Bool
are_distinct [] = true
are_distinct (s ∷ slots) = not (has_name s.0 slots) && are_distinct slots

none_repeated : (slots : List Slot) → are_distinct slots ≡ true → repeats_name (filled_slots slots) ≡ false
none_repeated [] distinct = refl
none_repeated ((name, None) ∷ slots) distinct = none_repeated slots (and_parts (not (has_name name slots)) (are_distinct slots) distinct).1
none_repeated ((name, Some p) ∷ slots) distinct =
    let parts = and_parts (not (has_name name slots)) (are_distinct slots) distinct in
    rw (none_named name slots (not-true (has_name name slots) parts.0)) (none_repeated slots parts.1)

abbrev slot_at : List ℕ → List Slot → Option PatternText
slot_at name [] = None
slot_at name (s ∷ slots) = cond (bytes_eq s.0 name) (option_or s.1 (slot_at name slots)) (slot_at name slots)

or_none : (o : Option PatternText) → option_or o None ≡ o
or_none None = refl
or_none (Some p) = refl

both_ways : {A : Type 0} (b : Bool) (a : A) → cond b a a ≡ a
both_ways true a = refl
both_ways false a = refl

pattern_at : (name : List ℕ) (slots : List Slot) → pattern_named name (filled_slots slots) ≡ slot_at name slots
pattern_at name [] = refl
pattern_at name ((other, None) ∷ slots) = pattern_at name slots ∙ sym (both_ways (bytes_eq other name) (slot_at name slots))
pattern_at name ((other, Some p) ∷ slots) =
    ap (λ o. cond (bytes_eq other name) o (pattern_named name (filled_slots slots))) (pattern_read p)
    ∙ ap (cond (bytes_eq other name) (Some p)) (pattern_at name slots)

elements_read : (p : Patterns) → elements_with (filled_slots (named_slots p)) p.other ≡ p
elements_read p i = record {
  explicit_zero = (pattern_at (codes "0") (named_slots p) ∙ or_none p.explicit_zero) i;
  explicit_one = (pattern_at (codes "1") (named_slots p) ∙ or_none p.explicit_one) i;
  zero = (pattern_at (codes "zero") (named_slots p) ∙ or_none p.zero) i;
  one = (pattern_at (codes "one") (named_slots p) ∙ or_none p.one) i;
  two = (pattern_at (codes "two") (named_slots p) ∙ or_none p.two) i;
  few = (pattern_at (codes "few") (named_slots p) ∙ or_none p.few) i;
  many = (pattern_at (codes "many") (named_slots p) ∙ or_none p.many) i;
  other = p.other;
}

slots_in : (p : Patterns) → elements_in (filled_slots (named_slots p)) ≡ Some p
slots_in p =
    rw (all_slots (named_slots p) refl, none_repeated (named_slots p) refl, pattern_at (codes "other") (named_slots p), elements_read p) refl

pub slots_read : (p : Patterns) → slots_of (slots_json p) ≡ Some p
slots_read p = ap elements_in (listed_of (filled_slots (named_slots p))) ∙ slots_in p

-- ---- types

type_read : (e : CompactEntry) (p : Patterns) → e.log10_type < 256 → e.exponent < 256 → type_in (type_json e p) ≡ Some (type_with e.log10_type e.exponent p)
type_read e p small low = rw (lt-ltb e.log10_type 256 small, lt-ltb e.exponent 256 low, slots_read p) refl

all_read : (es : List CompactEntry) (ps : List Patterns) → AreSmall es → all_types (types_json es ps) ≡ Some (types_held es ps)
all_read [] ps small = refl
all_read (e ∷ es) [] small = refl
all_read (e ∷ es) (p ∷ ps) small = rw (type_read e p small.0.0 small.0.1, all_read es ps small.1) refl

held_rise : (least : ℕ) (es : List CompactEntry) (ps : List Patterns) → Rises least es → rise_from least (types_held es ps) ≡ true
held_rise least [] ps rise = refl
held_rise least (e ∷ es) [] rise = refl
held_rise least (e ∷ es) (p ∷ ps) rise = rw (le-leb least e.log10_type rise.0) (held_rise (suc e.log10_type) es ps rise.2)

-- the value of entries that rise is read as their types
table_read : (t : CompactTable) → AreSmall t.entries → Rises 0 t.entries → types_of (table_json t) ≡ Some (types_held t.entries t.patterns)
table_read t small rise =
    rw (listed_of (types_json t.entries t.patterns), all_read t.entries t.patterns small, held_rise 0 t.entries t.patterns rise) refl

pub reads_back : (t : CompactTable) → AreSmall t.entries → Rises 0 t.entries → IsOwnTable t → SaysTable (table_json t) t
reads_back t small rise own = rw (table_read t small rise) own
