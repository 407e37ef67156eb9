-- The types of each table of patterns of a book rise, and its numbers fit into bytes: `specs/Laws.antt`.
use Rattle.std.proofs.Common.{◌≡◌, ◌<◌, ℕ, suc, Bool, true, false, cond, nat_lt, List, [], ◌∷◌, map, Option, Some, None, option_map, refl, sym, ap, ◌∙◌, subst, if◌then◌else◌}
use Rattle.std.specs.List.{AllByRecursion}
use Rattle.std.specs.Option.{option_and_then, option_or}
use Rattle.std.specs.Prelude.{is_some, unwrap_or, nat_le}
use Rattle.std.proofs.lemmas.Bool.{and_parts, leb-true, ltb-true}
use Rattle.serde_json.specs.Data.{Data, Items, no_items, item}
use Rattle.serde_json.specs.Find.{as_array, as_number, as_u64, at}
use Rattle.icu_decimal.specs.Entries.{Rises}
use Rattle.icu_decimal.specs.Identifiers.{Identifier}
use Rattle.icu_decimal.specs.KeptEntries.{CompactTable, Patterns, entry_in, first_fault, of_type}
use Rattle.icu_decimal.specs.KeptSteps.{TypesRise, kept_of, repeats}
use Rattle.icu_decimal.specs.SlotsJson.{slots_of}
use Rattle.icu_decimal.specs.SmallEntries.{AreSmall}
use Rattle.icu_decimal.specs.Elements.{without_one}
use Rattle.icu_decimal.proofs.KeptLemmas.{keeps_one, kept_rises}
use Rattle.locale_numbers_tables.specs.declared.BookError.{BookError}
use Rattle.locale_numbers_tables.specs.declared.BookError.TheVariants.{Shape, Tag, System, Text, Types, Exponents}
use Rattle.locale_numbers_tables.specs.CompactEntries.{Row, compact_entry, compact_of, has_plain_patterns, rise_from, row_in, row_with, rows_in, rows_of, table_made, zero_of}
use Rattle.locale_numbers_tables.specs.Entries.{all_of, entry_key, field_at, has_count}
use Rattle.locale_numbers_tables.specs.Faults.{compact_fault, compact_faults, digits_faults, first_broken, first_fault_after, has_compact_shape, has_locale, rules_faults, symbols_faults}
use Rattle.locale_numbers_book.specs.Form.{book_part, has_form, items_at}
use Rattle.locale_numbers_tables.specs.Fields.{size_in, system_or_none_in}
use Rattle.locale_numbers_tables.specs.Keys.{same_key}
use Rattle.locale_numbers_book.specs.Laws.{AreSoundTables, BookTablesAreSound, IsSoundTable}
use Rattle.locale_numbers_book.specs.ParentEntries.{parents_faults}
use Rattle.locale_numbers_tables.proofs.CompactLemmas.{table_meant}
use Rattle.locale_numbers_book.proofs.BookLemmas.{sound_book}
use Rattle.locale_numbers_book.proofs.ReadTables.{read_whole}
use Rattle.locale_numbers_units.proofs.EntryLemmas.{first_none, second_none}

-- ---- numbers of rows

small_if : (o : Option ℕ) (n : ℕ) → option_and_then (λ m. if nat_lt m 256 then Some m else None) o ≡ Some n → n < 256
small_if None n is = absurd (cc)
small_if (Some m) n is = by (nat_lt m 256) refl is
  where
    by : (b : Bool) → nat_lt m 256 ≡ b → (if b then Some m else None) ≡ Some n → n < 256
    by true test same = let one : m ≡ n = cc in subst (λ x. x < 256) one (ltb-true m 256 test)
    by false test same = absurd (cc)

size_small : (field : Data) (n : ℕ) → size_in field ≡ Some n → n < 256
size_small field n is = small_if (option_and_then as_u64 (as_number field)) n is

size_at_small : (o : Option Data) (n : ℕ) → option_and_then size_in o ≡ Some n → n < 256
size_at_small None n is = absurd (cc)
size_at_small (Some field) n is = size_small field n is

abbrev pub IsSmallRow : Row → Type 0
IsSmallRow r = (r.0 < 256) × (r.1.0 < 256)

row_by : (b : Bool) (x y : Option ℕ) (z : Option Patterns) (r : Row) → ((n : ℕ) → x ≡ Some n → n < 256) → ((n : ℕ) → y ≡ Some n → n < 256)
    → (if b then option_and_then (λ log10_type. option_and_then (λ exponent. option_map (row_with log10_type exponent) z) y) x else None) ≡ Some r → IsSmallRow r
row_by true (Some a) (Some b) (Some p) r f g is = let same : row_with a b p ≡ r = cc in subst IsSmallRow same (f a refl, g b refl)
row_by true (Some a) (Some b) None r f g is = absurd (cc)
row_by true (Some a) None z r f g is = absurd (cc)
row_by true None y z r f g is = absurd (cc)
row_by false x y z r f g is = absurd (cc)

row_small : (row : Data) (r : Row) → row_in row ≡ Some r → IsSmallRow r
row_small row r is =
    row_by (has_count 3 row) (field_at size_in 0 row) (field_at size_in 1 row) (field_at slots_of 2 row) r
    (size_at_small (at 0 row)) (size_at_small (at 1 row)) is

abbrev pub AreSmallRows : List Row → Type 0
AreSmallRows rows = AllByRecursion IsSmallRow rows

rows_by : (o : Option Row) (p : Option (List Row)) (rows : List Row) → option_and_then (λ e. option_map {T = List Row} {U = List Row} (λ es. e ∷ es) p) o ≡ Some rows
    → ((r : Row) → o ≡ Some r → IsSmallRow r) → ((rs : List Row) → p ≡ Some rs → AreSmallRows rs) → AreSmallRows rows
rows_by (Some r) (Some rs) rows is f g = let same : r ∷ rs ≡ rows = cc in subst AreSmallRows same (f r refl, g rs refl)
rows_by (Some r) None rows is f g = absurd (cc)
rows_by None p rows is f g = absurd (cc)

rows_small : (items : Items) (rows : List Row) → all_of row_in items ≡ Some rows → AreSmallRows rows
rows_small no_items rows is = let same : [] ≡ rows = cc in subst AreSmallRows same tt
rows_small (item d ds) rows is = rows_by (row_in d) (all_of row_in ds) rows is (row_small d) (rows_small ds)

held_small : (o : Option (List Row)) → ((rs : List Row) → o ≡ Some rs → AreSmallRows rs) → AreSmallRows (unwrap_or o [])
held_small None f = tt
held_small (Some rs) f = f rs refl

array_small : (o : Option Items) (rs : List Row) → option_and_then (all_of row_in) o ≡ Some rs → AreSmallRows rs
array_small None rs is = absurd (cc)
array_small (Some items) rs is = rows_small items rs is

field_small : (o : Option Data) (rs : List Row) → option_and_then rows_in o ≡ Some rs → AreSmallRows rs
field_small None rs is = absurd (cc)
field_small (Some field) rs is = array_small (as_array field) rs is

entry_small : (entry : Data) → AreSmallRows (rows_of entry)
entry_small entry = held_small (field_at rows_in 2 entry) (field_small (at 2 entry))

-- ---- what is kept

types_rise : (least : ℕ) (rows : List Row) → rise_from least rows ≡ true → TypesRise least (map of_type rows)
types_rise least [] rise = tt
types_rise least (row ∷ rows) rise =
    let parts = and_parts (nat_le least row.0) (rise_from (suc row.0) rows) rise in
    (leb-true least row.0 parts.0, types_rise (suc row.0) rows parts.1)

kept_small : (base : Option Patterns) (rows : List Row) → AreSmallRows rows → AreSmall (map entry_in (kept_of base (map of_type rows)))
kept_small base [] small = tt
kept_small base (row ∷ rows) small =
    go (repeats base row.1.1) (kept_small base rows small.1) (kept_small (Some (without_one row.1.1)) rows small.1)
  where
    go : (b : Bool) → AreSmall (map entry_in (kept_of base (map of_type rows))) → AreSmall (map entry_in (kept_of (Some (without_one row.1.1)) (map of_type rows)))
        → AreSmall (map entry_in (cond b (kept_of base (map of_type rows)) (of_type row ∷ kept_of (Some (without_one row.1.1)) (map of_type rows))))
    go true skipped kept = skipped
    go false skipped kept = (small.0, kept)

-- ---- a table

sound_rows : (zero : Option Patterns) (rows : List Row) (table : CompactTable) → table_made zero (map of_type rows) ≡ Some table → rise_from 0 rows ≡ true → AreSmallRows rows → IsSoundTable table
sound_rows zero rows table made rise small =
    let is = table_meant zero (map of_type rows) table made in
    let same : is.kept ≡ kept_of zero (map of_type rows) = keeps_one zero (map of_type rows) is.kept is.keeps in
    let none : first_fault (kept_of zero (map of_type rows)) ≡ None = ap first_fault (sym same) ∙ is.sound in
    let entries : map entry_in (kept_of zero (map of_type rows)) ≡ table.entries = ap (map entry_in) (sym same) ∙ sym (ap (λ t. t.entries) is.whole) in
    record {
      rises = subst (Rises 0) entries (kept_rises 0 zero (map of_type rows) (types_rise 0 rows rise) none);
      small = subst AreSmall entries (kept_small zero rows small);
    }

fifth_holds : (a b c d e f : Bool) → first_broken ((Shape, a) ∷ (Tag, b) ∷ (System, c) ∷ (Text, d) ∷ (Types, e) ∷ (Exponents, f) ∷ []) ≡ None → e ≡ true
fifth_holds true true true true true f none = refl
fifth_holds true true true true false f none = absurd (cc)
fifth_holds true true true false e f none = absurd (cc)
fifth_holds true true false d e f none = absurd (cc)
fifth_holds true false c d e f none = absurd (cc)
fifth_holds false b c d e f none = absurd (cc)

sound_entry : (entry : Data) (table : CompactTable) → compact_of entry ≡ Some table → compact_fault entry ≡ None → IsSoundTable table
sound_entry entry table is none =
    sound_rows (zero_of entry) (rows_of entry) table is
    (fifth_holds (has_compact_shape entry) (has_locale entry) (is_some (field_at system_or_none_in 1 entry)) (has_plain_patterns entry) (rise_from 0 (rows_of entry)) (is_some (compact_of entry)) none)
    (entry_small entry)

-- ---- all tables

abbrev pub Pair : Type 0
Pair = Identifier × CompactTable

pairs_by : (k : Option Identifier) (t : Option CompactTable) (p : Option (List Pair)) (pairs : List Pair)
    → option_and_then (λ e. option_map {T = List Pair} {U = List Pair} (λ es. e ∷ es) p) (option_and_then (λ key. option_map {T = CompactTable} {U = Pair} (λ table. (key, table)) t) k) ≡ Some pairs
    → ((table : CompactTable) → t ≡ Some table → IsSoundTable table) → ((ps : List Pair) → p ≡ Some ps → AreSoundTables ps) → AreSoundTables pairs
pairs_by (Some key) (Some table) (Some ps) pairs is f g = let same : (key, table) ∷ ps ≡ pairs = cc in subst AreSoundTables same (f table refl, g ps refl)
pairs_by (Some key) (Some table) None pairs is f g = absurd (cc)
pairs_by (Some key) None p pairs is f g = absurd (cc)
pairs_by None t p pairs is f g = absurd (cc)

sound_items : (items : Items) (before : List Identifier) (pairs : List Pair) → all_of compact_entry items ≡ Some pairs
    → first_fault_after same_key entry_key compact_fault before items ≡ None → AreSoundTables pairs
sound_items no_items before pairs is none = let same : [] ≡ pairs = cc in subst AreSoundTables same tt
sound_items (item d ds) before pairs is none =
    let here = first_none _ _ none in
    let sound : compact_fault d ≡ None = first_none _ _ here in
    pairs_by (entry_key d) (compact_of d) (all_of compact_entry ds) pairs is
    (λ table t. sound_entry d table t sound)
    (λ ps p. sound_items ds _ ps p (second_none _ _ none))

pub record LastFaults (d e p : Option BookError) : Type 0 where
  pub fourth : d ≡ None
  pub fifth : e ≡ None
  pub sixth : p ≡ None

pub no_fault_of : (f : Bool) (a b c d e p : Option BookError) → (if f then option_or a (option_or b (option_or c (option_or d (option_or e p)))) else Some Shape) ≡ None → LastFaults d e p
no_fault_of true a b c d e p none =
    let rest = second_none c _ (second_none b _ (second_none a _ none)) in
    let last = second_none d _ rest in
    record { fourth = first_none d _ rest; fifth = first_none e p last; sixth = second_none e p last }
no_fault_of false a b c d e p none = absurd (cc)

pub tables_sound : BookTablesAreSound
tables_sound value book is =
    let alone = book_part value in
    let none = no_fault_of (has_form alone) (symbols_faults (items_at 0 alone)) (digits_faults (items_at 1 alone)) (rules_faults (items_at 2 alone)) (compact_faults (items_at 3 alone)) (compact_faults (items_at 4 alone))
    (parents_faults [] (items_at 5 alone)) (sound_book value is.sound) in (
      sound_items (items_at 3 alone) [] book.short (read_whole same_key (all_of compact_entry (items_at 3 alone)) book.short is.arrays.short) none.fourth,
      sound_items (items_at 4 alone) [] book.long (read_whole same_key (all_of compact_entry (items_at 4 alone)) book.long is.arrays.long) none.fifth,
    )
