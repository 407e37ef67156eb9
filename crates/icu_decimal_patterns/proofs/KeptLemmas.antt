-- What is kept, as a relation and as a function; the entries of a table rise.
use Rattle.std.proofs.Common.{rules, ◌≡◌, ◌≢◌, ℕ, ◌+◌, ◌-◌, ◌≤◌, suc, Bool, true, false, cond, List, [], ◌∷◌, ◌++◌, map, ◌↔◌, length, length-append, nat_lt, Option, None, Some, Ok, Err, IsErrOf, Decides, refl, sym, ap, ◌∙◌, subst, inl, inr, arith}
use Rattle.std.proofs.lemmas.Bool.Decides.{nat_tests}
use Rattle.std.proofs.lemmas.List.{append-nil, append_assoc}
use Rattle.std.specs.List.{AllByRecursion, slice_get}
use Rattle.std.specs.List.Sorted.{IsStrictlySortedBy}
use Rattle.std.specs.Map.{keys_of}
use Rattle.std.specs.Option.{option_or}
use Rattle.std.specs.Ordering.{nat_cmp}
use Rattle.std.specs.declared.cmp.Ordering.TheVariants.{Less}
use Rattle.icu_decimal_symbols.specs.declared.error.DataError.{DataError}
use Rattle.icu_decimal_compact_value.specs.declared.entry.CompactEntry.{CompactEntry}
use Rattle.icu_decimal_compact_value.specs.Entries.{IsEntry, Rises}
use Rattle.icu_decimal_patterns.specs.Elements.{without_one}
use Rattle.icu_decimal_patterns.specs.KeptEntries.{IsFaulty, IsTable, IsTableFault, Keeps, MakesEntries, NeverFalls, Patterns, TypePatterns, entry_in, fault_of, first_fault, of_type, table_of}
use Rattle.icu_decimal_patterns.specs.KeptSteps.{TypesRise, base_after, kept_of, last_base, repeats}
use Rattle.icu_decimal_patterns.specs.SameElements.{same_elements_decides}
use Rattle.icu_decimal_patterns.specs.SamePattern.{same_pattern, same_pattern_decides}

-- ---- types that rise

below : (x y : ℕ) → nat_cmp x y ≡ Less → suc x ≤ y
below x y less = search rules

all_above : (x : ℕ) (ys : List ℕ) → AllByRecursion (λ y. nat_cmp x y ≡ Less) ys → AllByRecursion (λ y. suc x ≤ y) ys
all_above x [] all = tt
all_above x (y ∷ ys) all = (below x y all.0, all_above x ys all.1)

rises_from : (least : ℕ) (es : List (ℕ × (ℕ × Patterns))) → AllByRecursion (λ y. least ≤ y) (keys_of es) → IsStrictlySortedBy nat_cmp (keys_of es) → TypesRise least (map of_type es)
unfolding IsStrictlySortedBy
rises_from least [] all sorted = tt
rises_from least (e ∷ es) all sorted = (all.0, rises_from (suc e.0) es (all_above e.0 (keys_of es) sorted.0) sorted.1)

all_numbers : (ys : List ℕ) → AllByRecursion (λ y. 0 ≤ y) ys
all_numbers [] = tt
all_numbers (y ∷ ys) = (omega arith, all_numbers ys)

pub sorted_rises : (es : List (ℕ × (ℕ × Patterns))) → IsStrictlySortedBy nat_cmp (keys_of es) → TypesRise 0 (map of_type es)
sorted_rises es sorted = rises_from 0 es (all_numbers (keys_of es)) sorted

rise_later : (least more : ℕ) (xs : List TypePatterns) → least ≤ more → TypesRise more xs → TypesRise least xs
rise_later least more [] up rise = tt
rise_later least more (x ∷ xs) up rise = (let here = rise.0 in omega (arith, up, here), rise.1)

-- ---- what is kept

repeats_decides : (base : Option Patterns) (p : Patterns) → Decides (repeats base p) (base ≡ Some p)
repeats_decides None p = (λ e. cc, λ e. cc)
repeats_decides (Some b) p =
    let same = same_elements_decides same_pattern same_pattern_decides p b in
    (λ e. ap Some (sym (same.0 e)), λ e. same.1 (cc))

pub keeps_kept : (base : Option Patterns) (xs : List TypePatterns) → Keeps base xs (kept_of base xs)
keeps_kept base [] = refl
keeps_kept base (x ∷ xs) = go (repeats base x.patterns) refl (keeps_kept base xs) (keeps_kept (Some (without_one x.patterns)) xs) where
  go : (b : Bool) → repeats base x.patterns ≡ b → Keeps base xs (kept_of base xs) → Keeps (Some (without_one x.patterns)) xs (kept_of (Some (without_one x.patterns)) xs)
      → Keeps base (x ∷ xs) (cond b (kept_of base xs) (x ∷ kept_of (Some (without_one x.patterns)) xs))
  go true e skipped kept = inl ((repeats_decides base x.patterns).0 e, skipped)
  go false e skipped kept =
      inr (λ same. absurd (let f = sym e ∙ (repeats_decides base x.patterns).1 same in cc), kept_of (Some (without_one x.patterns)) xs, refl, kept)

pub keeps_one : (base : Option Patterns) (xs ks : List TypePatterns) → Keeps base xs ks → ks ≡ kept_of base xs
keeps_one base [] ks is = is
keeps_one base (x ∷ xs) ks (inl skipped) = rw ((repeats_decides base x.patterns).1 skipped.0) (keeps_one base xs ks skipped.1)
keeps_one base (x ∷ xs) ks (inr kept) = go (repeats base x.patterns) refl (keeps_one (Some (without_one x.patterns)) xs kept.1 kept.3) where
  go : (b : Bool) → repeats base x.patterns ≡ b → kept.1 ≡ kept_of (Some (without_one x.patterns)) xs
      → ks ≡ cond b (kept_of base xs) (x ∷ kept_of (Some (without_one x.patterns)) xs)
  go true e rest = absurd (kept.0 ((repeats_decides base x.patterns).0 e))
  go false e rest = kept.2 ∙ ap (λ more. x ∷ more) rest

-- ---- what is written after the patterns that were kept

last_item : {A : Type 0} (ps : List A) (p : A) → slice_get (ps ++ p ∷ []) (length ps) ≡ Some p
last_item [] p = refl
last_item (q ∷ ps) p = last_item ps p

pub base_pushed : (base : Option Patterns) (ps : List Patterns) (p : Patterns) → base_after base (ps ++ p ∷ []) ≡ Some (without_one p)
base_pushed base ps p =
    let longer : length (ps ++ p ∷ []) ≡ length ps + 1 = length-append ps (p ∷ []) in
    let place : length (ps ++ p ∷ []) - 1 ≡ length ps = omega (arith, longer) in
    ap (λ n. last_base base (slice_get (ps ++ p ∷ []) n)) place ∙ ap (last_base base) (last_item ps p)

-- ---- tables

first_none : (a b : Option DataError) → option_or a b ≡ None → a ≡ None
first_none None b e = refl
first_none (Some x) b e = absurd (cc)

second_none : (a b : Option DataError) → option_or a b ≡ None → b ≡ None
second_none None b e = e
second_none (Some x) b e = absurd (cc)

sound_entry : (x : TypePatterns) → fault_of (entry_in x) ≡ None → IsEntry (entry_in x)
sound_entry x e = go (nat_lt x.log10_type x.exponent) refl (nat_lt (x.exponent + 15) x.log10_type) refl e where
  go : (a : Bool) → nat_lt x.log10_type x.exponent ≡ a → (b : Bool) → nat_lt (x.exponent + 15) x.log10_type ≡ b
      → cond a (Some DataError.AboveType) (cond b (Some DataError.TooManyZeros) None) ≡ None → IsEntry (entry_in x)
  go true ea b eb none = absurd (cc)
  go false ea true eb none = absurd (cc)
  go false ea false eb none = record { within = grind (arith, nat_tests, ea); zeros = grind (arith, nat_tests, eb) }

-- the entries of what is kept rise, where none has a fault
pub kept_rises : (least : ℕ) (base : Option Patterns) (xs : List TypePatterns) → TypesRise least xs → first_fault (kept_of base xs) ≡ None → Rises least (map entry_in (kept_of base xs))
kept_rises least base [] rise sound = tt
kept_rises least base (x ∷ xs) rise sound =
    go (repeats base x.patterns) sound (kept_rises least base xs (rise_later least (suc x.log10_type) xs (let here = rise.0 in omega (arith, here)) rise.1))
    (kept_rises (suc x.log10_type) (Some (without_one x.patterns)) xs rise.1) where
      go : (b : Bool) → first_fault (cond b (kept_of base xs) (x ∷ kept_of (Some (without_one x.patterns)) xs)) ≡ None
          → (first_fault (kept_of base xs) ≡ None → Rises least (map entry_in (kept_of base xs)))
          → (first_fault (kept_of (Some (without_one x.patterns)) xs) ≡ None → Rises (suc x.log10_type) (map entry_in (kept_of (Some (without_one x.patterns)) xs)))
          → Rises least (map entry_in (cond b (kept_of base xs) (x ∷ kept_of (Some (without_one x.patterns)) xs)))
      go true none skipped kept = skipped none
      go false none skipped kept =
          (rise.0, sound_entry x (first_none (fault_of (entry_in x)) _ none), kept (second_none (fault_of (entry_in x)) _ none))

pub is_table : (zero : Option Patterns) (given : List TypePatterns) → NeverFalls 0 given → first_fault (kept_of zero given) ≡ None → IsTable zero given (table_of (kept_of zero given))
is_table zero given order sound = record { order = order; kept = kept_of zero given; keeps = keeps_kept zero given; sound = sound; whole = refl }

pub is_faulty : (zero : Option Patterns) (given : List TypePatterns) (fault : DataError) → NeverFalls 0 given → first_fault (kept_of zero given) ≡ Some fault → IsFaulty zero given fault
is_faulty zero given fault order first = record { order = order; kept = kept_of zero given; keeps = keeps_kept zero given; first = first }

pub faulty_first : (zero : Option Patterns) (given : List TypePatterns) (fault : DataError) → IsFaulty zero given fault → first_fault (kept_of zero given) ≡ Some fault
faulty_first zero given fault is = ap first_fault (sym (keeps_one zero given is.kept is.keeps)) ∙ is.first

-- ---- one type more, and the end

pub kept_step : (base : Option Patterns) (es : List CompactEntry) (ps : List Patterns) (x : TypePatterns) (xs : List TypePatterns) (entries : List CompactEntry) (patterns : List Patterns)
    → repeats (base_after base ps) x.patterns ≡ false
    → (es ++ map entry_in (kept_of (base_after base ps) (x ∷ xs)) ≡ entries) × (ps ++ map (λ y. y.patterns) (kept_of (base_after base ps) (x ∷ xs)) ≡ patterns)
    → ((es ++ entry_in x ∷ []) ++ map entry_in (kept_of (base_after base (ps ++ x.patterns ∷ [])) xs) ≡ entries)
    × ((ps ++ x.patterns ∷ []) ++ map (λ y. y.patterns) (kept_of (base_after base (ps ++ x.patterns ∷ [])) xs) ≡ patterns)
kept_step base es ps x xs entries patterns fresh before =
    let rest : List TypePatterns = kept_of (Some (without_one x.patterns)) xs in
    let grown : kept_of (base_after base ps) (x ∷ xs) ≡ x ∷ rest = ap (λ b. cond b (kept_of (base_after base ps) xs) (x ∷ rest)) fresh in
    let later : kept_of (base_after base (ps ++ x.patterns ∷ [])) xs ≡ rest = ap (λ b. kept_of b xs) (base_pushed base ps x.patterns) in (
      ap (λ ks. (es ++ entry_in x ∷ []) ++ map entry_in ks) later ∙ append_assoc es (entry_in x ∷ []) (map entry_in rest)
          ∙ ap (λ ks. es ++ map entry_in ks) (sym grown) ∙ before.0,
      ap (λ ks. (ps ++ x.patterns ∷ []) ++ map (λ y. y.patterns) ks) later ∙ append_assoc ps (x.patterns ∷ []) (map (λ y. y.patterns) rest)
          ∙ ap (λ ks. ps ++ map (λ y. y.patterns) ks) (sym grown) ∙ before.1,
    )

pub kept_whole : (base b : Option Patterns) (given : List TypePatterns) (left : List (ℕ × (ℕ × Patterns))) (es : List CompactEntry) (ps : List Patterns)
    → left ≡ []
    → (es ++ map entry_in (kept_of b (map of_type left)) ≡ map entry_in (kept_of base given)) × (ps ++ map (λ y. y.patterns) (kept_of b (map of_type left)) ≡ map (λ y. y.patterns) (kept_of base given))
    → (es ≡ map entry_in (kept_of base given)) × (ps ≡ map (λ y. y.patterns) (kept_of base given))
kept_whole base b given left es ps none whole =
    let nothing : kept_of b (map of_type left) ≡ [] = ap (λ ys. kept_of b (map of_type ys)) none in (
      sym (append-nil es) ∙ ap (λ ks. es ++ map entry_in ks) (sym nothing) ∙ whole.0,
      sym (append-nil ps) ∙ ap (λ ks. ps ++ map (λ y. y.patterns) ks) (sym nothing) ∙ whole.1,
    )

-- ---- faults

some_one : (a b : DataError) → Some a ≡ Some b → a ≡ b
some_one a b e = cc

err_one : {T : Type 0} (a b : DataError) → IsErrOf {T = T} (Err a) b → a ≡ b
err_one a b e = cc

abbrev IsEntryFault : DataError → Type 0
IsEntryFault DataError.AboveType = Unit {0}
IsEntryFault DataError.TooManyZeros = Unit {0}
IsEntryFault _ = ⊥

fault_of_entry : (x : CompactEntry) (fault : DataError) → fault_of x ≡ Some fault → IsEntryFault fault
fault_of_entry x fault is = go (nat_lt x.log10_type x.exponent) (nat_lt (x.exponent + 15) x.log10_type) is where
  go : (a b : Bool) → cond a (Some DataError.AboveType) (cond b (Some DataError.TooManyZeros) None) ≡ Some fault → IsEntryFault fault
  go true b e = subst IsEntryFault (some_one DataError.AboveType fault e) tt
  go false true e = subst IsEntryFault (some_one DataError.TooManyZeros fault e) tt
  go false false e = absurd (cc)

first_of_entry : (xs : List TypePatterns) (fault : DataError) → first_fault xs ≡ Some fault → IsEntryFault fault
first_of_entry [] fault is = absurd (cc)
first_of_entry (x ∷ xs) fault is = go (fault_of (entry_in x)) refl is (first_of_entry xs fault) where
  go : (o : Option DataError) → fault_of (entry_in x) ≡ o → option_or o (first_fault xs) ≡ Some fault → (first_fault xs ≡ Some fault → IsEntryFault fault) → IsEntryFault fault
  go None e is later = later is
  go (Some f) e is later = fault_of_entry (entry_in x) fault (e ∙ is)

table_fault : (fault : DataError) → IsEntryFault fault → IsTableFault fault
table_fault DataError.IdentifierNotFound is = absurd is
table_fault DataError.InvalidRequest is = absurd is
table_fault DataError.Decreasing is = tt
table_fault DataError.TooManyZeros is = tt
table_fault DataError.AboveType is = tt
table_fault DataError.Memory is = tt
table_fault DataError.Custom is = absurd is

pub first_of_table : (xs : List TypePatterns) (fault : DataError) → first_fault xs ≡ Some fault → IsTableFault fault
first_of_table xs fault is = table_fault fault (first_of_entry xs fault is)

-- what a fault says of the types
pub told_error : {T : Type 0} (zero : Option Patterns) (given : List TypePatterns) (fault other : DataError) → NeverFalls 0 given → first_fault (kept_of zero given) ≡ Some fault
    → IsErrOf {T = T} (Err fault) other ↔ IsFaulty zero given other
told_error zero given fault other order first =
    (λ same. is_faulty zero given other order (first ∙ ap Some (err_one fault other same)), λ faulty. ap Err (some_one fault other (sym first ∙ faulty_first zero given other faulty)))

pub told_falling : {T : Type 0} (zero : Option Patterns) (given : List TypePatterns) (fault : DataError) → NeverFalls 0 given → first_fault (kept_of zero given) ≡ Some fault
    → IsErrOf {T = T} (Err fault) DataError.Decreasing ↔ (¬ (NeverFalls 0 given))
told_falling zero given fault order first =
    (λ same. absurd (subst IsEntryFault (err_one fault DataError.Decreasing same) (first_of_entry (kept_of zero given) fault first)), λ falls. absurd (falls order))

untold : (zero : Option Patterns) (given : List TypePatterns) (fault : DataError) → first_fault (kept_of zero given) ≡ None → ¬ (IsFaulty zero given fault)
untold zero given fault none faulty = let e : None ≡ Some fault = sym none ∙ faulty_first zero given fault faulty in cc

pub told_ok : {T : Type 0} (x : T) (zero : Option Patterns) (given : List TypePatterns) (other : DataError) → first_fault (kept_of zero given) ≡ None
    → IsErrOf (Ok x) other ↔ IsFaulty zero given other
told_ok x zero given other none = (λ same. absurd (cc), λ faulty. absurd (untold zero given other none faulty))

pub told_memory : {T : Type 0} (zero : Option Patterns) (given : List TypePatterns) (other : DataError) → first_fault (kept_of zero given) ≡ None → IsEntryFault other
    → IsErrOf {T = T} (Err DataError.Memory) other ↔ IsFaulty zero given other
told_memory zero given other none is =
    (λ same. absurd (subst IsEntryFault (sym (err_one DataError.Memory other same)) is), λ faulty. absurd (untold zero given other none faulty))

-- ---- where something is kept

pub not_empty : {A : Type 0} (es : List A) (e : A) (rest : List A) → es ++ e ∷ rest ≢ []
not_empty [] e rest same = cc
not_empty (f ∷ es) e rest same = cc

-- a type that does not repeat what is after it is kept
pub kept_some : (base b : Option Patterns) (given : List TypePatterns) (left more : List (ℕ × (ℕ × Patterns))) (e : ℕ × (ℕ × Patterns)) (es : List CompactEntry)
    → left ≡ e ∷ more → repeats b e.1.1 ≡ false
    → es ++ map entry_in (kept_of b (map of_type left)) ≡ map entry_in (kept_of base given)
    → kept_of base given ≢ []
kept_some base b given left more e es step fresh whole none =
    let here : kept_of b (map of_type left) ≡ of_type e ∷ kept_of (Some (without_one e.1.1)) (map of_type more)
    = ap (λ ys. kept_of b (map of_type ys)) step ∙ ap (λ t. cond t (kept_of b (map of_type more)) (of_type e ∷ kept_of (Some (without_one e.1.1)) (map of_type more))) fresh in
    not_empty es (entry_in (of_type e)) (map entry_in (kept_of (Some (without_one e.1.1)) (map of_type more)))
    (ap (λ ks. es ++ map entry_in ks) (sym here) ∙ whole ∙ ap (map entry_in) none)

no_entries : (ks : List TypePatterns) → map entry_in ks ≡ [] → ks ≡ []
no_entries [] none = refl
no_entries (k ∷ ks) none = absurd (cc)

pub makes_entries : (zero : Option Patterns) (given : List TypePatterns) → NeverFalls 0 given → first_fault (kept_of zero given) ≡ None → kept_of zero given ≢ []
    → MakesEntries zero given
makes_entries zero given order none some = record {
  table = table_of (kept_of zero given);
  made = is_table zero given order none;
  held = λ empty. some (no_entries (kept_of zero given) empty);
}

-- the first type is always kept, where nothing is written before it
pub first_kept : (given : List TypePatterns) → given ≢ [] → kept_of None given ≢ []
first_kept [] some none = some refl
first_kept (x ∷ xs) some none = cc

pub told_no_memory : {T : Type 0} (zero : Option Patterns) (given : List TypePatterns) (fault : DataError) → first_fault (kept_of zero given) ≡ Some fault
    → IsErrOf {T = T} (Err fault) DataError.Memory → MakesEntries zero given
told_no_memory zero given fault first same = absurd (subst IsEntryFault (err_one fault DataError.Memory same) (first_of_entry (kept_of zero given) fault first))
