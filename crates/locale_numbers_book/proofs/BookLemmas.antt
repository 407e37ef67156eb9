-- A value is one book at most, and what its arrays say of it: `specs/Book.antt`, `specs/Arrays.antt` and `specs/BookAllocation.antt`.
use Rattle.std.proofs.Common.{◌≡◌, ◌≤◌, ◌==◌, ℕ, ◌+◌, Bool, true, false, ◌||◌, ◌&&◌, Option, Some, None, List, [], is_some, option_and_then, option_map, unwrap_or, refl, sym, ap, ap₂, ◌∙◌, subst, if◌then◌else◌, inl, inr, arith}
use Rattle.std.specs.Prelude.{Result, Ok, Err, IfErr, IsErrAnd}
use Rattle.std.specs.Int.{is_in_range}
use Rattle.std.specs.Option.{option_or}
use Rattle.std.specs.Str.{bytes_eq}
use Rattle.std.proofs.lemmas.Bool.{cases_Bool, eqb-true, or_left, or_right}
use Rattle.std.proofs.lemmas.Option.{same_Some}
use Rattle.serde_json.specs.Data.{Data, null, boolean, number, string, array, object, Items, no_items, item}
use Rattle.serde_json.specs.Find.{as_array}
use Rattle.serde_json.specs.View.{items_view}
use Rattle.icu_decimal.specs.Identifiers.{Identifier}
use Rattle.locale_numbers_tables.specs.declared.BookError.{BookError}
use Rattle.locale_numbers_tables.specs.declared.BookError.TheVariants.{Shape}
use Rattle.locale_numbers_plurals.specs.Plurals.{ArePlurals, PluralTables, plurals_fault, plurals_may_grow}
use Rattle.locale_numbers_signs.specs.NumberSigns.{SignTexts}
use Rattle.locale_numbers_signs.specs.SignsEntries.{signs_entry, signs_faults, signs_may_grow}
use Rattle.locale_numbers_units.specs.declared.UnitArrays.{UnitArrays}
use Rattle.locale_numbers_units.specs.Units.{AreUnits, UnitsTables}
use Rattle.locale_numbers_book.specs.declared.json.more.MoreArrays.{MoreArrays}
use Rattle.locale_numbers_book.specs.declared.json.parts.BookArrays.{BookArrays}
use Rattle.locale_numbers_book.specs.Arrays.{AreParts, ArePluralsIn, AreSignsIn, AreTaken, HasParts, fault_beside, fault_of_parts, may_grow_beside, may_grow_of_parts, more_fault_in, more_may_grow_in, of_arrays, sixth_of, units_fault_in, units_may_grow_in, value_of_units}
use Rattle.locale_numbers_book.specs.Book.{BookTables, HasPlurals, HasSigns, HasTables, HasUnits, IsBook}
use Rattle.locale_numbers_tables.specs.Allocation.{begins_with}
use Rattle.locale_numbers_tables.specs.CompactEntries.{compact_entry, each}
use Rattle.locale_numbers_tables.specs.Entries.{all_of, count_of_items, digits_entry, field_at, has_count, symbols_entry}
use Rattle.locale_numbers_tables.specs.Faults.{compact_faults, digits_faults, rules_faults, symbols_faults}
use Rattle.locale_numbers_book.specs.Form.{alone_fault, are_more, are_units, arrays_fault, book_fault, book_part, fault_of, five_fault, has_form, has_more_form, has_parts, has_units_form, items_at, more_fault, more_part, parts_fault, units_part}
use Rattle.locale_numbers_book.specs.Laws.{AloneStays, PairsStay, TriplesStay, has_plurals_form, pair_fault, pair_may_grow, pair_of, triple_fault, triple_may_grow, triple_of}
use Rattle.locale_numbers_tables.specs.Keys.{same_data_locale, same_key, table_in}
use Rattle.locale_numbers_book.specs.ParentEntries.{parent_entry, parents_faults}
use Rattle.locale_numbers_tables.specs.Telling.{IsTold}
use Rattle.locale_numbers_book.specs.BookAllocation.{alone_may_grow, arrays_may_grow, book_may_grow, five_may_grow, grows_if_there, more_may_grow, parts_may_grow}
use Rattle.locale_numbers_tables.specs.RulesEntries.{rules_entry}
use Rattle.locale_numbers_tables.proofs.FaultLemmas.{told_at, told_first}

-- ---- one book

same_five : (a b c d e : Items) (one other : UnitsTables) → AreUnits a b c d e one → AreUnits a b c d e other → one ≡ other
same_five a b c d e one other m n =
    let percents = same_Some one.percents other.percents (sym m.percents_are ∙ n.percents_are) in
    let currencies = same_Some one.currencies other.currencies (sym m.currencies_are ∙ n.currencies_are) in
    let accounts = same_Some one.accounts other.accounts (sym m.accounts_are ∙ n.accounts_are) in
    let symbols = same_Some one.symbols other.symbols (sym m.symbols_are ∙ n.symbols_are) in
    let digits = same_Some one.digits other.digits (sym m.digits_are ∙ n.digits_are) in
    λ i. record { percents = percents i; currencies = currencies i; accounts = accounts i; symbols = symbols i; digits = digits i }

same_units : (value : Option Data) (one other : Option UnitsTables) → HasUnits value one → HasUnits value other → one ≡ other
same_units None None None m n = refl
same_units None None (Some other) m n = absurd n
same_units None (Some one) other m n = absurd m
same_units (Some value) None other m n = absurd m
same_units (Some value) (Some one) None m n = absurd n
same_units (Some value) (Some one) (Some other) m n =
    ap Some (same_five (items_at 0 value) (items_at 1 value) (items_at 2 value) (items_at 3 value) (items_at 4 value) one other m n)

same_arrays : (ordinals ranges : Items) (one other : PluralTables) → ArePlurals ordinals ranges one → ArePlurals ordinals ranges other → one ≡ other
same_arrays ordinals ranges one other m n =
    let rules = same_Some one.ordinals other.ordinals (sym m.ordinals_are ∙ n.ordinals_are) in
    let lists = same_Some one.ranges other.ranges (sym m.ranges_are ∙ n.ranges_are) in
    λ i. record { ordinals = rules i; ranges = lists i }

same_plurals : (value : Option Data) (one other : Option PluralTables) → HasPlurals value one → HasPlurals value other → one ≡ other
same_plurals None None None m n = refl
same_plurals None None (Some other) m n = absurd n
same_plurals None (Some one) other m n = absurd m
same_plurals (Some value) None other m n = absurd m
same_plurals (Some value) (Some one) None m n = absurd n
same_plurals (Some value) (Some one) (Some other) m n = ap Some (same_arrays (items_at 0 value) (items_at 1 value) one other m n)

pub one_book : (value : Data) (book other : BookTables) → IsBook value book → IsBook value other → book ≡ other
one_book value book other m n =
    let symbols = same_Some book.symbols other.symbols (sym m.arrays.symbols ∙ n.arrays.symbols) in
    let digits = same_Some book.digits other.digits (sym m.arrays.digits ∙ n.arrays.digits) in
    let rules = same_Some book.rules other.rules (sym m.arrays.rules ∙ n.arrays.rules) in
    let short = same_Some book.short other.short (sym m.arrays.short ∙ n.arrays.short) in
    let long = same_Some book.long other.long (sym m.arrays.long ∙ n.arrays.long) in
    let parents : book.parents ≡ other.parents = sym m.arrays.parents ∙ n.arrays.parents in
    let units : book.units ≡ other.units = same_units (units_part value) book.units other.units m.units n.units in
    let plurals : book.plurals ≡ other.plurals = same_plurals (more_part value) book.plurals other.plurals m.plurals n.plurals in
    let signs = same_Some book.signs other.signs (sym m.signs ∙ n.signs) in
    λ i. record { symbols = symbols i; digits = digits i; rules = rules i; short = short i; long = long i; parents = parents i; units = units i; plurals = plurals i; signs = signs i }

-- ---- the arrays

-- one of the arrays begins so
module _ (a b c d e f : Bool) where
  pub or_second : b ≡ true → (a || b || c || d || e || f) ≡ true
  or_second h = or_left _ f (or_left _ e (or_left _ d (or_left _ c (or_right a b h))))

  pub or_third : c ≡ true → (a || b || c || d || e || f) ≡ true
  or_third h = or_left _ f (or_left _ e (or_left _ d (or_right _ c h)))

  pub or_fourth : d ≡ true → (a || b || c || d || e || f) ≡ true
  or_fourth h = or_left _ f (or_left _ e (or_right _ d h))

  pub or_fifth : e ≡ true → (a || b || c || d || e || f) ≡ true
  or_fifth h = or_left _ f (or_right _ e h)

  pub or_sixth : f ≡ true → (a || b || c || d || e || f) ≡ true
  or_sixth h = or_right _ f h

-- or what is beside them does
pub or_beside : (a b : Bool) → b ≡ true → (a || b) ≡ true
or_beside a b h = or_right a b h

-- the fault of the short patterns, that of the long ones, and that of the parents
module _ (s d r h l p : Items) (e : BookError) (symbols : symbols_faults s ≡ None) (digits : digits_faults d ≡ None) (rules : rules_faults r ≡ None) where
  pub told_short : IsTold (compact_faults h) e → IsTold (arrays_fault s d r h l p) e
  told_short told = told_at _ (arrays_fault s d r h l p) e (rw (symbols, digits, rules) refl) (told_first (compact_faults h) (option_or (compact_faults l) (parents_faults [] p)) e told)

  pub told_long : compact_faults h ≡ None → IsTold (compact_faults l) e → IsTold (arrays_fault s d r h l p) e
  told_long short told = told_at _ (arrays_fault s d r h l p) e (rw (symbols, digits, rules, short) refl) (told_first (compact_faults l) (parents_faults [] p) e told)

  pub told_parents : compact_faults h ≡ None → compact_faults l ≡ None → IsTold (parents_faults [] p) e → IsTold (arrays_fault s d r h l p) e
  told_parents short long told = told_at _ (arrays_fault s d r h l p) e (rw (symbols, digits, rules, short, long) refl) told

-- an error that is passed on
pub passed_on : {T : Type 0} (r : Result T BookError) (e : BookError) (P : BookError → Type 0) → IsErrAnd r (λ f. f ≡ e) → P e → IfErr r P
passed_on (Ok x) e P same told = tt
passed_on (Err f) e P same told = subst P (sym same) told

-- ---- the value of arrays

pub or_none : (o : Option BookError) → option_or o None ≡ o
or_none None = refl
or_none (Some e) = refl

or_not : (b : Bool) → (b || false) ≡ b
or_not true = refl
or_not false = refl

module _ (s d r h l : Items) where
  last_of : (p : Option Items) → field_at as_array 5 (of_arrays s d r h l p) ≡ p
  last_of None = refl
  last_of (Some p) = refl

  -- the tables of arrays
  pub made : (p : Option Items) (book : BookTables) → table_in same_key symbols_entry s ≡ Some book.symbols → table_in bytes_eq digits_entry d ≡ Some book.digits → table_in same_data_locale rules_entry r ≡ Some book.rules
      → table_in same_key compact_entry h ≡ Some book.short → table_in same_key compact_entry l ≡ Some book.long → option_and_then (all_of parent_entry) p ≡ book.parents
      → HasTables (of_arrays s d r h l p) book
  made p book a b c e f g = record {
    symbols = a;
    digits = b;
    rules = c;
    short = e;
    long = f;
    parents = ap (option_and_then (all_of parent_entry)) (last_of p) ∙ g;
  }

  -- none of which has a fault
  pub none_of_six : (p : Items) → symbols_faults s ≡ None → digits_faults d ≡ None → rules_faults r ≡ None → compact_faults h ≡ None → compact_faults l ≡ None → parents_faults [] p ≡ None
      → arrays_fault s d r h l p ≡ None
  none_of_six p symbols digits rules short long parents = rw (symbols, digits, rules, short, long) parents

-- the tables are those of a book with other units, other plurals and other signs
pub with_beside : (value : Data) (book whole : BookTables) → whole ≡ record book { units = whole.units; plurals = whole.plurals; signs = whole.signs }
    → HasTables value book → HasTables value whole
with_beside value book whole same has = subst (HasTables value) (sym same) (record {
  symbols = has.symbols;
  digits = has.digits;
  rules = has.rules;
  short = has.short;
  long = has.long;
  parents = has.parents;
})

-- units, and then plurals and signs
pub both_given : (old first last : BookTables) → first ≡ record old { units = first.units } → last ≡ record first { plurals = last.plurals; signs = last.signs }
    → last ≡ record old { units = last.units; plurals = last.plurals; signs = last.signs }
both_given old first last one other =
    other ∙ ap (λ (b : BookTables). record b { plurals = last.plurals; signs = last.signs }) one
    ∙ ap (λ (u : Option UnitsTables). record old { units = u; plurals = last.plurals; signs = last.signs }) (sym (ap (λ (b : BookTables). b.units) other))

-- ---- the parts of a value

module _ (s d r h l : Items) where
  -- arrays as a value have their fault
  fault_of_arrays : (p : Option Items) → alone_fault (of_arrays s d r h l p) ≡ arrays_fault s d r h l (unwrap_or p no_items)
  fault_of_arrays None = refl
  fault_of_arrays (Some p) = refl

units_formed : (u : Option UnitArrays) → are_units (option_map value_of_units u) ≡ true
units_formed None = refl
units_formed (Some u) = refl

units_faulty : (u : Option UnitArrays) → fault_of five_fault (option_map value_of_units u) ≡ units_fault_in u
units_faulty None = refl
units_faulty (Some u) = refl

more_formed : (more : Option Data) (m : Option MoreArrays) → AreTaken more m → are_more more ≡ true
more_formed None None is = refl
more_formed None (Some m) is = absurd is
more_formed (Some more) None is = absurd is
more_formed (Some more) (Some m) is = is.form

more_faulty : (more : Option Data) (m : Option MoreArrays) → AreTaken more m → fault_of more_fault more ≡ more_fault_in m
more_faulty None None is = refl
more_faulty None (Some m) is = absurd is
more_faulty (Some more) None is = absurd is
more_faulty (Some more) (Some m) is = sym (ap₂ (λ (p s : Option BookError). option_or p s) (ap₂ plurals_fault is.ordinals is.ranges) (ap signs_faults is.signs))

more_grows : (more : Option Data) (m : Option MoreArrays) → AreTaken more m → grows_if_there more_may_grow more ≡ more_may_grow_in m
more_grows None None is = refl
more_grows None (Some m) is = absurd is
more_grows (Some more) None is = absurd is
more_grows (Some more) (Some m) is = sym (ap₂ (λ (p s : Bool). p || s) (ap₂ plurals_may_grow is.ordinals is.ranges) (ap (begins_with signs_may_grow) is.signs))

or_three : (a b c : Bool) → (a || b || c) ≡ (a || (b || c))
or_three true b c = refl
or_three false b c = refl

-- and with their units and plurals they ask for memory as they do
module _ (s d r h l : Items) (more : Option Data) (m : Option MoreArrays) (taken : AreTaken more m) where
  room_of_parts : (p : Option Items) (u : Option UnitArrays)
      → parts_may_grow (of_arrays s d r h l p) (option_map value_of_units u) more ≡ (arrays_may_grow s d r h l (unwrap_or p no_items) || may_grow_beside u m)
  room_of_parts None None = rw (more_formed more m taken, more_grows more m taken) (or_three (arrays_may_grow s d r h l no_items) false (more_may_grow_in m))
  room_of_parts (Some p) None = rw (more_formed more m taken, more_grows more m taken) (or_three (arrays_may_grow s d r h l p) false (more_may_grow_in m))
  room_of_parts None (Some u) = rw (more_formed more m taken, more_grows more m taken) (or_three (arrays_may_grow s d r h l no_items) (units_may_grow_in (Some u)) (more_may_grow_in m))
  room_of_parts (Some p) (Some u) = rw (more_formed more m taken, more_grows more m taken) (or_three (arrays_may_grow s d r h l p) (units_may_grow_in (Some u)) (more_may_grow_in m))

plurals_there : (more : Option Data) (m : Option MoreArrays) (tables : Option PluralTables) → AreTaken more m → ArePluralsIn m tables → HasPlurals more tables
plurals_there None None None is has = tt
plurals_there None None (Some tables) is has = absurd has
plurals_there None (Some m) tables is has = absurd is
plurals_there (Some more) None tables is has = absurd is
plurals_there (Some more) (Some m) None is has = absurd has
plurals_there (Some more) (Some m) (Some tables) is has = subst (λ (o : Items). ArePlurals o (items_at 1 more) tables) is.ordinals (subst (λ (r : Items). ArePlurals (items_view m.plurals.ordinals.items) r tables) is.ranges has)

signs_there : (more : Option Data) (m : Option MoreArrays) (tables : List (Identifier × SignTexts)) → AreTaken more m → AreSignsIn m tables → HasSigns more tables
signs_there None None tables is has = has
signs_there None (Some m) tables is has = absurd is
signs_there (Some more) None tables is has = absurd is
signs_there (Some more) (Some m) tables is has = ap (table_in same_key signs_entry) (sym is.signs) ∙ has

-- what parts tell of the value that they were taken from
module _ (arrays : BookArrays) (value : Data) (is : AreParts value arrays) where
  fault_is : book_fault value ≡ fault_of_parts arrays
  fault_is =
      let a = arrays.book in
      rw (
        is.book,
        is.units,
        units_formed arrays.units,
        more_formed (more_part value) arrays.more is.more,
        units_faulty arrays.units,
        more_faulty (more_part value) arrays.more is.more,
      )
      (ap (λ (o : Option BookError). option_or o (fault_beside arrays.units arrays.more)) (fault_of_arrays (items_view a.first.items) (items_view a.second.items) (items_view a.third.items) (items_view a.fourth.items) (items_view a.fifth.items) (sixth_of a)))

  pub told_value : (e : BookError) → IsTold (fault_of_parts arrays) e → IsTold (book_fault value) e
  told_value e told = told_at _ _ e (sym fault_is) told

  pub room_value : may_grow_of_parts arrays ≡ true → book_may_grow value ≡ true
  room_value grows =
      let a = arrays.book in
      rw (is.book, is.units)
      (room_of_parts (items_view a.first.items) (items_view a.second.items) (items_view a.third.items) (items_view a.fourth.items) (items_view a.fifth.items) (more_part value) arrays.more is.more (sixth_of a) arrays.units ∙ grows)

  -- and it is the book of their tables
  pub made_whole : (tables : BookTables) → HasParts arrays tables → IsBook value tables
  made_whole tables has = record {
    sound = fault_is ∙ has.sound;
    arrays = subst (λ v. HasTables v tables) (sym is.book) has.arrays;
    units = subst (λ u. HasUnits u tables.units) (sym is.units) has.units;
    plurals = plurals_there (more_part value) arrays.more tables.plurals is.more has.plurals;
    signs = signs_there (more_part value) arrays.more tables.signs is.more has.signs;
  }

-- ---- a value without a fault

-- has none in its book
pub alone_sound : (book : Data) (units more : Option Data) → parts_fault book units more ≡ None → alone_fault book ≡ None
alone_sound book units more none = by (are_units units && are_more more) (alone_fault book) none
  where
    by : (form : Bool) (found : Option BookError) → (if form then option_or found (option_or (fault_of five_fault units) (fault_of more_fault more)) else Some Shape) ≡ None → found ≡ None
    by true None h = refl
    by true (Some e) h = absurd (cc)
    by false found h = absurd (cc)

pub sound_book : (value : Data) → book_fault value ≡ None → alone_fault (book_part value) ≡ None
sound_book value none = alone_sound (book_part value) (units_part value) (more_part value) none

-- ---- books as they were

no_units : (units : Option UnitsTables) → HasUnits None units → units ≡ None
no_units None has = refl
no_units (Some units) has = absurd has

no_plurals : (plurals : Option PluralTables) → HasPlurals None plurals → plurals ≡ None
no_plurals None has = refl
no_plurals (Some plurals) has = absurd has

no_signs : (signs : List (Identifier × SignTexts)) → HasSigns None signs → signs ≡ []
no_signs signs has = sym (same_Some [] signs has)

-- a book alone may ask for memory where its arrays do
alone_grows : (book : Data) → parts_may_grow book None None ≡ alone_may_grow book
alone_grows book = by (has_form book) (arrays_may_grow (items_at 0 book) (items_at 1 book) (items_at 2 book) (items_at 3 book) (items_at 4 book) (items_at 5 book))
  where
    by : (form grows : Bool) → (form && true && true && (form && grows || false || false)) ≡ (form && grows)
    by true true = refl
    by true false = refl
    by false grows = refl

pub alone_stays : AloneStays
alone_stays value two three =
    let parts : has_parts value ≡ false = rw (two, three) refl in
    let book : book_part value ≡ value = rw parts refl in
    let units : units_part value ≡ None = rw parts refl in
    let more : more_part value ≡ None = rw parts refl in
    let fault : book_fault value ≡ alone_fault value = rw (book, units, more) (or_none (alone_fault value)) in
    let room : book_may_grow value ≡ alone_may_grow value = rw (book, units, more) (alone_grows value) in (
      fault,
      room,
      λ tables. (
        λ is. record {
          sound = sym fault ∙ is.sound;
          arrays = subst (λ v. HasTables v tables) book is.arrays;
          units = no_units tables.units (subst (λ u. HasUnits u tables.units) units is.units);
          plurals = no_plurals tables.plurals (subst (λ m. HasPlurals m tables.plurals) more is.plurals);
          signs = no_signs tables.signs (subst (λ m. HasSigns m tables.signs) more is.signs);
        },
        λ is. record {
          sound = fault ∙ is.sound;
          arrays = subst (λ v. HasTables v tables) (sym book) is.arrays;
          units = subst (λ u. HasUnits u tables.units) (sym units) (subst (HasUnits None) (sym is.units) tt);
          plurals = subst (λ m. HasPlurals m tables.plurals) (sym more) (subst (HasPlurals None) (sym is.plurals) tt);
          signs = subst (λ m. HasSigns m tables.signs) (sym more) (ap Some (sym is.signs));
        },
      ),
    )

pair_faulty : (first second : Data) → book_fault (pair_of first second) ≡ pair_fault first second
pair_faulty first second = by (has_units_form second) (alone_fault first) (five_fault second)
  where
    by : (form : Bool) (a u : Option BookError) → (if form && true then option_or a (option_or u None) else Some Shape) ≡ (if form then option_or a u else Some Shape)
    by true a u = rw (or_none u) refl
    by false a u = refl

pair_grows : (first second : Data) → book_may_grow (pair_of first second) ≡ pair_may_grow first second
pair_grows first second = by (has_form first) (has_units_form second) (alone_may_grow first) (five_may_grow second)
  where
    by : (f g a u : Bool) → (f && g && true && (a || u || false)) ≡ (f && g && (a || u))
    by true true true u = refl
    by true true false true = refl
    by true true false false = refl
    by true false a u = refl
    by false g a u = refl

pub pairs_stay : PairsStay
pairs_stay first second = (
  pair_faulty first second,
  pair_grows first second,
  λ tables. (
    λ is. record {
      sound = sym (pair_faulty first second) ∙ is.sound;
      arrays = is.arrays;
      units = is.units;
      plurals = no_plurals tables.plurals is.plurals;
      signs = no_signs tables.signs is.signs;
    },
    λ is. record {
      sound = pair_faulty first second ∙ is.sound;
      arrays = is.arrays;
      units = is.units;
      plurals = subst (HasPlurals None) (sym is.plurals) tt;
      signs = ap Some (sym is.signs);
    },
  ),
)

-- the form of plurals alone
and_true : (a b : Bool) → (a && (b && true)) ≡ (a && b)
and_true true true = refl
and_true true false = refl
and_true false b = refl

-- a third array without entries
third_empty : (n r a b t : Bool) → t ≡ false → ((n && r) && (a && (b && (t || true)))) ≡ ((n && (true && r)) && (a && b))
third_empty n r a b true h = cc
third_empty true true true true false h = refl
third_empty true true true false false h = refl
third_empty true true false b false h = refl
third_empty true false a b false h = refl
third_empty false r a b false h = refl

-- a third item that is no array
third_other : (n r a b t : Bool) → t ≡ false → ((n && r) && (a && (b && (t || false)))) ≡ ((n && false) && (a && b))
third_other n r a b true h = cc
third_other true true true true false h = refl
third_other true true true false false h = refl
third_other true true false b false h = refl
third_other true false a b false h = refl
third_other false r a b false h = refl

not_two : (n : ℕ) → 3 ≤ n → (n == 2) ≡ false
not_two n h = elim (cases_Bool (n == 2)) [
  | inl two ↦ let is = eqb-true n 2 two in absurd (omega (arith, is, h))
  | inr other ↦ other
]

-- two arrays and a third item without entries, and others
module _ (a b : Data) (rest : Items) where
  abbrev count : ℕ
  count = 1 + (1 + (1 + count_of_items rest))

  longer : (count == 2) ≡ false
  longer = not_two count (omega arith)

  long_stays : (c : Data) → unwrap_or (as_array c) no_items ≡ no_items → has_more_form (array (item a (item b (item c rest)))) ≡ has_plurals_form (array (item a (item b (item c rest))))
  long_stays null empty = third_other (is_in_range 2 8 count) (each (λ value. has_count 0 value) rest) (is_some (as_array a)) (is_some (as_array b)) (count == 2) longer
  long_stays (boolean x) empty = third_other (is_in_range 2 8 count) (each (λ value. has_count 0 value) rest) (is_some (as_array a)) (is_some (as_array b)) (count == 2) longer
  long_stays (number n) empty = third_other (is_in_range 2 8 count) (each (λ value. has_count 0 value) rest) (is_some (as_array a)) (is_some (as_array b)) (count == 2) longer
  long_stays (string s) empty = third_other (is_in_range 2 8 count) (each (λ value. has_count 0 value) rest) (is_some (as_array a)) (is_some (as_array b)) (count == 2) longer
  long_stays (object ms) empty = third_other (is_in_range 2 8 count) (each (λ value. has_count 0 value) rest) (is_some (as_array a)) (is_some (as_array b)) (count == 2) longer
  long_stays (array no_items) empty =
      third_empty (is_in_range 2 8 count) (each (λ value. has_count 0 value) rest) (is_some (as_array a)) (is_some (as_array b)) (count == 2) longer
  long_stays (array (item d ds)) empty = absurd (cc)

form_stays : (value : Data) → items_at 2 value ≡ no_items → has_more_form value ≡ has_plurals_form value
form_stays null h = refl
form_stays (boolean b) h = refl
form_stays (number n) h = refl
form_stays (string s) h = refl
form_stays (object ms) h = refl
form_stays (array no_items) h = refl
form_stays (array (item a no_items)) h = refl
form_stays (array (item a (item b no_items))) h = and_true (is_some (as_array a)) (is_some (as_array b))
form_stays (array (item a (item b (item c rest)))) h = long_stays a b rest c h

triple_faulty : (first second third : Data) → items_at 2 third ≡ no_items → book_fault (triple_of first second third) ≡ triple_fault first second third
triple_faulty first second third empty =
    rw (form_stays third empty, empty)
    (ap (λ (o : Option BookError). if has_units_form second && has_plurals_form third then option_or (alone_fault first) (option_or (five_fault second) o) else Some Shape)
    (or_none (plurals_fault (items_at 0 third) (items_at 1 third))))

triple_grows : (first second third : Data) → items_at 2 third ≡ no_items → book_may_grow (triple_of first second third) ≡ triple_may_grow first second third
triple_grows first second third empty =
    rw (form_stays third empty, empty)
    (ap (λ (p : Bool). has_form first && has_units_form second && has_plurals_form third && (alone_may_grow first || five_may_grow second || p))
    (or_not (plurals_may_grow (items_at 0 third) (items_at 1 third))))

pub triples_stay : TriplesStay
triples_stay first second third empty = (
  triple_faulty first second third empty,
  triple_grows first second third empty,
  λ tables. (
    λ is. record {
      sound = sym (triple_faulty first second third empty) ∙ is.sound;
      arrays = is.arrays;
      units = is.units;
      plurals = is.plurals;
      signs = no_signs tables.signs (ap (table_in same_key signs_entry) (sym empty) ∙ is.signs);
    },
    λ is. record {
      sound = triple_faulty first second third empty ∙ is.sound;
      arrays = is.arrays;
      units = is.units;
      plurals = is.plurals;
      signs = ap (table_in same_key signs_entry) empty ∙ ap Some (sym is.signs);
    },
  ),
)
