-- What is read of a pattern, and the faults of entries that have one: `specs/Patterns.antt` and `specs/Percents.antt`.
use Rattle.std.proofs.Common.{◌≡◌, ◌<◌, ℕ, ◌+◌, ◌==◌, Bool, true, false, ◌&&◌, ◌||◌, cond, List, [], ◌∷◌, ◌++◌, drop, Option, None, Some, is_some, if◌then◌else◌, refl, sym, ap, ◌∙◌, arith}
use Rattle.std.specs.Prelude.{option_and_then, option_map}
use Rattle.std.specs.Option.{option_map_or}
use Rattle.icu_locale_core.specs.Subtags.{Text as Subtag}
use Rattle.std.proofs.lemmas.Bool.Decides.{nat_tests}
use Rattle.serde_json.specs.Data.{Data}
use Rattle.serde_json.specs.Find.{at}
use Rattle.icu_dimension.specs.UnitPatterns.{AffixesText, AffixPair, pair_with}
use Rattle.icu_dimension.specs.UnitPlaces.{placeholder, places}
use Rattle.icu_dimension.specs.declared.UnitPlace.{UnitPlace}
use Rattle.icu_dimension.specs.declared.UnitPlace.TheVariants.{Before, After}
use Rattle.icu_decimal.specs.declared.provider.GroupingSizes.{GroupingSizes}
use Rattle.locale_numbers_tables.specs.Entries.{field_at, grouping_sizes_of, symbol_texts}
use Rattle.locale_numbers_tables.specs.Faults.{first_broken, has_locale, has_symbols_shape}
use Rattle.locale_numbers_tables.specs.declared.BookError.TheVariants.{Shape, Tag, System, Text, Duplicate, Unit}
use Rattle.locale_numbers_units.specs.Fields.{has_at}
use Rattle.locale_numbers_units.specs.OwnSymbols.{as_entry, has_own_shape, is_null, own_in, system_or_empty}
use Rattle.locale_numbers_units.specs.Amounts.{amounts_fault, has_amounts_places, has_amounts_shape, has_amounts_systems, has_amounts_texts}
use Rattle.locale_numbers_units.specs.Percents.{has_percents_shape, has_percents_systems, has_percents_texts, percents_fault}
use Rattle.icu_decimal.specs.Symbols.{Symbols}
use Rattle.locale_numbers_units.specs.Patterns.{affixes_of, after_place, before_place, cut, has_pattern_shape, or_null, pattern_in}

-- a text around the place has it once more
places_around : (xs ys : List ℕ) → places (xs ++ (placeholder ++ ys)) ≡ places xs + (1 + places ys)
places_around [] ys = omega arith
places_around (x ∷ []) ys = omega arith
places_around (x ∷ y ∷ xs) ys = let rest = places_around (y ∷ xs) ys in omega (arith, rest)

-- ---- cut at the place

no_more : (a b : ℕ) → a + b ≡ 0 → b ≡ 0
no_more a b h = omega (arith, h)

no_first : (a b : ℕ) → a + b ≡ 0 → a ≡ 0
no_first a b h = omega (arith, h)

abbrev count : Bool → ℕ
count b = cond b 1 0

-- in front of the place nothing is it
before_found : (xs ys : List ℕ) → places xs ≡ 0 → before_place (xs ++ (placeholder ++ ys)) ≡ xs
before_found [] ys h = refl
before_found (x ∷ []) ys h = by (x == 194)
  where
    by : (b : Bool) → cond (b && false) [] (x ∷ before_place (placeholder ++ ys)) ≡ x ∷ []
    by true = refl
    by false = refl
before_found (x ∷ y ∷ xs) ys h =
    by (x == 194 && y == 164) (no_first (count (x == 194 && y == 164)) (places (y ∷ xs)) h)
    (before_found (y ∷ xs) ys (no_more (count (x == 194 && y == 164)) (places (y ∷ xs)) h))
  where
    by : (b : Bool) → count b ≡ 0 → before_place ((y ∷ xs) ++ (placeholder ++ ys)) ≡ y ∷ xs
        → cond b [] (x ∷ before_place ((y ∷ xs) ++ (placeholder ++ ys))) ≡ x ∷ y ∷ xs
    by true none rest = absurd (omega (arith, none))
    by false none rest = ap (λ zs. x ∷ zs) rest

after_found : (xs ys : List ℕ) → places xs ≡ 0 → after_place (xs ++ (placeholder ++ ys)) ≡ ys
after_found [] ys h = refl
after_found (x ∷ []) ys h = by (x == 194)
  where
    by : (b : Bool) → cond (b && false) (drop 1 (placeholder ++ ys)) (after_place (placeholder ++ ys)) ≡ ys
    by true = refl
    by false = refl
after_found (x ∷ y ∷ xs) ys h =
    by (x == 194 && y == 164) (no_first (count (x == 194 && y == 164)) (places (y ∷ xs)) h)
    (after_found (y ∷ xs) ys (no_more (count (x == 194 && y == 164)) (places (y ∷ xs)) h))
  where
    by : (b : Bool) → count b ≡ 0 → after_place ((y ∷ xs) ++ (placeholder ++ ys)) ≡ ys
        → cond b (drop 1 ((y ∷ xs) ++ (placeholder ++ ys))) (after_place ((y ∷ xs) ++ (placeholder ++ ys))) ≡ ys
    by true none rest = absurd (omega (arith, none))
    by false none rest = rest

no_zero : (m n : ℕ) → ((m + (1 + n)) == 0) ≡ false
no_zero m n = grind (arith, nat_tests)

-- affixes in which the place is once are those that their texts are cut into
cut_before : (xs ys zs : List ℕ) → places (xs ++ (placeholder ++ ys)) + places zs ≡ 1
    → cut (xs ++ (placeholder ++ ys)) zs ≡ record { place = Before; first = xs; second = ys; third = zs }
cut_before xs ys zs once =
    let here : places (xs ++ (placeholder ++ ys)) ≡ places xs + (1 + places ys) = places_around xs ys in
    let none : places xs ≡ 0 = omega (arith, once, here) in
    let some : (places (xs ++ (placeholder ++ ys)) == 0) ≡ false = ap (λ (n : ℕ). n == 0) here ∙ no_zero (places xs) (places ys) in
    rw (some, before_found xs ys none, after_found xs ys none) refl

cut_after : (xs ys zs : List ℕ) → places xs + places (ys ++ (placeholder ++ zs)) ≡ 1
    → cut xs (ys ++ (placeholder ++ zs)) ≡ record { place = After; first = xs; second = ys; third = zs }
cut_after xs ys zs once =
    let here : places (ys ++ (placeholder ++ zs)) ≡ places ys + (1 + places zs) = places_around ys zs in
    let none : places ys ≡ 0 = omega (arith, once, here) in
    let first : places xs ≡ 0 = omega (arith, once, here) in
    rw (first, before_found ys zs none, after_found ys zs none) refl

-- two texts with the place once are the affixes that they are cut into
once_cut : (before after : List ℕ) (a : AffixesText) → places before + places after ≡ 1 → cut before after ≡ a → affixes_of before after ≡ Some a
once_cut before after a once is = ap (λ (n : ℕ). if n == 1 then Some (cut before after) else None) once ∙ ap Some is

cut_of : (p : UnitPlace) (xs ys zs before after : List ℕ)
    → pair_with (record { place = p; first = xs; second = ys; third = zs }) placeholder ≡ record { before = before; after = after }
    → places before + places after ≡ 1 → affixes_of before after ≡ Some (record { place = p; first = xs; second = ys; third = zs })
cut_of Before xs ys zs before after is once =
    let first : xs ++ (placeholder ++ ys) ≡ before = ap (λ (p : AffixPair). p.before) is in
    let second : zs ≡ after = ap (λ (p : AffixPair). p.after) is in
    let again : places (xs ++ (placeholder ++ ys)) + places zs ≡ 1 = ap (λ b. places b + places zs) first ∙ ap (λ a. places before + places a) second ∙ once in
    ap (λ b. affixes_of b after) (sym first) ∙ ap (λ a. affixes_of (xs ++ (placeholder ++ ys)) a) (sym second)
    ∙ once_cut (xs ++ (placeholder ++ ys)) zs _ again (cut_before xs ys zs again)
cut_of After xs ys zs before after is once =
    let first : xs ≡ before = ap (λ (p : AffixPair). p.before) is in
    let second : ys ++ (placeholder ++ zs) ≡ after = ap (λ (p : AffixPair). p.after) is in
    let again : places xs + places (ys ++ (placeholder ++ zs)) ≡ 1 = ap (λ b. places b + places (ys ++ (placeholder ++ zs))) first ∙ ap (λ a. places before + places a) second ∙ once in
    ap (λ b. affixes_of b after) (sym first) ∙ ap (λ a. affixes_of xs a) (sym second)
    ∙ once_cut xs (ys ++ (placeholder ++ zs)) _ again (cut_after xs ys zs again)

pub cut_again : (before after : List ℕ) (a : AffixesText) → pair_with a placeholder ≡ record { before = before; after = after } → places before + places after ≡ 1
    → affixes_of before after ≡ Some a
cut_again before after a is once = cut_of a.place a.first a.second a.third before after is once

pub nowhere : (before after : List ℕ) → places before + places after ≡ 0 → affixes_of before after ≡ None
nowhere before after h = rw h refl

more_than_one : (n : ℕ) → 1 < n → (n == 1) ≡ false
more_than_one n h = grind (arith, nat_tests)

pub often : (before after : List ℕ) → 1 < places before + places after → affixes_of before after ≡ None
often before after h = rw (more_than_one (places before + places after) h) refl

-- ---- faults

and_last : (a x : Bool) → x ≡ false → (a && x) ≡ false
and_last true x h = h
and_last false x h = refl

and_first : (a x : Bool) → a ≡ false → (a && x) ≡ false
and_first true x h = cc
and_first false x h = refl

-- without sizes of groups the shape is broken
no_sizes : (e : Data) → grouping_sizes_of e ≡ None → has_symbols_shape e ≡ false
no_sizes e none = and_last _ (is_some (grouping_sizes_of e)) (ap (λ (o : Option GroupingSizes). is_some o) none)

own_none : (own : Data) → own_in own ≡ None → has_own_shape own ≡ false
own_none own h = by (is_null own) (grouping_sizes_of (as_entry own)) (no_sizes (as_entry own)) h
  where
    by : (b : Bool) (sizes : Option GroupingSizes) → (sizes ≡ None → has_symbols_shape (as_entry own) ≡ false)
        → (if b then Some None else option_map {T = Symbols} {U = Option Symbols} (λ symbols. Some symbols) (option_map (λ s. record { strings = symbol_texts (system_or_empty (as_entry own)) (as_entry own); grouping_sizes = s }) sizes)) ≡ None
        → (b || has_symbols_shape (as_entry own)) ≡ false
    by true sizes shape is = cc
    by false None shape is = shape refl
    by false (Some s) shape is = cc

none_from : {T : Type 0} (o : Option T) → is_some o ≡ false → o ≡ None
none_from None h = refl
none_from (Some x) h = cc

-- symbols that are not read have not their shape
pub no_own : (n : ℕ) (entry : Data) → field_at own_in n entry ≡ None → has_at has_own_shape n entry ≡ false
no_own n entry h = by (at n entry) h
  where
    by : (o : Option Data) → option_and_then own_in o ≡ None → option_map_or has_own_shape o false ≡ false
    by None is = refl
    by (Some own) is = own_none own is

pub percents_no_shape : (entry : Data) → is_some (field_at own_in 3 entry) ≡ false → percents_fault true entry ≡ Some Shape
percents_no_shape entry none =
    let own : has_at has_own_shape 3 entry ≡ false = no_own 3 entry (none_from _ none) in
    let shape : has_percents_shape entry ≡ false = and_first _ (has_at has_pattern_shape 4 entry) (and_last _ (has_at has_own_shape 3 entry) own) in
    rw shape refl

-- what would be refused as a duplicate has no other fault than of the place
after_key : (a b c d u : Bool)
    → first_broken ((Shape, a) ∷ (Tag, b) ∷ (System, c) ∷ (Text, d) ∷ (Duplicate, false) ∷ (Unit, u) ∷ []) ≡ Some Duplicate
    → first_broken ((Shape, a) ∷ (Tag, b) ∷ (System, c) ∷ (Text, d) ∷ (Duplicate, true) ∷ (Unit, u) ∷ []) ≡ (if u then None else Some Unit)
after_key true true true true u h = refl
after_key true true true false u h = cc
after_key true true false d u h = cc
after_key true false c d u h = cc
after_key false b c d u h = cc

percents_after_key : (entry : Data) → percents_fault false entry ≡ Some Duplicate
    → percents_fault true entry ≡ (if is_some (field_at pattern_in 4 entry) then None else Some Unit)
percents_after_key entry passes =
    after_key (has_percents_shape entry) (has_locale entry) (has_percents_systems entry) (has_percents_texts entry) (is_some (field_at pattern_in 4 entry)) passes

pub percents_unit : (entry : Data) → percents_fault false entry ≡ Some Duplicate → is_some (field_at pattern_in 4 entry) ≡ false → percents_fault true entry ≡ Some Unit
percents_unit entry passes none = percents_after_key entry passes ∙ ap (λ b. if b then None else Some Unit) none

pub percents_sound : (entry : Data) → percents_fault false entry ≡ Some Duplicate → is_some (field_at pattern_in 4 entry) ≡ true → percents_fault true entry ≡ None
percents_sound entry passes all = percents_after_key entry passes ∙ ap (λ b. if b then None else Some Unit) all

pub amounts_no_shape : (attribute : Option Subtag) (entry : Data) → is_some (field_at own_in 2 entry) ≡ false → amounts_fault attribute true entry ≡ Some Shape
amounts_no_shape attribute entry none =
    let own : has_at has_own_shape 2 entry ≡ false = no_own 2 entry (none_from _ none) in
    let shape : has_amounts_shape entry ≡ false =
    and_first _ (has_at (or_null has_pattern_shape) 4 entry) (and_first _ (has_at has_pattern_shape 3 entry) (and_last _ (has_at has_own_shape 2 entry) own)) in
    rw shape refl

amounts_after_key : (attribute : Option Subtag) (entry : Data) → amounts_fault attribute false entry ≡ Some Duplicate
    → amounts_fault attribute true entry ≡ (if has_amounts_places entry then None else Some Unit)
amounts_after_key attribute entry passes =
    after_key (has_amounts_shape entry) (has_locale entry) (has_amounts_systems attribute entry) (has_amounts_texts entry) (has_amounts_places entry) passes

pub amounts_unit : (attribute : Option Subtag) (entry : Data) → amounts_fault attribute false entry ≡ Some Duplicate → has_amounts_places entry ≡ false
    → amounts_fault attribute true entry ≡ Some Unit
amounts_unit attribute entry passes none = amounts_after_key attribute entry passes ∙ ap (λ b. if b then None else Some Unit) none

pub amounts_sound : (attribute : Option Subtag) (entry : Data) → amounts_fault attribute false entry ≡ Some Duplicate → has_amounts_places entry ≡ true
    → amounts_fault attribute true entry ≡ None
amounts_sound attribute entry passes all = amounts_after_key attribute entry passes ∙ ap (λ b. if b then None else Some Unit) all
