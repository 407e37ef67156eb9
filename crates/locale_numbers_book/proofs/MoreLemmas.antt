-- The outer form of what a book has beside its tables and its units: `specs/Form.antt` and `specs/Arrays.antt`.
use Rattle.std.proofs.Common.{◌≡◌, ◌<◌, ◌≤◌, ◌==◌, false, List, [], ◌∷◌, ◌-◌, length, take, drop, refl, arith}
use Rattle.std.proofs.lemmas.Bool.{le-leb, lt-leb}
use Rattle.std.proofs.lemmas.List.{take_rest}
use Rattle.serde_json.specs.View.{items_view}
use Rattle.serde_json.specs.declared.value.Value.{Value}
use Rattle.locale_numbers_tables.specs.CompactEntries.{each}
use Rattle.locale_numbers_tables.specs.Entries.{has_count}
use Rattle.locale_numbers_tables.proofs.TableLemmas.{count-items}
use Rattle.locale_numbers_book.specs.Form.{after_three, empty_after_three}

-- ---- the form

behind_three : (values : List Value) → items_view (drop 3 values) ≡ after_three (items_view values)
behind_three [] = refl
behind_three (first ∷ []) = refl
behind_three (first ∷ second ∷ []) = refl
behind_three (first ∷ second ∷ third ∷ rest) = refl

pub few : (values : List Value) → length values < 3 → (length values == 2) ≡ empty_after_three (items_view values)
few [] h = refl
few (first ∷ []) h = refl
few (first ∷ second ∷ []) h = refl
few (first ∷ second ∷ third ∷ rest) h = absurd (omega arith)

pub many : (values : List Value) → 8 < length values → false ≡ empty_after_three (items_view values)
many values h = rw (count-items values, le-leb 2 (length values) (omega arith), lt-leb (length values) 8 h) refl

pub right : (values : List Value) → 3 ≤ length values → length values ≤ 8
    → each (λ value. has_count 0 value) (items_view (take (length values - 3) (drop 3 values))) ≡ empty_after_three (items_view values)
right values h i = rw (take_rest values 3, count-items values, le-leb 2 (length values) (omega arith), le-leb (length values) 8 i, behind_three values) refl
