-- Where an entry of parents may want memory: `specs/BookAllocation.antt`.
use Rattle.std.proofs.Common.{◌≡◌, Bool, true, false, ◌||◌, ◌&&◌, not, None, Some, List, is_some, refl, ap}
use Rattle.std.proofs.lemmas.Bool.{or_left, or_right}
use Rattle.serde_json.specs.Data.{Data}
use Rattle.locale_numbers_parents.specs.Parents.{Entry, leads_to, listed_parent}
use Rattle.locale_numbers_tables.specs.Allocation.{locale_may_grow}
use Rattle.locale_numbers_book.specs.BookAllocation.{parent_may_grow}
use Rattle.locale_numbers_book.specs.ParentEntries.{has_parent_shape, parent_entry, parent_fault}

-- it has two texts, and asks for memory for a locale of them
pub first_grows : (shape first second : Bool) → shape ≡ true → first ≡ true → (shape && (first || second)) ≡ true
first_grows shape first second is grows = rw (is, grows) refl

pub second_grows : (shape first second : Bool) → shape ≡ true → second ≡ true → (shape && (first || second)) ≡ true
second_grows shape first second is grows = rw is (or_right first second grows)

-- or it has no fault
module _ (before : List Entry) (entry : Data) where
  pub parent_asks : (has_parent_shape entry && (locale_may_grow 0 entry || locale_may_grow 1 entry)) ≡ true → parent_may_grow before entry ≡ true
  parent_asks grows = or_left (has_parent_shape entry && (locale_may_grow 0 entry || locale_may_grow 1 entry)) (not (is_some (parent_fault before entry))) grows

  pub parent_sound : parent_fault before entry ≡ None → parent_may_grow before entry ≡ true
  parent_sound sound = or_right (has_parent_shape entry && (locale_may_grow 0 entry || locale_may_grow 1 entry)) (not (is_some (parent_fault before entry))) (ap (λ o. not (is_some o)) sound)

  pub parent_new : (pair : Entry) → has_parent_shape entry ≡ true → parent_entry entry ≡ Some pair → listed_parent before pair.0 ≡ None → leads_to before pair.1 pair.0 ≡ false → parent_may_grow before entry ≡ true
  parent_new pair shape says absent away = parent_sound (rw (shape, says, absent, away) refl)
