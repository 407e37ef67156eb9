-- The parents of a book close no cycle, so its chains end: `specs/Laws.antt`.
use Rattle.std.proofs.Common.{◌≡◌, Bool, true, false, not, List, [], ◌∷◌, ◌++◌, append_assoc, Option, None, Some, is_some, option_and_then, option_map, unwrap_or, refl, sym, ◌∙◌, subst}
use Rattle.std.proofs.lemmas.List.{append-nil}
use Rattle.std.proofs.lemmas.Option.{same_Some}
use Rattle.serde_json.specs.Data.{Items, no_items, item}
use Rattle.serde_json.specs.Find.{as_array}
use Rattle.icu_locale_core.specs.TagPreferences.{DataLocaleMeaning}
use Rattle.icu_decimal_chains.specs.Chains.{Follows, walk}
use Rattle.locale_numbers_parents.specs.Parents.{Entry, IsParents, leads_to, listed_parent}
use Rattle.locale_numbers_parents.proofs.ParentsLemmas.{cuts_none, no_parents, one_more, stays_open}
use Rattle.locale_numbers_tables.specs.declared.BookError.TheVariants.{Shape, Tag, Duplicate, Cycle}
use Rattle.locale_numbers_tables.specs.Entries.{all_of, field_at}
use Rattle.locale_numbers_tables.specs.Faults.{compact_faults, digits_faults, first_broken, rules_faults, symbols_faults}
use Rattle.locale_numbers_book.specs.Form.{book_part, has_form, items_at}
use Rattle.locale_numbers_book.specs.Laws.{BookChainsEnd}
use Rattle.locale_numbers_book.specs.ParentEntries.{closes_cycle, has_parent_shape, is_listed, parent_entry, parent_fault, parents_faults}
use Rattle.locale_numbers_book.specs.Tables.{step_in, steps_in}
use Rattle.locale_numbers_book.proofs.BookLemmas.{sound_book}
use Rattle.locale_numbers_book.proofs.SoundLemmas.{no_fault_of}
use Rattle.locale_numbers_units.proofs.EntryLemmas.{first_none, second_none}

-- an entry without a fault has a new locale, which the chain of its parent does not meet
parts_of_fault : (before : List Entry) (read : Option Entry) (pair : Entry) (shape : Bool) → read ≡ Some pair
    → first_broken ((Shape, shape) ∷ (Tag, is_some read) ∷ (Duplicate, not (is_listed before read)) ∷ (Cycle, not (closes_cycle before read)) ∷ []) ≡ None
    → (listed_parent before pair.0 ≡ None) × (leads_to before pair.1 pair.0 ≡ false)
parts_of_fault before read pair false is sound = absurd (cc)
parts_of_fault before read pair true is sound = by (listed_parent before pair.0) (leads_to before pair.1 pair.0) (rw is at sound)
  where
    by : (listed : Option DataLocaleMeaning) (met : Bool) → first_broken ((Shape, true) ∷ (Tag, true) ∷ (Duplicate, not (is_some listed)) ∷ (Cycle, not met) ∷ []) ≡ None → (listed ≡ None) × (met ≡ false)
    by None false h = (refl, refl)
    by None true h = absurd (cc)
    by (Some parent) met h = absurd (cc)

sound_items : (items : Items) (before rest : List Entry) → IsParents before → all_of parent_entry items ≡ Some rest → parents_faults before items ≡ None → IsParents (before ++ rest)
sound_items no_items before rest is all sound = subst (λ (xs : List Entry). IsParents (before ++ xs)) (same_Some [] rest all) (subst IsParents (sym (append-nil before)) is)
sound_items (item entry items) before rest is all sound = by (λ more es. sound_items items more es) (parent_entry entry) refl (all_of parent_entry items) refl all
  where
    by : ((more es : List Entry) → IsParents more → all_of parent_entry items ≡ Some es → parents_faults more items ≡ None → IsParents (more ++ es))
        → (read : Option Entry) → parent_entry entry ≡ read → (tail : Option (List Entry)) → all_of parent_entry items ≡ tail
        → option_and_then (λ e. option_map {T = List Entry} {U = List Entry} (λ es. e ∷ es) tail) read ≡ Some rest → IsParents (before ++ rest)
    by again None reads tail left h = absurd (cc)
    by again (Some e) reads None left h = absurd (cc)
    by again (Some e) reads (Some es) left h =
        let new = parts_of_fault before (parent_entry entry) e (has_parent_shape entry) reads (first_none (parent_fault before entry) _ sound) in
        let more = one_more before e is new.0 (stays_open before e.0 e.1 new.0 (cuts_none before is e.1) new.1) in
        let behind : parents_faults (before ++ e ∷ []) items ≡ None = rw reads at (second_none (parent_fault before entry) _ sound) in
        subst (λ (xs : List Entry). IsParents (before ++ xs)) (same_Some (e ∷ es) rest h) (subst IsParents (append_assoc before (e ∷ []) es) (again (before ++ e ∷ []) es more left behind))

entries_sound : (found : Option Items) (entries : List Entry) → parents_faults [] (unwrap_or found no_items) ≡ None → option_and_then (all_of parent_entry) found ≡ Some entries → IsParents entries
entries_sound None entries sound all = absurd (cc)
entries_sound (Some items) entries sound all = sound_items items [] entries no_parents all sound

ends_with : (parents : Option (List Entry)) → ((entries : List Entry) → parents ≡ Some entries → IsParents entries) → (locale : DataLocaleMeaning)
    → Follows (step_in parents) locale (walk (step_in parents) (steps_in parents) locale)
ends_with None sound locale = refl
ends_with (Some entries) sound locale = cuts_none entries (sound entries refl) locale

pub chains_end : BookChainsEnd
chains_end value book is =
    let alone = book_part value in
    let none = no_fault_of (has_form alone) (symbols_faults (items_at 0 alone)) (digits_faults (items_at 1 alone)) (rules_faults (items_at 2 alone)) (compact_faults (items_at 3 alone)) (compact_faults (items_at 4 alone))
    (parents_faults [] (items_at 5 alone)) (sound_book value is.sound) in
    ends_with book.parents (λ entries there. entries_sound (field_at as_array 5 alone) entries none.sixth (is.arrays.parents ∙ there))
