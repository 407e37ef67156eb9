-- The first table along the locales, with the system and without: `specs/UnitChoice.antt`.
use Rattle.std.proofs.Common.{◌≡◌, ℕ, zero, suc, List, [], ◌∷◌, ◌++◌, Option, None, Some, refl, sym, ap, ◌∙◌, subst}
use Rattle.std.specs.Prelude.{Result, Ok, Err}
use Rattle.icu_locale_core.specs.Subtags.{Text}
use Rattle.icu_locale_core.specs.TagPreferences.{DataLocaleMeaning}
use Rattle.icu_decimal.specs.Chains.{chain}
use Rattle.icu_decimal.specs.Choice.{first_found, found_or, or_next}
use Rattle.icu_decimal.specs.Identifiers.{Identifier, identifiers_along, of_both, under_each}
use Rattle.icu_decimal.specs.declared.error.DataError.{DataError}
use Rattle.icu_decimal.specs.declared.error.DataError.TheVariants.{IdentifierNotFound, InvalidRequest, Decreasing, TooManyZeros, AboveType, Memory, Custom}

-- ---- one answer, and another where nothing is there

module _ {T : Type 0} where
  pub kept_found : (answer next : Result T DataError) (table : T) → Ok table ≡ answer → Ok table ≡ or_next answer next
  kept_found answer next table e = rw (← e) refl

  pub passed_on : (answer next given : Result T DataError) → Err IdentifierNotFound ≡ answer → given ≡ next → given ≡ or_next answer next
  passed_on answer next given e f = f ∙ rw (← e) refl

  pub kept_error : (answer next : Result T DataError) (error : DataError) → Err error ≡ answer → ¬ (error ≡ IdentifierNotFound) → Err error ≡ or_next answer next
  kept_error answer next IdentifierNotFound e other = absurd (other refl)
  kept_error answer next InvalidRequest e other = rw (← e) refl
  kept_error answer next Decreasing e other = rw (← e) refl
  kept_error answer next TooManyZeros e other = rw (← e) refl
  kept_error answer next AboveType e other = rw (← e) refl
  kept_error answer next Memory e other = rw (← e) refl
  kept_error answer next Custom e other = rw (← e) refl

  or_next_assoc : (a b c : Result T DataError) → or_next a (or_next b c) ≡ or_next (or_next a b) c
  or_next_assoc (Ok table) b c = refl
  or_next_assoc (Err IdentifierNotFound) b c = refl
  or_next_assoc (Err InvalidRequest) b c = refl
  or_next_assoc (Err Decreasing) b c = refl
  or_next_assoc (Err TooManyZeros) b c = refl
  or_next_assoc (Err AboveType) b c = refl
  or_next_assoc (Err Memory) b c = refl
  or_next_assoc (Err Custom) b c = refl

-- ---- along the locales

both_under : (attributes : Text) (xs ys : List DataLocaleMeaning) → under_each attributes (xs ++ ys) ≡ under_each attributes xs ++ under_each attributes ys
both_under attributes [] ys = refl
both_under attributes (x ∷ xs) ys = ap (λ ids. of_both attributes x ∷ ids) (both_under attributes xs ys)

module _ {T : Type 0} (load : Identifier → Result T DataError) where
  -- in two lists, one after the other
  found_in_two : (xs ys : List Identifier) → found_or load IdentifierNotFound (xs ++ ys) ≡ or_next (found_or load IdentifierNotFound xs) (found_or load IdentifierNotFound ys)
  found_in_two [] ys = refl
  found_in_two (x ∷ xs) ys = ap (or_next (load x)) (found_in_two xs ys) ∙ or_next_assoc (load x) (found_or load IdentifierNotFound xs) (found_or load IdentifierNotFound ys)

  -- other locales after these
  pub found_after : (attributes : Text) (place : DataLocaleMeaning) (places rest : List DataLocaleMeaning)
      → first_found load (under_each attributes ((place ∷ places) ++ rest))
      ≡ or_next (first_found load (under_each attributes (place ∷ places))) (found_or load IdentifierNotFound (under_each attributes rest))
  found_after attributes place places rest =
      ap (found_or load IdentifierNotFound) (both_under attributes (place ∷ places) rest)
      ∙ found_in_two (under_each attributes (place ∷ places)) (under_each attributes rest)

  -- with the system and without
  pub found_with_system : (asked : Option Text) (system alone : Text) (place : DataLocaleMeaning) (places : List DataLocaleMeaning) → asked ≡ Some system → alone ≡ []
      → first_found load (identifiers_along asked (place ∷ places))
      ≡ or_next (first_found load (under_each system (place ∷ places))) (first_found load (under_each alone (place ∷ places)))
  found_with_system asked system alone place places some none =
      subst (λ (key : Text). first_found load (identifiers_along asked (place ∷ places)) ≡ or_next (first_found load (under_each system (place ∷ places))) (first_found load (under_each key (place ∷ places))))
      (sym none) (rw some (found_in_two (under_each system (place ∷ places)) (under_each [] (place ∷ places))))

  module _ (attributes : Text) (next : DataLocaleMeaning → Option DataLocaleMeaning) where
    -- nothing is at this place: on to the next
    pub stepped : (n m : ℕ) (place behind : DataLocaleMeaning) → n ≡ suc m → load (of_both attributes place) ≡ Err IdentifierNotFound → next place ≡ Some behind
        → first_found load (under_each attributes (chain next n place)) ≡ first_found load (under_each attributes (chain next m behind))
    stepped n m place behind is e f = rw (is, e, f) refl

    -- or the chain ends here
    pub ended : (n : ℕ) (place : DataLocaleMeaning) → load (of_both attributes place) ≡ Err IdentifierNotFound → next place ≡ None
        → first_found load (under_each attributes (chain next n place)) ≡ Err IdentifierNotFound
    ended zero place e f = rw e refl
    ended (suc n) place e f = rw (e, f) refl
