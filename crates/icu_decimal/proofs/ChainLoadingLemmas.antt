-- The first table along a chain: `specs/Choice.antt` and `specs/Identifiers.antt`.
use Rattle.std.proofs.Common.{◌≡◌, ℕ, zero, suc, List, [], ◌∷◌, ◌++◌, Option, None, Some, refl, sym, ap, ◌∙◌, subst}
use Rattle.std.specs.Prelude.{Result, Ok, Err}
use Rattle.icu_locale_core.specs.Subtags.{Text}
use Rattle.icu_locale_core.specs.TagPreferences.{DataLocaleMeaning}
use Rattle.icu_decimal_chains.specs.Chains.{chain}
use Rattle.icu_decimal_symbols.specs.declared.error.DataError.{DataError}
use Rattle.icu_decimal_symbols.specs.declared.error.DataError.TheVariants.{IdentifierNotFound, InvalidRequest, Decreasing, TooManyZeros, AboveType, Memory, Custom}
use Rattle.icu_decimal.specs.Choice.{or_next, found_or, first_found}
use Rattle.icu_decimal.specs.Identifiers.{Identifier, of_both, identifiers_along, under_each}

or_next_assoc : {T : Type 0} (a b c : Result T DataError) → or_next a (or_next b c) ≡ or_next (or_next a b) c
or_next_assoc (Ok table) b c = refl
or_next_assoc (Err IdentifierNotFound) b c = refl
or_next_assoc (Err InvalidRequest) b c = refl
or_next_assoc (Err Decreasing) b c = refl
or_next_assoc (Err TooManyZeros) b c = refl
or_next_assoc (Err AboveType) b c = refl
or_next_assoc (Err Memory) b c = refl
or_next_assoc (Err Custom) b c = refl

module _ {T : Type 0} (load : Identifier → Result T DataError) where
  -- in two lists, one after the other
  found_in_two : (xs ys : List Identifier) → found_or load DataError.IdentifierNotFound (xs ++ ys) ≡ or_next (found_or load DataError.IdentifierNotFound xs) (found_or load DataError.IdentifierNotFound ys)
  found_in_two [] ys = refl
  found_in_two (x ∷ xs) ys = ap (or_next (load x)) (found_in_two xs ys) ∙ or_next_assoc (load x) (found_or load DataError.IdentifierNotFound xs) (found_or load DataError.IdentifierNotFound ys)

  -- with the system and without
  pub both_passes : (asked : Option Text) (system : Text) (place : DataLocaleMeaning) (places : List DataLocaleMeaning) → asked ≡ Some system
      → first_found load (identifiers_along asked (place ∷ places)) ≡ or_next (first_found load (under_each system (place ∷ places))) (first_found load (under_each [] (place ∷ places)))
  both_passes asked system place places some = rw some (found_in_two (under_each system (place ∷ places)) (under_each [] (place ∷ places)))

  -- ---- a pass

  module _ (attributes : Text) (next : DataLocaleMeaning → Option DataLocaleMeaning) where
    -- nothing is at this place: on to the next
    pub stepped : (n m : ℕ) (place behind : DataLocaleMeaning) → n ≡ suc m → load (of_both attributes place) ≡ Err DataError.IdentifierNotFound → next place ≡ Some behind
        → first_found load (under_each attributes (chain next n place)) ≡ first_found load (under_each attributes (chain next m behind))
    stepped n m place behind is e f = rw (is, e, f) refl

    -- or the chain ends here
    pub ended : (n : ℕ) (place : DataLocaleMeaning) → load (of_both attributes place) ≡ Err DataError.IdentifierNotFound → next place ≡ None
        → first_found load (under_each attributes (chain next n place)) ≡ Err DataError.IdentifierNotFound
    ended zero place e f = rw e refl
    ended (suc n) place e f = rw (e, f) refl

  -- ---- with the system, then without

  module _ (asked : Option Text) (system : Text) (place : DataLocaleMeaning) (places : List DataLocaleMeaning) (some : asked ≡ Some system) where
    abbrev with_system : Result T DataError
    with_system = first_found load (under_each system (place ∷ places))

    abbrev along : Result T DataError
    along = first_found load (identifiers_along asked (place ∷ places))

    pub found_with : (table : T) → Ok table ≡ with_system → Ok table ≡ along
    found_with table e = sym (both_passes asked system place places some ∙ rw (← e) refl)

    pub found_without : (answer : Result T DataError) (alone : Text) → Err DataError.IdentifierNotFound ≡ with_system → alone ≡ []
        → answer ≡ first_found load (under_each alone (place ∷ places)) → answer ≡ along
    found_without answer alone e is f =
        let g : answer ≡ first_found load (under_each [] (place ∷ places)) = subst (λ (a : Text). answer ≡ first_found load (under_each a (place ∷ places))) is f in
        g ∙ sym (both_passes asked system place places some ∙ rw (← e) refl)

    pub refused_with : (error : DataError) → Err error ≡ with_system → ¬ (error ≡ DataError.IdentifierNotFound) → Err error ≡ along
    refused_with IdentifierNotFound e other = absurd (other refl)
    refused_with InvalidRequest e other = sym (both_passes asked system place places some ∙ rw (← e) refl)
    refused_with Decreasing e other = sym (both_passes asked system place places some ∙ rw (← e) refl)
    refused_with TooManyZeros e other = sym (both_passes asked system place places some ∙ rw (← e) refl)
    refused_with AboveType e other = sym (both_passes asked system place places some ∙ rw (← e) refl)
    refused_with Memory e other = sym (both_passes asked system place places some ∙ rw (← e) refl)
    refused_with Custom e other = sym (both_passes asked system place places some ∙ rw (← e) refl)
