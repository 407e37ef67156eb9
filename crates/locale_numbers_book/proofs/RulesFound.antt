-- The plural rules that tables have which answer as a book does: `specs/FoundRules.antt`.
use Rattle.std.proofs.Common.{◌≡◌, List, [], ◌∷◌, ◌++◌, Result, ap, ◌∙◌}
use Rattle.std.specs.Result.{result_ok}
use Rattle.icu_decimal.specs.Choice.{first_found}
use Rattle.icu_decimal.specs.Identifiers.{Identifier, under_each}
use Rattle.icu_decimal.specs.declared.error.DataError.{DataError}
use Rattle.icu_locale_core.specs.DataLocales.{unknown_data}
use Rattle.icu_locale_core.specs.TagPreferences.{DataLocaleMeaning}

-- a table that is found by an answerer is found by another one that answers alike, along the same locales
module _ {T : Type 0} (table other : Identifier → Result T DataError) (same : (id : Identifier) → table id ≡ other id) where
  pub found_alike : (places along : List DataLocaleMeaning) (found : Result T DataError) → places ≡ along → found ≡ first_found table (under_each [] places) → found ≡ first_found other (under_each [] along)
  found_alike places along found is made =
      made
      ∙ ap (λ ids. first_found table (under_each [] ids)) is
      ∙ ap (λ (t : Identifier → Result T DataError). first_found t (under_each [] along)) (λ i id. same id i)

  -- and what is there is what it answers
  pub there_alike : (places along : List DataLocaleMeaning) (found : Result T DataError) → places ≡ along → found ≡ first_found table (under_each [] places) → result_ok found ≡ result_ok (first_found other (under_each [] along))
  there_alike places along found is made = ap result_ok (found_alike places along found is made)

  -- with `und` after them
  pub there_with_unknown : (places along : List DataLocaleMeaning) (found : Result T DataError) → places ≡ along → found ≡ first_found table (under_each [] (places ++ unknown_data ∷ []))
      → result_ok found ≡ result_ok (first_found other (under_each [] (along ++ unknown_data ∷ [])))
  there_with_unknown places along found is made = there_alike (places ++ unknown_data ∷ []) (along ++ unknown_data ∷ []) found (ap (λ xs. xs ++ unknown_data ∷ []) is) made
