-- The first table, in terms of what is there: `specs/Choice.antt`.
use Rattle.std.proofs.Common.{◌≡◌, List, [], ◌∷◌, Option, None, Some, refl}
use Rattle.icu_decimal_symbols.specs.declared.error.DataError.{DataError}
use Rattle.icu_decimal.specs.Identifiers.{Identifier}
use Rattle.icu_locale_core.specs.Collections.{first_there}
use Rattle.icu_decimal.specs.Choice.{or_next, found_or, answered, first_there_is}
use Rattle.icu_decimal.specs.Laws.{FirstIsFound}

module _ {T : Type 0} (table : Identifier → Option T) where
  rest_found : (ids : List Identifier) → found_or (λ asked. answered (table asked)) DataError.IdentifierNotFound ids ≡ answered (first_there_is table ids)
  rest_found [] = refl
  rest_found (id ∷ ids) = by_first (table id) (rest_found ids)
    where
      by_first : (o : Option T) → found_or (λ asked. answered (table asked)) DataError.IdentifierNotFound ids ≡ answered (first_there_is table ids)
          → or_next (answered o) (found_or (λ asked. answered (table asked)) DataError.IdentifierNotFound ids) ≡ answered (first_there o (first_there_is table ids))
      by_first None rest = rest
      by_first (Some found) rest = refl

pub first_found_is : (T : Type 0) → FirstIsFound T
first_found_is T table id ids = rest_found table (id ∷ ids)
