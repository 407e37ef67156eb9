-- What the first table is, in terms of what is there.
-- Defined in docs/formatters.md, "Choosing tables".
-- Cited by the functions of the module of laws.
use Rattle.std.specs.Prelude.{◌≡◌, List, ◌∷◌, Option}
use Rattle.icu_decimal.specs.Identifiers.{Identifier}
use Rattle.icu_decimal.specs.Choice.{first_found, answered, first_there_is}

-- of one identifier or more, the first that is there is taken
abbrev pub FirstIsFound : Type 0 → Type 0
FirstIsFound T = (table : Identifier → Option T) (id : Identifier) (ids : List Identifier)
    → first_found (λ asked. answered (table asked)) (id ∷ ids) ≡ answered (first_there_is table (id ∷ ids))
