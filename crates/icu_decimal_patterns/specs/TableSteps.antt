-- The types among the items of an array, with what is no type left out.
-- Defined in docs/compact-text.md, "The JSON form".
-- Cited by the private steps of `CompactPatterns::from_json`.
use Rattle.std.specs.Prelude.{List, [], ◌∷◌}
use Rattle.std.specs.Option.{option_map_or}
use Rattle.serde_json.specs.Data.{Data}
use Rattle.icu_decimal_patterns.specs.KeptEntries.{TypePatterns}
use Rattle.icu_decimal_patterns.specs.TableJson.{type_in}

abbrev pub known_types : List Data → List TypePatterns
known_types [] = []
known_types (d ∷ ds) = option_map_or (λ x. x ∷ known_types ds) (type_in d) (known_types ds)
