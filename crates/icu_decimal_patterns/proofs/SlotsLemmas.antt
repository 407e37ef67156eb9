-- The items of an array that is a list of values.
use Rattle.std.proofs.Common.{◌≡◌, List, [], ◌∷◌, map, length, refl, ap, ◌∙◌}
use Rattle.std.proofs.lemmas.List.{length-map}
use Rattle.serde_json.specs.Data.{Data}
use Rattle.serde_json.specs.View.{items_of, items_view, view}
use Rattle.serde_json.specs.declared.value.Value.{Value}
use Rattle.icu_decimal_patterns.specs.SlotsJson.{listed}

pub listed_of : (ds : List Data) → listed (items_of ds) ≡ ds
listed_of [] = refl
listed_of (d ∷ ds) = ap (λ rest. d ∷ rest) (listed_of ds)

pub listed_items : (vs : List Value) → listed (items_view vs) ≡ map view vs
listed_items vs = listed_of (map view vs)

pub count_items : (vs : List Value) → length (listed (items_view vs)) ≡ length vs
count_items vs = ap length (listed_items vs) ∙ length-map vs view
