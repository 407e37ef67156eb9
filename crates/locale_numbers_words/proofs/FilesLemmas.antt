-- The arrays of a file, taken out of it one after the other: `specs/Files.antt`.
use Rattle.std.proofs.Common.{◌≡◌, ℕ, suc, List, [], ◌∷◌, drop, Option, Some, refl, sym, ap, ◌∙◌}
use Rattle.serde_json.specs.Data.{Data, Items, null, boolean, number, string, array, object}
use Rattle.serde_json.specs.Find.{as_array}
use Rattle.serde_json.specs.View.{items_view}
use Rattle.serde_json.specs.declared.value.Value.{Value}
use Rattle.locale_numbers_plurals.specs.Form.{items_at}

next_at : (place : ℕ) (values : List Value) → items_at place (array (items_view (drop 1 values))) ≡ items_at (suc place) (array (items_view values))
next_at place [] = refl
next_at place (value ∷ values) = refl

of_file : (place : ℕ) (file : Data) (is : Items) → Some is ≡ as_array file → items_at place (array is) ≡ items_at place file
of_file place null is items = absurd (cc)
of_file place (boolean b) is items = absurd (cc)
of_file place (number n) is items = absurd (cc)
of_file place (string s) is items = absurd (cc)
of_file place (array js) is items = let same : is ≡ js = cc in ap (λ x. items_at place (array x)) same
of_file place (object ms) is items = absurd (cc)

module _ (file : Data) (given values after : List Value) (found : Items) (whole : Some (items_view given) ≡ as_array file) (start : values ≡ given) (first : after ≡ drop 1 values) where
  pub second_of : found ≡ items_at 0 (array (items_view after)) → found ≡ items_at 1 file
  second_of is =
      is ∙ ap (λ vs. items_at 0 (array (items_view vs))) first
      ∙ next_at 0 values
      ∙ ap (λ vs. items_at 1 (array (items_view vs))) start
      ∙ of_file 1 file (items_view given) whole

  pub third_of : (more : List Value) → more ≡ drop 1 after → found ≡ items_at 0 (array (items_view more)) → found ≡ items_at 2 file
  third_of more second is =
      is ∙ ap (λ vs. items_at 0 (array (items_view vs))) second
      ∙ next_at 0 after
      ∙ ap (λ vs. items_at 1 (array (items_view vs))) first
      ∙ next_at 1 values
      ∙ ap (λ vs. items_at 2 (array (items_view vs))) start
      ∙ of_file 2 file (items_view given) whole
