-- What a closure answers at the singletons of extensions is what it answers at their types.
use Rattle.std.proofs.Common.{◌≡◌, Bool, List, [], ◌∷◌, map, subst}
use Rattle.std.specs.List.Retain.{ReturnsInTurn}

module _ {F X Y : Type 0} (calls : F → Y → Bool → F → Type 0) (type : X → Y) where
  at_types : (p : F) (bs : List Bool) (xs : List X) (q : F) → ReturnsInTurn (λ f x b g. calls f (type x) b g) p bs xs q → ReturnsInTurn calls p bs (map type xs) q
  at_types p [] xs q asked = asked
  at_types p (b ∷ bs) [] q asked = absurd asked
  at_types p (b ∷ bs) (x ∷ xs) q asked = (asked.0, asked.1, at_types asked.0 bs xs q asked.2)

  pub asked_at : (p : F) (bs : List Bool) (xs ys : List X) (q : F) → xs ≡ ys → ReturnsInTurn (λ f x b g. calls f (type x) b g) p bs xs q → ReturnsInTurn calls p bs (map type ys) q
  asked_at p bs xs ys q e asked = at_types p bs ys q (subst (λ zs. ReturnsInTurn (λ f x b g. calls f (type x) b g) p bs zs q) e asked)
