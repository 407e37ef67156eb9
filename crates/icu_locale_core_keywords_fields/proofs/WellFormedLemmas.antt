-- Testing the members of a list one by one: all pass exactly if those from i on pass.
use Rattle.std.proofs.Common.{ℕ, List, drop}
use Rattle.std.specs.List.{AllByRecursion}

module _ {A : Type 0} (P : A → Type 0) (xs : List A) where
  -- none before place i fails
  pub record IsTesting (i : ℕ) : Type 0 where
    pub on : AllByRecursion P xs → AllByRecursion P (drop i xs)
    pub back : AllByRecursion P (drop i xs) → AllByRecursion P xs
