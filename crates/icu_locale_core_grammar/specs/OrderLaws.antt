-- What holds of the orders of values: each is a total order, in which only equal values are equal.
-- Defined in docs/tags.md, "Orders".
-- Cited by the functions of the module of laws on orders.
use Rattle.std.specs.Prelude.{◌≡◌, ◌↔◌}
use Rattle.std.specs.Cmp.{IsTotalOrder}
use Rattle.std.specs.declared.cmp.Ordering.{Ordering}
use Rattle.std.specs.declared.cmp.Ordering.TheVariants.{Equal}

-- only equal values are equal
abbrev pub TellsApart : {K : Type 0} → (K → K → Ordering) → Type 0
TellsApart {K} R = (x y : K) → (R x y ≡ Equal) ↔ (x ≡ y)

-- a total order in which only equal values are equal
pub record IsOrder {K : Type 0} (R : K → K → Ordering) : Type 0 where
  pub total : IsTotalOrder R
  pub apart : TellsApart R
