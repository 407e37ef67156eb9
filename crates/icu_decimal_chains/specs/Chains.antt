-- Chains: what is after a start, one step each, up to where no step is left.
-- Defined in docs/formatters.md, "Chains".
-- Cited by `load_by_chain`, by the parents of a book, and by the fault of parents that come back.
use Rattle.std.specs.Prelude.{◌≡◌, ℕ, zero, suc, List, [], ◌∷◌, Option, None, Some}
use Rattle.std.specs.Option.{option_and_then, option_map_or}

module _ {A : Type 0} (next : A → Option A) where
  -- these are after the start, up to the end
  abbrev pub Follows : A → List A → Type 0
  Follows start [] = next start ≡ None
  Follows start (x ∷ xs) = (next start ≡ Some x) × Follows x xs

  -- what is after the start, at most this many steps of it
  abbrev pub walk : ℕ → A → List A
  walk zero start = []
  walk (suc n) start = option_map_or (λ x. x ∷ walk n x) (next start) []

  -- the start, and at most this many steps after it
  abbrev pub chain : ℕ → A → List A
  chain n start = start ∷ walk n start

  -- where this many steps lead
  abbrev pub after : ℕ → A → Option A
  after zero start = Some start
  after (suc n) start = option_and_then (λ x. after n x) (next start)

  -- some steps, one at least, lead back
  abbrev pub ComesBack : A → Type 0
  ComesBack start = (n : ℕ) × (after (suc n) start ≡ Some start)
