-- What is kept, as a function: for each type whether it repeats what was kept before it.
-- Defined in docs/compact-text.md, "Tables".
-- Cited by the private steps of `CompactPatterns::new`.
use Rattle.std.specs.Prelude.{ℕ, ◌-◌, Bool, false, cond, length, List, [], ◌∷◌, ◌≤◌, suc, Option, None, Some}
use Rattle.std.specs.List.{slice_get}
use Rattle.icu_decimal_patterns.specs.declared.kept.Base.{Base}
use Rattle.icu_decimal_patterns.specs.declared.kept.Base.TheVariants.{Nothing, Zero, Kept}
use Rattle.icu_decimal_patterns.specs.Elements.{without_one}
use Rattle.icu_decimal_patterns.specs.KeptEntries.{Patterns, TypePatterns}
use Rattle.icu_decimal_patterns.specs.SameElements.{same_elements}
use Rattle.icu_decimal_patterns.specs.SamePattern.{same_pattern}

-- what is written before a type
abbrev pub base_of : Base → Option Patterns
base_of Nothing = None
base_of (Zero patterns) = Some patterns.now
base_of (Kept patterns) = Some (without_one patterns.now)

abbrev pub repeats : Option Patterns → Patterns → Bool
repeats None patterns = false
repeats (Some base) patterns = same_elements same_pattern patterns base

abbrev pub kept_of : Option Patterns → List TypePatterns → List TypePatterns
kept_of base [] = []
kept_of base (x ∷ xs) = cond (repeats base x.patterns) (kept_of base xs) (x ∷ kept_of (Some (without_one x.patterns)) xs)

-- the types rise strictly, and none is below `least`
abbrev pub TypesRise : ℕ → List TypePatterns → Type 0
TypesRise least [] = Unit {0}
TypesRise least (x ∷ xs) = (least ≤ x.log10_type) × TypesRise (suc x.log10_type) xs

-- what is written after these patterns, where the first base is given
abbrev pub last_base : Option Patterns → Option Patterns → Option Patterns
last_base base None = base
last_base base (Some patterns) = Some (without_one patterns)

abbrev pub base_after : Option Patterns → List Patterns → Option Patterns
base_after base patterns = last_base base (slice_get patterns (length patterns - 1))
