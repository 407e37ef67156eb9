-- Reading that leaves a rest: the longest accepted front that does not go on, or what precedes a single character.
-- Defined in docs/tags.md, "Modes".
-- Cited by the readers of a language identifier with a mode.
use Rattle.std.specs.Prelude.{◌≡◌, List, [], ◌∷◌, ◌++◌, take, drop}
use Rattle.std.specs.List.{position_or_len}
use Rattle.icu_locale_core_grammar.specs.Subtags.{Text, is_single}
use Rattle.icu_locale_core_grammar.specs.FaultyPiece.{BeginsSome}

module _ {M : Type 0} (Means : List Text → M → Type 0) where
  -- nothing is left, or the first piece of the rest does not fit
  abbrev pub IsLongest : List Text → List Text → Type 0
  IsLongest taken [] = Unit {0}
  IsLongest taken (p ∷ rest) = BeginsSome Means (taken ++ p ∷ []) → ⊥

  -- a front of the pieces means `m`, and the rest is left
  pub record ReadsFront (ps : List Text) (m : M) (rest : List Text) : Type 0 where
    pub taken : List Text
    pub parts : ps ≡ taken ++ rest
    pub meant : Means taken m
    pub longest : IsLongest taken rest

-- what precedes the first piece of one character, and the rest with it
abbrev pub before_single : List Text → List Text
before_single ps = take (position_or_len is_single ps) ps

abbrev pub from_single : List Text → List Text
from_single ps = drop (position_or_len is_single ps) ps
