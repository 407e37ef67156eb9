-- Which piece of a list that has no meaning is at fault, and what the fault is called.
-- Defined in docs/tags.md, "Faults": the first piece from the left by which the pieces so far begin no accepted list.
-- Cited by every reader of a tag or a language identifier.
use Rattle.std.specs.Prelude.{◌≡◌, Bool, true, List, [], ◌∷◌, ◌++◌, Option, None, Some, ◌⊎◌, map, if◌then◌else◌}
use Rattle.std.specs.List.{list_any}
use Rattle.icu_locale_core_grammar.specs.declared.error.ParseError.{ParseError}
use Rattle.icu_locale_core_grammar.specs.declared.error.ParseError.TheVariants.{InvalidLanguage, InvalidSubtag, InvalidExtension, DuplicatedExtension}
use Rattle.icu_locale_core_grammar.specs.Subtags.{Text, is_single, is_singleton, lower}
use Rattle.icu_locale_core_grammar.specs.Collections.{contains_text}

-- the first piece, or none where the list has ended
abbrev pub first_piece : List Text → Option Text
first_piece [] = None
first_piece (p ∷ ps) = Some p

-- the name of a fault after these pieces, by whether they have begun an extension
abbrev pub name_after : List Text → Bool → ParseError
name_after [] begun = InvalidLanguage
name_after (p ∷ ps) begun = if begun then InvalidExtension else InvalidSubtag

-- over any grammar, a relation between lists of pieces and their meanings
module _ {M : Type 0} (Means : List Text → M → Type 0) where
  -- the pieces have a meaning
  abbrev pub IsAccepted : List Text → Type 0
  IsAccepted ps = (m : M) × Means ps m

  -- some accepted list begins so
  abbrev pub BeginsSome : List Text → Type 0
  BeginsSome front = (more : List Text) × IsAccepted (front ++ more)

  -- the front goes on with this piece, or may end
  abbrev pub GoesOn : List Text → Option Text → Type 0
  GoesOn front (Some p) = BeginsSome (front ++ p ∷ [])
  GoesOn front None = IsAccepted front

  -- the list is a front that begins an accepted list, and a rest with whose first piece, or at whose end, none goes on
  pub record StopsAt (ps front rest : List Text) : Type 0 where
    pub cut : ps ≡ front ++ rest
    pub begins : BeginsSome front
    pub stops : GoesOn front (first_piece rest) → ⊥

  -- a singleton that is there already comes where a new one could
  abbrev pub IsDuplicate : List Text → Option Text → Type 0
  IsDuplicate front None = ⊥
  IsDuplicate front (Some p) = IsAccepted front × (is_singleton p ≡ true) × (contains_text (lower p) (map lower front) ≡ true)

  -- the name of the fault: of a singleton that is there already, and of any other by what is before it
  abbrev pub IsNamed : ParseError → List Text → Option Text → Type 0
  IsNamed e front place =
      (IsDuplicate front place × (e ≡ DuplicatedExtension))
      ⊎ ((IsDuplicate front place → ⊥) × (e ≡ name_after front (list_any is_single front)))

  -- the list has no meaning, and its fault is e
  pub record HasFault (ps : List Text) (e : ParseError) : Type 0 where
    pub front : List Text
    pub rest : List Text
    pub stops : StopsAt ps front rest
    pub named : IsNamed e front (first_piece rest)
