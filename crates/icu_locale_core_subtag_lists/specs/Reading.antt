-- Why a list of pieces is not read, and what is still to be read of one.
-- UTS 35, sections 3.6 and 3.7; docs/tags.md, "Parts read alone".
-- Cited by the readers of attributes and of private subtags.
use Rattle.std.specs.Prelude.{◌≡◌, ◌↔◌, ◌⊎◌, Bool, true, false, ◌&&◌, List, [], ◌∷◌, ◌++◌, map, fold}
use Rattle.icu_locale_core_grammar.specs.declared.error.ParseError.{ParseError}
use Rattle.icu_locale_core_grammar.specs.declared.error.ParseError.TheVariants.{InvalidExtension, Memory}
use Rattle.icu_locale_core_grammar.specs.Subtags.{Text, is_attribute, is_private_piece, lower}
use Rattle.icu_locale_core_grammar.specs.Collections.{Each, insert_text, set_of}

-- out of memory, or nothing is read
abbrev pub IsRefused : {M : Type 0} → (M → Type 0) → ParseError → Type 0
IsRefused {M} Reads e = (e ≡ Memory) ⊎ ((e ≡ InvalidExtension) × ((m : M) → ¬ Reads m))

-- the first piece passes the test; without one that does, nothing is kept, and nothing allocates
abbrev pub begins : (Text → Bool) → List Text → Bool
begins test [] = false
begins test (p ∷ ps) = test p

-- the first piece passes a test, and the one after it another; else nothing is kept, and nothing allocates
abbrev pub begins_after : (Text → Bool) → (Text → Bool) → List Text → Bool
begins_after opens test [] = false
begins_after opens test (p ∷ ps) = opens p && begins test ps

-- amid the reading of attributes: what is left decides as all pieces do, and completes the set
pub record IsReadingSet (ps left set : List Text) : Type 0 where
  pub passes : Each is_attribute ps ↔ Each is_attribute left
  pub completes : fold (λ ts t. insert_text t ts) set (map lower left) ≡ set_of (map lower ps)
  pub begun : begins is_attribute left ≡ true → begins is_attribute ps ≡ true

-- amid the reading of private pieces: what is left decides as all pieces do, and completes the list
pub record IsReadingList (ps left own : List Text) : Type 0 where
  pub passes : Each is_private_piece ps ↔ Each is_private_piece left
  pub completes : own ++ map lower left ≡ map lower ps
  pub begun : begins is_private_piece left ≡ true → begins is_private_piece ps ≡ true
