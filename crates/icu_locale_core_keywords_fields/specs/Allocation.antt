-- Where the reading of a head and entries may allocate: only a growing head, a growing value and a kept entry.
-- Defined in docs/tags.md, "Stages".
-- Cited by the readers of keywords and fields, and by the functions that step along a head and entries.
use Rattle.std.specs.Prelude.{Bool, true, false, not, ◌&&◌, ◌||◌, List, [], ◌∷◌, if◌then◌else◌}
use Rattle.icu_locale_core_grammar.specs.Subtags.{Text, is_value, is_true}
use Rattle.icu_locale_core_grammar.specs.Stepping.{HeadedStage, InHead, InEntry}

-- a piece that a value keeps comes before the first that is none of a value
abbrev pub keeps_value : List Text → Bool
keeps_value [] = false
keeps_value (p ∷ ps) = is_value p && (not (is_true p) || keeps_value ps)

-- after a key: a piece that its value keeps, or where the entry may end its end, comes before the first piece at fault
abbrev pub keeps_entry : (Text → Bool) → Bool → List Text → Bool
keeps_entry test full [] = full
keeps_entry test full (p ∷ ps) = if is_value p then not (is_true p) || keeps_entry test true ps else full && test p

-- a key comes first, and after it what is kept; where an entry needs a value, `true` is one
abbrev pub begins_entry : (Text → Bool) → Bool → List Text → Bool
begins_entry test needs [] = false
begins_entry test needs (p ∷ ps) = test p && keeps_entry test (not needs) ps

-- the piece is kept in a value: `true` is left out
abbrev pub value_grows : Text → Bool
value_grows p = is_value p && not (is_true p)

-- the piece may make the head grow, or is kept in a value, or ends an entry
abbrev pub grows_at : {S H : Type 0} → (S → Text → Bool) → (Text → Bool) → HeadedStage S H → Text → Bool
grows_at grows test (InHead s) p = grows s p
grows_at grows test (InEntry h es e full) p = value_grows p || (full && test p)

-- an entry is read, and may end
abbrev pub keeps_last : {S H : Type 0} → HeadedStage S H → Bool
keeps_last (InHead s) = false
keeps_last (InEntry h es e full) = full
