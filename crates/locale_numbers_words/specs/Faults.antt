-- What is wrong with an array of words, and the table that it is: the first faulty entry decides, in an entry the first rule that is
-- broken, and an entry that says what an earlier one of its key says counts once.
-- Defined in docs/words.md, "Tables of words".
-- Cited by the reading of each array of words.
use Rattle.std.specs.Prelude.{◌≡◌, Bool, true, false, List, [], ◌∷◌, ◌++◌, Option, None, Some, is_some, option_and_then, if◌then◌else◌}
use Rattle.std.specs.Option.{option_or}
use Rattle.serde_json.specs.Data.{Data, Items, no_items, item}
use Rattle.locale_numbers_tables.specs.Keys.{table_at}
use Rattle.locale_numbers_words.specs.declared.error.WordsError.{WordsError}
use Rattle.locale_numbers_words.specs.declared.error.WordsError.TheVariants.{Duplicate, Memory}
use Rattle.locale_numbers_words.specs.declared.tables.Found.{Found}
use Rattle.locale_numbers_words.specs.declared.tables.Found.TheVariants.{Nothing, Same, Other}

-- faults, each with the rule whose break it is: the first one whose rule is broken
abbrev pub first_broken : List (WordsError × Bool) → Option WordsError
first_broken [] = None
first_broken ((fault, holds) ∷ rest) = if holds then first_broken rest else Some fault

-- the error tells the fault that is found, or is out of memory
abbrev pub IsTold : Option WordsError → WordsError → Type 0
IsTold found Memory = Unit {0}
IsTold found told = found ≡ Some told

-- ---- an entry after others

module _ {V : Type 0} (same_said : V → V → Bool) where
  -- no earlier entry has the key, or it says the same
  abbrev pub agrees : Option V → Option V → Bool
  agrees None said = true
  agrees (Some earlier) None = false
  agrees (Some earlier) (Some said) = same_said earlier said

  -- what is wrong with an entry that has no fault of a lower number than a duplicate; `late` is that of one that says nothing
  abbrev pub said_fault : WordsError → Option V → Option V → Option WordsError
  said_fault late None None = Some late
  said_fault late None (Some said) = None
  said_fault late (Some earlier) None = Some Duplicate
  said_fault late (Some earlier) (Some said) = if same_said earlier said then None else Some Duplicate

  -- what a table has for what is said: nothing, the same, or something else
  abbrev pub found_of : Option V → Option V → Found
  found_of None said = Nothing
  found_of (Some earlier) said = if agrees (Some earlier) said then Same else Other

module _ {K V : Type 0} (same : K → K → Bool) where
  -- what these have under a key
  abbrev pub under : List (K × V) → Option K → Option V
  under before key = option_and_then (λ k. table_at same k before) key

  -- what is said is after these, where its key is new
  abbrev pub with_said : List (K × V) → Option K → Option V → List (K × V)
  with_said before (Some key) (Some said) = if is_some (table_at same key before) then before else before ++ (key, said) ∷ []
  with_said before (Some key) None = before
  with_said before None said = before

  -- ---- an array: the key of an entry, what it says, and its fault, where an earlier one says this under its key
  module _ (key : Data → Option K) (said : Data → Option V) (fault : Option V → Data → Option WordsError) where
    -- the fault of the first faulty entry, where these are before
    abbrev pub first_fault_after : List (K × V) → Items → Option WordsError
    first_fault_after before no_items = None
    first_fault_after before (item entry rest) =
        option_or (fault (under before (key entry)) entry) (first_fault_after (with_said before (key entry) (said entry)) rest)

  -- these, and after them what entries say under new keys
  module _ (key : Data → Option K) (said : Data → Option V) where
    abbrev pub table_after : List (K × V) → Items → List (K × V)
    table_after before no_items = before
    table_after before (item entry rest) = table_after (with_said before (key entry) (said entry)) rest
