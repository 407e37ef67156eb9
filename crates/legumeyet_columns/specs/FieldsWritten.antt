-- What is written for the fields of a record: for one that is chosen what is said of its text, or what stands for it where it is refused.
-- Defined in docs/command.md, "Fields of a table".
-- Cited by `put_field`, `put_fields` and the steps of them.
use Rattle.std.specs.Prelude.{ℕ, ◌+◌, Bool, true, false, ◌||◌, ◌&&◌, List, [], ◌∷◌, Option, Some, None, option_map, if◌then◌else◌}
use Rattle.legumeyet_columns.specs.Cells.{cell_of}
use Rattle.legumeyet_columns.specs.FieldTexts.{is_in_quotes, unquoted}
use Rattle.legumeyet_columns.specs.Padded.{padded}
use Rattle.legumeyet_columns.specs.Trimming.{trimmed}
use Rattle.legumeyet_columns.specs.declared.asked.OnRefusal.{OnRefusal}
use Rattle.legumeyet_columns.specs.declared.asked.OnRefusal.TheVariants.{Empty, Keep, Skip, Abort}
use Rattle.legumeyet_columns.specs.declared.asked.TableAsked.{TableAsked}
use Rattle.legumeyet_columns.specs.declared.dialect.Dialect.{Dialect}

-- the text of a field, without quotes and blanks around it; none where its quotes do not end where it does
abbrev pub field_text : Dialect → List ℕ → Option (List ℕ)
field_text dialect field = option_map trimmed (if is_in_quotes dialect field then unquoted field else Some field)

-- what stands for a field that is refused; with Skip and Abort its record is not written
abbrev pub stand_in : OnRefusal → List ℕ → List ℕ
stand_in Empty field = []
stand_in Keep field = field
stand_in Skip field = field
stand_in Abort field = field

abbrev pub or_stand_in : OnRefusal → List ℕ → Option (List ℕ) → List ℕ
or_stand_in on_refusal field (Some cell) = cell
or_stand_in on_refusal field None = stand_in on_refusal field

-- the field that is written where a text is said, or none is
abbrev pub said_cell : TableAsked → List ℕ → Option (List ℕ) → Option (List ℕ)
said_cell asked field None = None
said_cell asked field (Some text) = cell_of asked.dialect (is_in_quotes asked.dialect field) (padded asked.padding text)

module _ (asked : TableAsked) (said : List ℕ → Option (List ℕ)) (field : List ℕ) where
  -- the field that is written for one with this text: a blank one stays
  abbrev pub cell_for : Option (List ℕ) → Option (List ℕ)
  cell_for None = None
  cell_for (Some []) = Some field
  cell_for (Some (byte ∷ bytes)) = said_cell asked field (said (byte ∷ bytes))

  -- the field that is written for a chosen one; none where it is refused
  abbrev pub chosen_cell : Option (List ℕ)
  chosen_cell = cell_for (field_text asked.dialect field)

abbrev pub is_none_of : Option (List ℕ) → Bool
is_none_of None = true
is_none_of (Some cell) = false

module _ (asked : TableAsked) (is_chosen : ℕ → Bool) (said : ℕ → List ℕ → Option (List ℕ)) where
  abbrev pub field_written : ℕ → List ℕ → List ℕ
  field_written index field =
      if is_chosen index then or_stand_in asked.on_refusal field (chosen_cell asked (said index) field) else field

  abbrev pub is_refused : ℕ → List ℕ → Bool
  is_refused index field = is_chosen index && is_none_of (chosen_cell asked (said index) field)

  -- whether one of the fields is, of which the first has this index
  abbrev pub any_refused : ℕ → List (List ℕ) → Bool
  any_refused index [] = false
  any_refused index (field ∷ fields) = is_refused index field || any_refused (index + 1) fields
