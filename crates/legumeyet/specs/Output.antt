-- What is written for numbers and texts, in order: what is said of each in a line, with its parts behind it, or what stands for a refused one.
-- Defined in docs/command.md, "Output" and "Refused numbers".
-- Cited by `put_number`, `put_texts`, `put_words`, `put_lines` and the steps of them.
use Rattle.std.specs.Prelude.{◌≢◌, ℕ, List, [], ◌∷◌, ◌++◌, ◌==◌, Bool, false, map, Ok, Err, if◌then◌else◌, codes}
use Rattle.legumeyet_options.specs.Sayings.{Saying, saying}
use Rattle.legumeyet_options.specs.declared.Invalid.{Invalid}
use Rattle.legumeyet_options.specs.declared.Invalid.TheVariants.{Empty, Keep, Skip, Abort}
use Rattle.legumeyet_options.specs.declared.Sayer.{Sayer}
use Rattle.locale_numbers_lines.specs.Lines.{lines_of, ended}
use Rattle.legumeyet.specs.Parts.{part_lines}
use Rattle.legumeyet_columns.specs.Trimming.{trimmed}

-- what stands for a text that is refused
abbrev pub stand_in : Invalid → List ℕ → List ℕ
stand_in Empty text = ended []
stand_in Keep text = ended text
stand_in Skip text = []
stand_in Abort text = []

-- what is written for a text, by what is said of it: with the lines of its parts, where they are asked for
abbrev pub shown : Invalid → Bool → List ℕ → Saying → List ℕ
shown invalid parts text (Err why) = stand_in invalid text
shown invalid parts text (Ok held) = ended held.text ++ (if parts then part_lines held else [])

-- 1 for a refusal
abbrev pub status_said : Saying → ℕ
status_said (Err why) = 1
status_said (Ok held) = 0

-- whether nothing is written after a text with this status
abbrev pub is_last : Invalid → ℕ → Bool
is_last Abort status = status == 1
is_last Empty status = false
is_last Keep status = false
is_last Skip status = false

-- what is written for texts
abbrev pub texts_shown : Invalid → Bool → Sayer → List (List ℕ) → List ℕ
texts_shown invalid parts sayer [] = []
texts_shown invalid parts sayer (text ∷ texts) =
    shown invalid parts text (saying sayer text)
    ++ (if is_last invalid (status_said (saying sayer text)) then [] else texts_shown invalid parts sayer texts)

-- what is written for the lines of an input, without the blanks around them
abbrev pub input_shown : Invalid → Bool → Sayer → List ℕ → List ℕ
input_shown invalid parts sayer input = texts_shown invalid parts sayer (map trimmed (lines_of input))

-- none of the words stands for the numbers of standard input
abbrev pub ReadNothing : List (List ℕ) → Type 0
ReadNothing [] = Unit {0}
ReadNothing (word ∷ words) = (word ≢ codes "-") × ReadNothing words
