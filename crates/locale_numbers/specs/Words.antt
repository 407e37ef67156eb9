-- What the words say that the program is started with: the path of its book or none, and how many formatters may be kept.
-- Defined in docs/requests.md, "Program".
-- Cited by `read_words`.
use Rattle.std.specs.Prelude.{ℕ, ◌&&◌, nat_le, Bool, if◌then◌else◌, List, [], ◌∷◌, length, Option, Some, None}
use Rattle.std.specs.List.{list_all}
use Rattle.fixed_decimal.specs.NumberText.{spelled}
use Rattle.locale_numbers_requests.specs.Digits.{is_digit}

-- five digits at most, which spell 1 to 65535
abbrev pub is_capacity : List ℕ → Bool
is_capacity word = list_all is_digit word && nat_le (length word) 5 && nat_le 1 (spelled word) && nat_le (spelled word) 65535

-- the capacity that a word names
abbrev pub capacity_named : List ℕ → Option ℕ
capacity_named word = if is_capacity word then Some (spelled word) else None

-- a path, or none for the sample book, and a capacity
pub record Said : Type 0 where
  pub book : Option (List ℕ)
  pub capacity : ℕ

-- a path that is not empty and a capacity say themselves
abbrev pub said_by : List ℕ → Option ℕ → Option Said
said_by [] capacity = None
said_by (c ∷ cs) None = None
said_by (c ∷ cs) (Some capacity) = Some (record { book = Some (c ∷ cs); capacity = capacity })

-- what words say, where they are no more than a path and a capacity
abbrev pub words_said : List (List ℕ) → Option Said
words_said [] = Some (record { book = None; capacity = 16 })
words_said (path ∷ []) = said_by path (Some 16)
words_said (path ∷ capacity ∷ []) = said_by path (capacity_named capacity)
words_said _ = None
