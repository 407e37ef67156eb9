-- A small text is a list of at most N bytes, each from 1 to 127; its N-byte form is the text and then NULs.
-- Defined in docs/small-text.md, "Texts and forms".
-- Cited by every call of `TinyAsciiStr`, whose value in a clause is its text.
use Rattle.std.specs.Prelude.{◌≡◌, ℕ, ◌-◌, ◌≤◌, Bool, true, List, ◌++◌, length, replicate, ◌==◌}
use Rattle.std.specs.List.{list_all, before_first}
use Rattle.std.specs.Int.{is_in_range}

-- the byte that fills a form after its text
abbrev pub NUL : ℕ
NUL = 0

-- the greatest code of ASCII
abbrev pub LAST_ASCII : ℕ
LAST_ASCII = 127

abbrev pub is_nul : ℕ → Bool
is_nul b = b == NUL

-- a byte that may be in a text: ASCII, and not NUL
abbrev pub is_text_byte : ℕ → Bool
is_text_byte b = is_in_range 1 LAST_ASCII b

-- a text of at most `capacity` bytes
pub record IsSmall (capacity : ℕ) (text : List ℕ) : Type 0 where
  pub short : length text ≤ capacity
  pub ascii : list_all is_text_byte text ≡ true

-- the form of a text at a capacity: the text, filled up with NULs
unfoldable pub padded : ℕ → List ℕ → List ℕ
padded capacity text = text ++ replicate (capacity - length text) NUL

-- the text of a form: the bytes before the first NUL
abbrev pub text_of : List ℕ → List ℕ
text_of bytes = before_first is_nul bytes

-- the bytes are the form of a text at this capacity
pub record IsForm (capacity : ℕ) (bytes : List ℕ) : Type 0 where
  pub small : IsSmall capacity (text_of bytes)
  pub rest : bytes ≡ padded capacity (text_of bytes)
