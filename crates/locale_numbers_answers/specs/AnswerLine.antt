-- The two kinds of answer: a text, or the word of a refusal.
-- Defined in docs/requests.md, "Answer line".
-- Cited by `answer` and `run`, through Answer.antt of `locale_numbers`, and by the calls that write an answer.
use Rattle.std.specs.Prelude.{ℕ, List, ◌∷◌, ◌++◌, codes, if◌then◌else◌}
use Rattle.std.specs.Str.{is_utf8}
use Rattle.locale_numbers_requests.specs.Request.{tab}
use Rattle.locale_numbers_requests.specs.Refusal.{word_of}
use Rattle.locale_numbers_requests.specs.declared.Refusal.{Refusal}
use Rattle.locale_numbers_requests.specs.declared.Refusal.TheVariants as refusal

-- the answer that refuses a line
abbrev pub refused : Refusal → List ℕ
refused cause = codes "err" ++ tab ∷ word_of cause

-- the answer that holds a text
abbrev pub written : List ℕ → List ℕ
written text = codes "ok" ++ tab ∷ text

-- this answer to a text, where it is UTF-8
abbrev pub if_text : List ℕ → List ℕ → List ℕ
if_text text answer = if is_utf8 text then answer else refused refusal.Shape
