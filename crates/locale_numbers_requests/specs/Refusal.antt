-- The words of the refusals of a line.
-- Defined in docs/requests.md, "Answer line".
-- Cited by `Refusal::word`, and through Answer.antt of `locale_numbers` by `answer` and `run`.
use Rattle.std.specs.Prelude.{ℕ, List, codes}
use Rattle.locale_numbers_requests.specs.declared.refusal.Refusal.{Refusal}
use Rattle.locale_numbers_requests.specs.declared.refusal.Refusal.TheVariants.{Shape, Tag, Number, Limit, Table, Range, Exponent, Unreadable, NotWritten}

-- the word of a refusal
abbrev pub word_of : Refusal → List ℕ
word_of Shape = codes "shape"
word_of Tag = codes "tag"
word_of Number = codes "number"
word_of Limit = codes "limit"
word_of Table = codes "table"
word_of Range = codes "range"
word_of Exponent = codes "exponent"
word_of Unreadable = codes "unreadable"
word_of NotWritten = codes "not-written"
