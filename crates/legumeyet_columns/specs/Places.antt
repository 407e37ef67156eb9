-- Where a table's records and fields end: outside quotes, a record at a line feed and a field at a delimiter.
-- After RFC 4180, section 2: a field may be in quotes, and a quote within it stands twice.
-- Cited by `read_record`, `read_first_record` and `split_field`.
use Rattle.std.specs.Prelude.{ℕ, suc, ◌==◌, Bool, true, false, ◌&&◌, not, List, [], ◌∷◌, if◌then◌else◌}
use Rattle.std.specs.List.{list_any, onto_first}
use Rattle.legumeyet_columns.specs.declared.dialect.Dialect.{Dialect}
use Rattle.legumeyet_columns.specs.declared.dialect.Place.{Place}
use Rattle.legumeyet_columns.specs.declared.dialect.Place.TheVariants.{Front, Plain, Quoted, Closed}

abbrev pub quote : ℕ
quote = 34

abbrev pub line_feed : ℕ
line_feed = 10

-- after a byte outside quotes that is no quote with a meaning
abbrev pub after_plain : Dialect → ℕ → Place
after_plain dialect byte = if byte == dialect.delimiter then Front else Plain

-- where the next byte is: a quote has a meaning in front of a field, within quotes and right after them
abbrev pub after : Dialect → Place → ℕ → Place
after dialect Front byte = if dialect.has_quotes && byte == quote then Quoted else after_plain dialect byte
after dialect Plain byte = after_plain dialect byte
after dialect Quoted byte = if byte == quote then Closed else Quoted
after dialect Closed byte = if byte == quote then Quoted else after_plain dialect byte

abbrev pub after_all : Dialect → Place → List ℕ → Place
after_all dialect place [] = place
after_all dialect place (byte ∷ bytes) = after_all dialect (after dialect place byte) bytes

abbrev pub is_quoted : Place → Bool
is_quoted Front = false
is_quoted Plain = false
is_quoted Quoted = true
is_quoted Closed = false

abbrev pub ends_record : Place → ℕ → Bool
ends_record place byte = not (is_quoted place) && byte == line_feed

abbrev pub ends_field : Dialect → Place → ℕ → Bool
ends_field dialect place byte = not (is_quoted place) && byte == dialect.delimiter

-- whether there is a quote
abbrev pub has_quote : List ℕ → Bool
has_quote bytes = list_any (λ byte. byte == quote) bytes

module _ (dialect : Dialect) where
  -- the bytes up to the first line feed that ends a record, with it
  abbrev pub first_record : Place → List ℕ → List ℕ
  first_record place [] = []
  first_record place (byte ∷ bytes) = if ends_record place byte then byte ∷ [] else byte ∷ first_record (after dialect place byte) bytes

  abbrev pub after_record : Place → List ℕ → List ℕ
  after_record place [] = []
  after_record place (byte ∷ bytes) = if ends_record place byte then bytes else after_record (after dialect place byte) bytes

  -- the records of these bytes, each with the line feed that ends it; the last needs none
  abbrev pub records_from : Place → List ℕ → List (List ℕ)
  records_from place [] = []
  records_from place (byte ∷ bytes) =
      if ends_record place byte then (byte ∷ []) ∷ records_from Front bytes
      else onto_first byte (records_from (after dialect place byte) bytes)

  abbrev pub records_of : List ℕ → List (List ℕ)
  records_of bytes = records_from Front bytes

  -- the fields of these bytes, as they stand; there is one more than there are delimiters
  abbrev pub fields_from : Place → List ℕ → List (List ℕ)
  fields_from place [] = [] ∷ []
  fields_from place (byte ∷ bytes) =
      if ends_field dialect place byte then [] ∷ fields_from Front bytes
      else onto_first byte (fields_from (after dialect place byte) bytes)

  abbrev pub fields_of : List ℕ → List (List ℕ)
  fields_of bytes = fields_from Front bytes

  -- how many bytes are in front of the first delimiter that ends a field
  abbrev pub field_length : Place → List ℕ → ℕ
  field_length place [] = 0
  field_length place (byte ∷ bytes) = if ends_field dialect place byte then 0 else suc (field_length (after dialect place byte) bytes)

  -- the same of a field that is not in quotes: in front of the first delimiter
  abbrev pub plain_length : List ℕ → ℕ
  plain_length [] = 0
  plain_length (byte ∷ bytes) = if byte == dialect.delimiter then 0 else suc (plain_length bytes)

  -- what a record has of these bytes, of which the first is at this place, and what it leaves; outside quotes it has ended
  abbrev pub rest_of : Place → List ℕ → List ℕ
  rest_of place bytes = if is_quoted place then first_record place bytes else []

  abbrev pub left_after : Place → List ℕ → List ℕ
  left_after place bytes = if is_quoted place then after_record place bytes else bytes
