-- The text of a field: what is between its quotes, with one quote for two, or the field as it stands.
-- After RFC 4180, section 2, rules 5 to 7.
-- Cited by `unquoted`, `put_quoted` and `put_text`.
use Rattle.std.specs.Prelude.{ℕ, ◌==◌, Bool, false, ◌&&◌, ◌||◌, List, [], ◌∷◌, ◌++◌, Option, Some, None, option_map, if◌then◌else◌}
use Rattle.legumeyet_columns.specs.declared.dialect.Dialect.{Dialect}
use Rattle.legumeyet_columns.specs.Places.{quote}

abbrev pub starts_with_quote : List ℕ → Bool
starts_with_quote [] = false
starts_with_quote (byte ∷ bytes) = byte == quote

-- whether a field is in quotes
abbrev pub is_in_quotes : Dialect → List ℕ → Bool
is_in_quotes dialect field = dialect.has_quotes && starts_with_quote field

-- each quote twice
abbrev pub doubled : List ℕ → List ℕ
doubled [] = []
doubled (byte ∷ bytes) = if byte == quote then quote ∷ quote ∷ doubled bytes else byte ∷ doubled bytes

-- a text in quotes
abbrev pub in_quotes : List ℕ → List ℕ
in_quotes text = quote ∷ (doubled text ++ quote ∷ [])

-- the text up to the quote that ends it, which has to be the last byte
abbrev pub undoubled : List ℕ → Option (List ℕ)
undoubled [] = None
undoubled (byte ∷ []) = if byte == quote then Some [] else None
undoubled (byte ∷ next ∷ bytes) =
    if byte == quote then (if next == quote then option_map (λ text. quote ∷ text) (undoubled bytes) else None)
    else option_map (λ text. byte ∷ text) (undoubled (next ∷ bytes))

-- the text of a field in quotes, where they are as the rules have them
abbrev pub unquoted : List ℕ → Option (List ℕ)
unquoted [] = None
unquoted (byte ∷ bytes) = undoubled bytes

-- whether a byte can only stand in a text in quotes
abbrev pub is_special : Dialect → ℕ → Bool
is_special dialect byte = (byte == dialect.delimiter || byte == quote) || (byte == 10 || byte == 13)
