-- What the definitions give at the examples of RFC 4180, section 2, and beside them.
use Rattle.std.proofs.Common.{◌≡◌, ℕ, List, [], ◌∷◌, ◌++◌, true, false, None, Some, refl}
use Rattle.std.specs.Prelude.{codes}
use Rattle.legumeyet_columns.specs.Cells.{cell_of}
use Rattle.legumeyet_columns.specs.FieldTexts.{unquoted}
use Rattle.legumeyet_columns.specs.Places.{fields_of, records_of}
use Rattle.legumeyet_columns.specs.Records.{body_of}
use Rattle.legumeyet_columns.specs.declared.dialect.Dialect.{Dialect}

abbrev csv : Dialect
csv = record { delimiter = 44; has_quotes = true }

abbrev tabs : Dialect
tabs = record { delimiter = 9; has_quotes = false }

abbrev ended : List ℕ
ended = 13 ∷ 10 ∷ []

abbrev quoted : List ℕ → List ℕ
quoted text = 34 ∷ (text ++ 34 ∷ [])

-- rules 1 and 2: each record is a line, the last one with its end or without
pub rule_1 : records_of csv (codes "a,b" ++ ended ++ codes "c" ++ ended) ≡ (codes "a,b" ++ ended) ∷ (codes "c" ++ ended) ∷ []
rule_1 = refl

pub rule_2 : records_of csv (codes "a,b" ++ ended ++ codes "c") ≡ (codes "a,b" ++ ended) ∷ codes "c" ∷ []
rule_2 = refl

pub ends : body_of (codes "a,b" ++ ended) ≡ codes "a,b"
ends = refl

-- spaces are part of a field, and a comma ends each but the last
pub rule_4 : fields_of csv (codes "a, b,c") ≡ codes "a" ∷ codes " b" ∷ codes "c" ∷ []
rule_4 = refl

pub none_last : fields_of csv (codes "a,") ≡ codes "a" ∷ [] ∷ []
none_last = refl

-- line feeds and commas in quotes
pub rule_6 : records_of csv (quoted (codes "b" ++ ended ++ codes "b,") ++ codes ",c" ++ ended ++ codes "d")
    ≡ (quoted (codes "b" ++ ended ++ codes "b,") ++ codes ",c" ++ ended) ∷ codes "d" ∷ []
rule_6 = refl

pub rule_6_fields : fields_of csv (quoted (codes "b,b") ++ codes ",c") ≡ quoted (codes "b,b") ∷ codes "c" ∷ []
rule_6_fields = refl

-- two quotes are one
pub rule_7 : unquoted (quoted (codes "b" ++ 34 ∷ 34 ∷ codes "bb")) ≡ Some (codes "b" ++ 34 ∷ codes "bb")
rule_7 = refl

-- a quote that does not end, or that something follows
pub unended : unquoted (34 ∷ codes "b") ≡ None
unended = refl

pub followed : unquoted (quoted (codes "b") ++ codes "b") ≡ None
followed = refl

-- a quote within a field, and one where nothing is in quotes
pub within : fields_of csv (codes "5" ++ 34 ∷ codes ",c") ≡ (codes "5" ++ 34 ∷ []) ∷ codes "c" ∷ []
within = refl

pub of_tabs : fields_of tabs (34 ∷ 9 ∷ 34 ∷ []) ≡ (34 ∷ []) ∷ (34 ∷ []) ∷ []
of_tabs = refl

-- a text with a comma is put in quotes
pub with_comma : cell_of csv false (codes "1,5") ≡ Some (quoted (codes "1,5"))
with_comma = refl

pub without_comma : cell_of csv false (codes "1.5") ≡ Some (codes "1.5")
without_comma = refl
