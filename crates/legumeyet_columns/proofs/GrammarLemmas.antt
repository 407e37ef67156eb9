-- Records and fields joined again, and those that RFC 4180 describes cut again.
use Rattle.std.proofs.Common.{◌≡◌, ℕ, ◌<◌, List, [], ◌∷◌, ◌++◌, Bool, true, false, length, Some, refl, sym, ap, ◌∙◌, arith, append_assoc, length-append, eqb-true, eq-eqb, ⊎_elim}
use Rattle.std.specs.Prelude.{◌==◌, ◌||◌, ◌&&◌, not, option_map}
use Rattle.std.specs.List.{concat, onto_first}
use Rattle.legumeyet_columns.specs.Cells.{has_special}
use Rattle.legumeyet_columns.specs.FieldTexts.{doubled, in_quotes, undoubled, unquoted}
use Rattle.legumeyet_columns.specs.Laws.{AreFields, IsCsv, IsField}
use Rattle.legumeyet_columns.specs.Places.{after, ends_field, ends_record, fields_from, fields_of, is_quoted, records_from, records_of}
use Rattle.legumeyet_columns.specs.Records.{joined}
use Rattle.legumeyet_columns.specs.declared.dialect.Dialect.{Dialect}
use Rattle.legumeyet_columns.specs.declared.dialect.Place.{Place}
use Rattle.legumeyet_columns.specs.declared.dialect.Place.TheVariants.{Front, Plain, Quoted, Closed}

concat_onto : (x : ℕ) (parts : List (List ℕ)) → concat (onto_first x parts) ≡ x ∷ concat parts
concat_onto x [] = refl
concat_onto x (part ∷ parts) = refl

records_whole_from : (dialect : Dialect) (place : Place) (bytes : List ℕ) → concat (records_from dialect place bytes) ≡ bytes
records_whole_from dialect place [] = refl
records_whole_from dialect place (b ∷ bs) =
    at (ends_record place b) refl (records_whole_from dialect Front bs) (records_whole_from dialect (after dialect place b) bs)
  where
    at : (t : Bool) → ends_record place b ≡ t → concat (records_from dialect Front bs) ≡ bs
        → concat (records_from dialect (after dialect place b) bs) ≡ bs → concat (records_from dialect place (b ∷ bs)) ≡ b ∷ bs
    at true t new others = simp t (ap (λ r. b ∷ r) new)
    at false t new others = simp t (concat_onto b (records_from dialect (after dialect place b) bs) ∙ ap (λ r. b ∷ r) others)

pub records_whole : (dialect : Dialect) (bytes : List ℕ) → concat (records_of dialect bytes) ≡ bytes
records_whole dialect bytes = records_whole_from dialect Front bytes

-- fields are never none, so a delimiter goes before the first of others
joined_onto : (delimiter x : ℕ) (parts : List (List ℕ)) → 0 < length parts → joined delimiter (onto_first x parts) ≡ x ∷ joined delimiter parts
joined_onto delimiter x [] some = absurd (omega arith)
joined_onto delimiter x (part ∷ []) some = refl
joined_onto delimiter x (part ∷ next ∷ parts) some = refl

joined_after : (delimiter : ℕ) (first : List ℕ) (parts : List (List ℕ)) → 0 < length parts
    → joined delimiter (first ∷ parts) ≡ first ++ (delimiter ∷ joined delimiter parts)
joined_after delimiter first [] some = absurd (omega arith)
joined_after delimiter first (part ∷ parts) some = refl

some_fields : (dialect : Dialect) (place : Place) (bytes : List ℕ) → 0 < length (fields_from dialect place bytes)
some_fields dialect place [] = omega arith
some_fields dialect place (b ∷ bs) = at (ends_field dialect place b) refl
  where
    onto : (fields : List (List ℕ)) → 0 < length (onto_first b fields)
    onto [] = omega arith
    onto (field ∷ fields) = omega arith

    at : (t : Bool) → ends_field dialect place b ≡ t → 0 < length (fields_from dialect place (b ∷ bs))
    at true t = simp t (omega arith)
    at false t = simp t (onto (fields_from dialect (after dialect place b) bs))

-- a byte that ends a field is the delimiter
is_delimiter : (dialect : Dialect) (place : Place) (b : ℕ) → ends_field dialect place b ≡ true → b ≡ dialect.delimiter
is_delimiter dialect place b = at (is_quoted place) (b == dialect.delimiter) refl refl
  where
    at : (q t : Bool) → is_quoted place ≡ q → (b == dialect.delimiter) ≡ t → (not q && t) ≡ true → b ≡ dialect.delimiter
    at true t q t' e = cc
    at false false q t e = cc
    at false true q t e = eqb-true b dialect.delimiter t

fields_whole_from : (dialect : Dialect) (place : Place) (bytes : List ℕ) → joined dialect.delimiter (fields_from dialect place bytes) ≡ bytes
fields_whole_from dialect place [] = refl
fields_whole_from dialect place (b ∷ bs) =
    at (ends_field dialect place b) refl (fields_whole_from dialect Front bs) (fields_whole_from dialect (after dialect place b) bs)
  where
    at : (t : Bool) → ends_field dialect place b ≡ t → joined dialect.delimiter (fields_from dialect Front bs) ≡ bs
        → joined dialect.delimiter (fields_from dialect (after dialect place b) bs) ≡ bs
        → joined dialect.delimiter (fields_from dialect place (b ∷ bs)) ≡ b ∷ bs
    at true t new others =
        simp t (joined_after dialect.delimiter [] (fields_from dialect Front bs) (some_fields dialect Front bs)
        ∙ ap (λ r. dialect.delimiter ∷ r) new ∙ ap (λ d. d ∷ bs) (sym (is_delimiter dialect place b t)))
    at false t new others =
        simp t (joined_onto dialect.delimiter b (fields_from dialect (after dialect place b) bs) (some_fields dialect (after dialect place b) bs)
        ∙ ap (λ r. b ∷ r) others)

pub fields_whole : (dialect : Dialect) (bytes : List ℕ) → joined dialect.delimiter (fields_of dialect bytes) ≡ bytes
fields_whole dialect bytes = fields_whole_from dialect Front bytes

-- a text in quotes, read
undoubled_more : (b : ℕ) (bytes : List ℕ) → (b == 34) ≡ false → 0 < length bytes
    → undoubled (b ∷ bytes) ≡ option_map (λ text. b ∷ text) (undoubled bytes)
undoubled_more b [] e some = absurd (omega arith)
undoubled_more b (next ∷ bytes) e some = simp e

undoubled_read : (text : List ℕ) → undoubled (doubled text ++ 34 ∷ []) ≡ Some text
undoubled_read [] = refl
undoubled_read (b ∷ bs) = at (b == 34) refl (undoubled_read bs)
  where
    at : (t : Bool) → (b == 34) ≡ t → undoubled (doubled bs ++ 34 ∷ []) ≡ Some bs → undoubled (doubled (b ∷ bs) ++ 34 ∷ []) ≡ Some (b ∷ bs)
    at true t others = simp t (ap (option_map (λ text. 34 ∷ text)) others ∙ ap (λ x. Some (x ∷ bs)) (sym (eqb-true b 34 t)))
    at false t others =
        simp t (undoubled_more b (doubled bs ++ 34 ∷ []) t (omega (arith, length-append (doubled bs) (34 ∷ [])))
        ∙ ap (option_map (λ text. b ∷ text)) others)

pub quoted_read : (text : List ℕ) → unquoted (in_quotes text) ≡ Some text
quoted_read text = undoubled_read text

-- whether no byte of these ends a field or a record, and what follows them is outside quotes
abbrev passes : Dialect → Place → List ℕ → Bool
passes dialect place [] = not (is_quoted place)
passes dialect place (byte ∷ bytes) =
    not (ends_field dialect place byte) && (not (ends_record place byte) && passes dialect (after dialect place byte) bytes)

-- the parts of that
record Passed (dialect : Dialect) (place : Place) (byte : ℕ) (bytes : List ℕ) : Type 0 where
  pub field : ends_field dialect place byte ≡ false
  pub row : ends_record place byte ≡ false
  pub rest : passes dialect (after dialect place byte) bytes ≡ true

passed : (dialect : Dialect) (place : Place) (byte : ℕ) (bytes : List ℕ) → passes dialect place (byte ∷ bytes) ≡ true
    → Passed dialect place byte bytes
passed dialect place byte bytes =
    at (ends_field dialect place byte) (ends_record place byte) (passes dialect (after dialect place byte) bytes) refl refl refl
  where
    at : (f r p : Bool) → ends_field dialect place byte ≡ f → ends_record place byte ≡ r
        → passes dialect (after dialect place byte) bytes ≡ p → (not f && (not r && p)) ≡ true → Passed dialect place byte bytes
    at true r p f' r' p' e = cc
    at false true p f r' p' e = cc
    at false false false f r p e = cc
    at false false true f r p e = record { field = f; row = r; rest = p }

outside : (place : Place) → not (is_quoted place) ≡ true → is_quoted place ≡ false
outside Front e = refl
outside Plain e = refl
outside Quoted e = cc
outside Closed e = refl

same_byte : (n : ℕ) → (n == n) ≡ true
same_byte n = eq-eqb n n refl

-- such bytes are one field, alone and before a delimiter
field_alone : (dialect : Dialect) (place : Place) (field : List ℕ) → passes dialect place field ≡ true
    → fields_from dialect place field ≡ field ∷ []
field_alone dialect place [] p = refl
field_alone dialect place (b ∷ bs) p =
    let it = passed dialect place b bs p in
    let here = it.field in
    simp here (ap (onto_first b) (field_alone dialect (after dialect place b) bs it.rest))

field_before : (dialect : Dialect) (place : Place) (field rest : List ℕ) → passes dialect place field ≡ true
    → fields_from dialect place (field ++ dialect.delimiter ∷ rest) ≡ field ∷ fields_of dialect rest
field_before dialect place [] rest p =
    let q = outside place p in
    let d = same_byte dialect.delimiter in
    simp (q, d)
field_before dialect place (b ∷ bs) rest p =
    let it = passed dialect place b bs p in
    let here = it.field in
    simp here (ap (onto_first b) (field_before dialect (after dialect place b) bs rest it.rest))

-- and belong to one record, before a line feed and before a delimiter
row_before : (dialect : Dialect) (place : Place) (field rest : List ℕ) → passes dialect place field ≡ true
    → records_from dialect place (field ++ 10 ∷ rest) ≡ (field ++ 10 ∷ []) ∷ records_of dialect rest
row_before dialect place [] rest p = let q = outside place p in simp q
row_before dialect place (b ∷ bs) rest p =
    let it = passed dialect place b bs p in
    let here = it.row in
    simp here (ap (onto_first b) (row_before dialect (after dialect place b) bs rest it.rest))

-- the delimiter is no quote
no_quote : (dialect : Dialect) → IsCsv dialect → (dialect.delimiter == 34) ≡ false
no_quote dialect csv = at (dialect.delimiter == 34) refl
  where
    at : (t : Bool) → (dialect.delimiter == 34) ≡ t → (dialect.delimiter == 34) ≡ false
    at true t =
        let other : (34 == dialect.delimiter) ≡ true = eq-eqb 34 dialect.delimiter (sym (eqb-true dialect.delimiter 34 t)) in
        let none = csv.no_quote in cc
    at false t = t

-- after a delimiter outside quotes a field begins
front_after : (dialect : Dialect) (place : Place) → IsCsv dialect → is_quoted place ≡ false → after dialect place dialect.delimiter ≡ Front
front_after dialect Front csv q = let n = no_quote dialect csv in let d = same_byte dialect.delimiter in let h = csv.quotes in simp (h, n, d)
front_after dialect Plain csv q = let d = same_byte dialect.delimiter in simp d
front_after dialect Quoted csv q = cc
front_after dialect Closed csv q = let n = no_quote dialect csv in let d = same_byte dialect.delimiter in simp (n, d)

row_more : (dialect : Dialect) (place : Place) (field rest row : List ℕ) (rows : List (List ℕ)) → IsCsv dialect → passes dialect place field ≡ true
    → records_of dialect rest ≡ row ∷ rows
    → records_from dialect place (field ++ dialect.delimiter ∷ rest) ≡ (field ++ dialect.delimiter ∷ row) ∷ rows
row_more dialect place [] rest row rows csv p all =
    let q = outside place p in
    let n = csv.no_feed in
    let front = front_after dialect place csv q in
    simp (q, n, front) (ap (onto_first dialect.delimiter) all)
row_more dialect place (b ∷ bs) rest row rows csv p all =
    let it = passed dialect place b bs p in
    let here = it.row in
    simp here (ap (onto_first b) (row_more dialect (after dialect place b) bs rest row rows csv it.rest all))

-- a field of RFC 4180 passes: one without special bytes
record Usual (dialect : Dialect) (byte : ℕ) (bytes : List ℕ) : Type 0 where
  pub delimiter : (byte == dialect.delimiter) ≡ false
  pub quote : (byte == 34) ≡ false
  pub feed : (byte == 10) ≡ false
  pub rest : has_special dialect bytes ≡ false

usual : (dialect : Dialect) (byte : ℕ) (bytes : List ℕ) → has_special dialect (byte ∷ bytes) ≡ false → Usual dialect byte bytes
usual dialect byte bytes = at (byte == dialect.delimiter) (byte == 34) (byte == 10) (byte == 13) (has_special dialect bytes) refl refl refl refl refl
  where
    at : (d q f r s : Bool) → (byte == dialect.delimiter) ≡ d → (byte == 34) ≡ q → (byte == 10) ≡ f → (byte == 13) ≡ r
        → has_special dialect bytes ≡ s → (((d || q) || (f || r)) || s) ≡ false → Usual dialect byte bytes
    at true q' f' r' s' d q f r s e = cc
    at false true f' r' s' d q f r s e = cc
    at false false true r' s' d q f r s e = cc
    at false false false true s' d q f r s e = cc
    at false false false false true d q f r s e = cc
    at false false false false false d q f r s e = record { delimiter = d; quote = q; feed = f; rest = s }

plain_passes : (dialect : Dialect) (field : List ℕ) → has_special dialect field ≡ false → passes dialect Plain field ≡ true
plain_passes dialect [] none = refl
plain_passes dialect (b ∷ bs) none =
    let it = usual dialect b bs none in
    let d = it.delimiter in
    let f = it.feed in
    let others = plain_passes dialect bs it.rest in
    simp (d, f, others)

front_passes : (dialect : Dialect) (field : List ℕ) → IsCsv dialect → has_special dialect field ≡ false → passes dialect Front field ≡ true
front_passes dialect [] csv none = refl
front_passes dialect (b ∷ bs) csv none =
    let it = usual dialect b bs none in
    let h = csv.quotes in
    let d = it.delimiter in
    let q = it.quote in
    let f = it.feed in
    let others = plain_passes dialect bs it.rest in
    simp (h, d, q, f, others)

-- and a text in quotes
quoted_passes : (dialect : Dialect) (text : List ℕ) → IsCsv dialect → passes dialect Quoted (doubled text ++ 34 ∷ []) ≡ true
quoted_passes dialect [] csv = refl
quoted_passes dialect (b ∷ bs) csv = at (b == 34) refl (quoted_passes dialect bs csv)
  where
    at : (t : Bool) → (b == 34) ≡ t → passes dialect Quoted (doubled bs ++ 34 ∷ []) ≡ true
        → passes dialect Quoted (doubled (b ∷ bs) ++ 34 ∷ []) ≡ true
    at true t others = let n = csv.no_quote in simp (t, n) others
    at false t others = simp t others

in_quotes_passes : (dialect : Dialect) (text : List ℕ) → IsCsv dialect → passes dialect Front (in_quotes text) ≡ true
in_quotes_passes dialect text csv =
    let h = csv.quotes in
    let n = csv.no_quote in
    simp (h, n) (quoted_passes dialect text csv)

field_passes : (dialect : Dialect) (field : List ℕ) → IsCsv dialect → IsField dialect field → passes dialect Front field ≡ true
field_passes dialect field csv is = ⊎_elim (λ none. front_passes dialect field csv none) (λ it. rw it.1 (in_quotes_passes dialect it.0 csv)) is

pub fields_cut : (dialect : Dialect) → IsCsv dialect → (fields : List (List ℕ)) → 0 < length fields → AreFields dialect fields
    → fields_of dialect (joined dialect.delimiter fields) ≡ fields
fields_cut dialect csv [] some all = absurd (omega arith)
fields_cut dialect csv (field ∷ []) some all = field_alone dialect Front field (field_passes dialect field csv all.0)
fields_cut dialect csv (field ∷ next ∷ fields) some all =
    field_before dialect Front field (joined dialect.delimiter (next ∷ fields)) (field_passes dialect field csv all.0)
    ∙ ap (λ others. field ∷ others) (fields_cut dialect csv (next ∷ fields) (omega arith) all.1)

pub records_cut : (dialect : Dialect) → IsCsv dialect → (fields : List (List ℕ)) → 0 < length fields → AreFields dialect fields
    → (rest : List ℕ) → records_of dialect (joined dialect.delimiter fields ++ 10 ∷ rest)
    ≡ (joined dialect.delimiter fields ++ 10 ∷ []) ∷ records_of dialect rest
records_cut dialect csv [] some all rest = absurd (omega arith)
records_cut dialect csv (field ∷ []) some all rest = row_before dialect Front field rest (field_passes dialect field csv all.0)
records_cut dialect csv (field ∷ next ∷ fields) some all rest =
    let others : List ℕ = joined dialect.delimiter (next ∷ fields) in
    ap (records_of dialect) (append_assoc field (dialect.delimiter ∷ others) (10 ∷ rest))
    ∙ row_more dialect Front field (others ++ 10 ∷ rest) (others ++ 10 ∷ []) (records_of dialect rest) csv (field_passes dialect field csv all.0)
    (records_cut dialect csv (next ∷ fields) (omega arith) all.1 rest)
    ∙ ap (λ row. row ∷ records_of dialect rest) (sym (append_assoc field (dialect.delimiter ∷ others) (10 ∷ [])))
