-- The first field of bytes, and what is written for it and for the fields after it.
use Rattle.std.proofs.Common.{◌≡◌, ℕ, ◌+◌, ◌<◌, ◌≤◌, List, [], ◌∷◌, ◌++◌, Bool, true, false, length, take, drop, refl, sym, ap, ◌∙◌, arith, add-one, append_assoc, length-drop}
use Rattle.std.specs.Prelude.{◌||◌, Option}
use Rattle.std.specs.List.{onto_first}
use Rattle.legumeyet_columns.specs.declared.asked.TableAsked.{TableAsked}
use Rattle.legumeyet_columns.specs.declared.dialect.Dialect.{Dialect}
use Rattle.legumeyet_columns.specs.declared.dialect.Place.{Place}
use Rattle.legumeyet_columns.specs.declared.dialect.Place.TheVariants.{Front}
use Rattle.legumeyet_columns.specs.FieldsWritten.{any_refused, field_written, is_refused}
use Rattle.legumeyet_columns.specs.Places.{after, ends_field, field_length, fields_from, fields_of}
use Rattle.legumeyet_columns.specs.Records.{joined, written_from}
use Rattle.legumeyet_columns.proofs.GrammarLemmas.{fields_whole}

module _ (dialect : Dialect) where
  -- where no delimiter ends it, all is one field
  cut_last : (place : Place) (bytes : List ℕ) → field_length dialect place bytes ≡ length bytes
      → fields_from dialect place bytes ≡ take (field_length dialect place bytes) bytes ∷ []
  cut_last place [] e = refl
  cut_last place (b ∷ bs) e = at (ends_field dialect place b) refl (cut_last (after dialect place b) bs)
    where
      at : (t : Bool) → ends_field dialect place b ≡ t
          → (field_length dialect (after dialect place b) bs ≡ length bs
          → fields_from dialect (after dialect place b) bs ≡ take (field_length dialect (after dialect place b) bs) bs ∷ [])
          → fields_from dialect place (b ∷ bs) ≡ take (field_length dialect place (b ∷ bs)) (b ∷ bs) ∷ []
      at true t others = absurd (let n = simp t at e in omega arith)
      at false t others = let n = simp t at e in simp t (ap (onto_first b) (others (omega arith)))

  -- where one does, the fields after it are those of what follows it
  cut_more : (place : Place) (bytes : List ℕ) → field_length dialect place bytes < length bytes
      → fields_from dialect place bytes ≡ take (field_length dialect place bytes) bytes
      ∷ fields_of dialect (drop (field_length dialect place bytes + 1) bytes)
  cut_more place [] l = absurd (omega arith)
  cut_more place (b ∷ bs) l = at (ends_field dialect place b) refl (cut_more (after dialect place b) bs)
    where
      at : (t : Bool) → ends_field dialect place b ≡ t
          → (field_length dialect (after dialect place b) bs < length bs
          → fields_from dialect (after dialect place b) bs ≡ take (field_length dialect (after dialect place b) bs) bs
          ∷ fields_of dialect (drop (field_length dialect (after dialect place b) bs + 1) bs))
          → fields_from dialect place (b ∷ bs) ≡ take (field_length dialect place (b ∷ bs)) (b ∷ bs)
          ∷ fields_of dialect (drop (field_length dialect place (b ∷ bs) + 1) (b ∷ bs))
      at true t others = simp t
      at false t others = let n = simp t at l in simp (t, add-one) (ap (onto_first b) (simp add-one at (others (omega arith))))

-- fields are never none
some_fields : (dialect : Dialect) (place : Place) (bytes : List ℕ) → 0 < length (fields_from dialect place bytes)
some_fields dialect place [] = omega arith
some_fields dialect place (b ∷ bs) = at (ends_field dialect place b) refl
  where
    onto : (fields : List (List ℕ)) → 0 < length (onto_first b fields)
    onto [] = omega arith
    onto (field ∷ fields) = omega arith

    at : (t : Bool) → ends_field dialect place b ≡ t → 0 < length (fields_from dialect place (b ∷ bs))
    at true t = simp t (omega arith)
    at false t = simp t (onto (fields_from dialect (after dialect place b) bs))

joined_more : (delimiter : ℕ) (written : ℕ → List ℕ → List ℕ) (index : ℕ) (text : List ℕ) (fields : List (List ℕ)) → 0 < length fields
    → joined delimiter (text ∷ written_from written index fields) ≡ text ++ (delimiter ∷ joined delimiter (written_from written index fields))
joined_more delimiter written index text [] l = absurd (omega arith)
joined_more delimiter written index text (field ∷ fields) l = refl

module _ (dialect : Dialect) (written : ℕ → List ℕ → List ℕ) (index : ℕ) (bytes : List ℕ) where
  -- what is written for a last field
  pub last_written : field_length dialect Front bytes ≡ length bytes
      → joined dialect.delimiter (written_from written index (fields_of dialect bytes))
      ≡ written index (take (field_length dialect Front bytes) bytes)
  last_written e = ap (λ fields. joined dialect.delimiter (written_from written index fields)) (cut_last dialect Front bytes e)

  -- what is written for a field and for those after it
  pub more_written : field_length dialect Front bytes < length bytes
      → joined dialect.delimiter (written_from written index (fields_of dialect bytes))
      ≡ written index (take (field_length dialect Front bytes) bytes) ++ (dialect.delimiter
      ∷ joined dialect.delimiter (written_from written (index + 1) (fields_of dialect (drop (field_length dialect Front bytes + 1) bytes))))
  more_written l =
      ap (λ fields. joined dialect.delimiter (written_from written index fields)) (cut_more dialect Front bytes l)
      ∙ joined_more dialect.delimiter written (index + 1) _ _ (some_fields dialect Front (drop (field_length dialect Front bytes + 1) bytes))

module _ (dialect : Dialect) (written : ℕ → List ℕ → List ℕ) (index : ℕ) (bytes field before mid whole : List ℕ) where
  -- the last field is put
  pub put_last : field ≡ take (field_length dialect Front bytes) bytes → field_length dialect Front bytes ≡ length bytes
      → mid ≡ before ++ written index field
      → before ++ joined dialect.delimiter (written_from written index (fields_of dialect bytes)) ≡ whole → mid ≡ whole
  put_last first end put all =
      put
      ∙ ap (λ f. before ++ written index f) first
      ∙ ap (λ t. before ++ t) (sym (last_written dialect written index bytes end))
      ∙ all

  -- a field and a delimiter are put, and those after it are to be
  pub put_more : (rest after : List ℕ) → field ≡ take (field_length dialect Front bytes) bytes
      → field_length dialect Front bytes < length bytes → rest ≡ drop (field_length dialect Front bytes + 1) bytes
      → mid ≡ before ++ written index field → after ≡ mid ++ dialect.delimiter ∷ []
      → before ++ joined dialect.delimiter (written_from written index (fields_of dialect bytes)) ≡ whole
      → after ++ joined dialect.delimiter (written_from written (index + 1) (fields_of dialect rest)) ≡ whole
  put_more rest after first more left put pushed all =
      let others : List ℕ = joined dialect.delimiter (written_from written (index + 1) (fields_of dialect rest)) in
      ap (λ t. t ++ others) pushed
      ∙ append_assoc mid (dialect.delimiter ∷ []) others
      ∙ ap (λ t. t ++ (dialect.delimiter ∷ others)) put
      ∙ append_assoc before (written index field) (dialect.delimiter ∷ others)
      ∙ ap (λ f. before ++ (written index f ++ (dialect.delimiter ∷ others))) first
      ∙ ap (λ r. before ++ (written index (take (field_length dialect Front bytes) bytes)
      ++ (dialect.delimiter ∷ joined dialect.delimiter (written_from written (index + 1) (fields_of dialect r))))) left
      ∙ ap (λ t. before ++ t) (sym (more_written dialect written index bytes more))
      ∙ all

-- the index of the next field is still within the record
pub count_more : (bytes rest : List ℕ) (place index limit : ℕ) → place < length bytes → rest ≡ drop (place + 1) bytes
    → index + length bytes ≤ limit → index + 1 + length rest ≤ limit
count_more bytes rest place index limit l r n = omega (arith, length-drop (place + 1) bytes, ap length r)

-- how many fields there are with the last one, and with one before others
pub fields_last : (dialect : Dialect) (bytes : List ℕ) (index count : ℕ) → field_length dialect Front bytes ≡ length bytes
    → index + length (fields_of dialect bytes) ≡ count → index + 1 ≡ count
fields_last dialect bytes index count end all = ap (λ fields. index + length fields) (sym (cut_last dialect Front bytes end)) ∙ all

pub fields_more : (dialect : Dialect) (bytes rest : List ℕ) (index count : ℕ) → field_length dialect Front bytes < length bytes
    → rest ≡ drop (field_length dialect Front bytes + 1) bytes
    → index + length (fields_of dialect bytes) ≡ count → index + 1 + length (fields_of dialect rest) ≡ count
fields_more dialect bytes rest index count more left all =
    let here = ap length (cut_more dialect Front bytes more) in
    let others = ap (λ r. length (fields_of dialect r)) left in
    omega (arith, here, others, all)

or_assoc : (a b c : Bool) → ((a || b) || c) ≡ (a || (b || c))
or_assoc true b c = refl
or_assoc false b c = refl

or_false : (a : Bool) → (a || false) ≡ a
or_false true = refl
or_false false = refl

module _ (asked : TableAsked) (is_chosen : ℕ → Bool) (said : ℕ → List ℕ → Option (List ℕ)) (index : ℕ) (bytes field : List ℕ) (before this whole : Bool) where
  -- whether one is refused with the last field
  pub refused_last : field ≡ take (field_length asked.dialect Front bytes) bytes → field_length asked.dialect Front bytes ≡ length bytes
      → this ≡ is_refused asked is_chosen said index field
      → (before || any_refused asked is_chosen said index (fields_of asked.dialect bytes)) ≡ whole
      → (before || this) ≡ whole
  refused_last first end here all =
      ap (λ t. before || t) (here ∙ ap (is_refused asked is_chosen said index) first
      ∙ sym (or_false (is_refused asked is_chosen said index (take (field_length asked.dialect Front bytes) bytes))))
      ∙ ap (λ fields. before || any_refused asked is_chosen said index fields) (sym (cut_last asked.dialect Front bytes end))
      ∙ all

  -- and with one before others
  pub refused_more : (rest : List ℕ) → field ≡ take (field_length asked.dialect Front bytes) bytes
      → field_length asked.dialect Front bytes < length bytes → rest ≡ drop (field_length asked.dialect Front bytes + 1) bytes
      → this ≡ is_refused asked is_chosen said index field
      → (before || any_refused asked is_chosen said index (fields_of asked.dialect bytes)) ≡ whole
      → ((before || this) || any_refused asked is_chosen said (index + 1) (fields_of asked.dialect rest)) ≡ whole
  refused_more rest first more left here all =
      or_assoc before this (any_refused asked is_chosen said (index + 1) (fields_of asked.dialect rest))
      ∙ ap (λ t. before || (t || any_refused asked is_chosen said (index + 1) (fields_of asked.dialect rest)))
      (here ∙ ap (is_refused asked is_chosen said index) first)
      ∙ ap (λ r. before || (is_refused asked is_chosen said index (take (field_length asked.dialect Front bytes) bytes)
      || any_refused asked is_chosen said (index + 1) (fields_of asked.dialect r))) left
      ∙ ap (λ fields. before || any_refused asked is_chosen said index fields) (sym (cut_more asked.dialect Front bytes more))
      ∙ all

-- where none of the fields that are left is chosen, they are written as they are, and none is refused
module _ (asked : TableAsked) (is_chosen : ℕ → Bool) (said : ℕ → List ℕ → Option (List ℕ)) where
  as_they_are : (index : ℕ) → ((later : ℕ) → index ≤ later → is_chosen later ≡ false) → (fields : List (List ℕ))
      → written_from (field_written asked is_chosen said) index fields ≡ fields
  as_they_are index none [] = refl
  as_they_are index none (field ∷ fields) =
      let here = none index (omega arith) in
      let others = as_they_are (index + 1) (λ later above. none later (omega arith)) fields in
      simp (here, others)

  none_refused : (index : ℕ) → ((later : ℕ) → index ≤ later → is_chosen later ≡ false) → (fields : List (List ℕ))
      → any_refused asked is_chosen said index fields ≡ false
  none_refused index none [] = refl
  none_refused index none (field ∷ fields) =
      let here = none index (omega arith) in
      let others = none_refused (index + 1) (λ later above. none later (omega arith)) fields in
      simp (here, others)

  pub rest_written : (index : ℕ) → ((later : ℕ) → index ≤ later → is_chosen later ≡ false) → (bytes : List ℕ)
      → joined asked.dialect.delimiter (written_from (field_written asked is_chosen said) index (fields_of asked.dialect bytes)) ≡ bytes
  rest_written index none bytes =
      ap (joined asked.dialect.delimiter) (as_they_are index none (fields_of asked.dialect bytes)) ∙ fields_whole asked.dialect bytes

  pub rest_refused : (index : ℕ) → ((later : ℕ) → index ≤ later → is_chosen later ≡ false) → (bytes : List ℕ) (before : Bool)
      → (before || any_refused asked is_chosen said index (fields_of asked.dialect bytes)) ≡ before
  rest_refused index none bytes before =
      ap (λ t. before || t) (none_refused index none (fields_of asked.dialect bytes)) ∙ or_false before
