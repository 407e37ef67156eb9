-- The first record of bytes, and what is written for it and for those after it.
use Rattle.std.proofs.Common.{◌≡◌, ℕ, ◌<◌, List, [], ◌∷◌, ◌++◌, Bool, true, false, length, Option, refl, sym, ap, ◌∙◌, arith, append-nil}
use Rattle.std.specs.Prelude.{◌||◌, if◌then◌else◌}
use Rattle.std.specs.List.{list_any, onto_first}
use Rattle.std.specs.Io.KnownBytes.{Appends}
use Rattle.std.proofs.KnownBytes.{Appends-trans}
use Rattle.legumeyet_columns.specs.declared.asked.OnRefusal.{OnRefusal}
use Rattle.legumeyet_columns.specs.declared.asked.OnRefusal.TheVariants.{Empty, Keep, Skip, Abort}
use Rattle.legumeyet_columns.specs.declared.asked.TableAsked.{TableAsked}
use Rattle.legumeyet_columns.specs.declared.dialect.Dialect.{Dialect}
use Rattle.legumeyet_columns.specs.declared.dialect.Place.{Place}
use Rattle.legumeyet_columns.specs.declared.dialect.Place.TheVariants.{Front}
use Rattle.legumeyet_columns.specs.Places.{after, after_record, ends_record, first_record, records_from, records_of}
use Rattle.legumeyet_columns.specs.RowsWritten.{is_last, row_refused, row_written, rows_written, table_refused, table_written}

module _ (dialect : Dialect) where
  first_row : (place : Place) (x : ℕ) (xs : List ℕ)
      → records_from dialect place (x ∷ xs) ≡ first_record dialect place (x ∷ xs) ∷ records_of dialect (after_record dialect place (x ∷ xs))
  first_row place x [] = at (ends_record place x) refl
    where
      at : (t : Bool) → ends_record place x ≡ t
          → records_from dialect place (x ∷ []) ≡ first_record dialect place (x ∷ []) ∷ records_of dialect (after_record dialect place (x ∷ []))
      at true t = simp t
      at false t = simp t
  first_row place x (y ∷ ys) = at (ends_record place x) refl (first_row (after dialect place x) y ys)
    where
      at : (t : Bool) → ends_record place x ≡ t
          → records_from dialect (after dialect place x) (y ∷ ys)
          ≡ first_record dialect (after dialect place x) (y ∷ ys) ∷ records_of dialect (after_record dialect (after dialect place x) (y ∷ ys))
          → records_from dialect place (x ∷ y ∷ ys)
          ≡ first_record dialect place (x ∷ y ∷ ys) ∷ records_of dialect (after_record dialect place (x ∷ y ∷ ys))
      at true t others = simp t
      at false t others = simp t (ap (onto_first x) others)

  -- bytes of which a record has some
  taken_row : (bytes row : List ℕ) → row ≡ first_record dialect Front bytes → 0 < length row
      → records_of dialect bytes ≡ row ∷ records_of dialect (after_record dialect Front bytes)
  taken_row [] row e some = absurd (let none = ap length e in omega arith)
  taken_row (x ∷ xs) row e some = first_row Front x xs ∙ ap (λ r. r ∷ records_of dialect (after_record dialect Front (x ∷ xs))) (sym e)

pub or_none : (x : Bool) → (x || false) ≡ x
or_none true = refl
or_none false = refl

or_more : (x b t : Bool) → ((x || b) || t) ≡ (x || (b || t))
or_more true b t = refl
or_more false b t = refl

-- only after a refusal nothing is written
last_is_refused : (on_refusal : OnRefusal) (refused : Bool) → is_last on_refusal refused ≡ true → refused ≡ true
last_is_refused Empty refused last = cc
last_is_refused Keep refused last = cc
last_is_refused Skip refused last = cc
last_is_refused Abort refused last = last

module _ (asked : TableAsked) (is_chosen : ℕ → Bool) (said : ℕ → List ℕ → Option (List ℕ)) (misses : ℕ → Bool) (rest row : List ℕ) (refused : Bool) where
  -- what is written for the bytes is what is for the first record, and for the others where there is more
  first_written : (b : Bool) → is_last asked.on_refusal refused ≡ b → row ≡ first_record asked.dialect Front rest → 0 < length row
      → refused ≡ row_refused asked is_chosen said misses row
      → table_written asked is_chosen said misses rest
      ≡ row_written asked is_chosen said misses row
      ++ (if b then [] else table_written asked is_chosen said misses (after_record asked.dialect Front rest))
  first_written b last read some told =
      ap (rows_written asked is_chosen said misses) (taken_row asked.dialect rest row read some)
      ∙ ap (λ r. row_written asked is_chosen said misses row ++ (if is_last asked.on_refusal r then []
      else table_written asked is_chosen said misses (after_record asked.dialect Front rest))) (sym told)
      ∙ ap (λ l. row_written asked is_chosen said misses row ++ (if l then []
      else table_written asked is_chosen said misses (after_record asked.dialect Front rest))) last

  -- a record and those after it are written
  pub row_and_more : is_last asked.on_refusal refused ≡ false → row ≡ first_record asked.dialect Front rest → 0 < length row
      → refused ≡ row_refused asked is_chosen said misses row
      → (before mid end : Option (List ℕ)) → Appends before mid (row_written asked is_chosen said misses row)
      → Appends mid end (table_written asked is_chosen said misses (after_record asked.dialect Front rest))
      → Appends before end (table_written asked is_chosen said misses rest)
  row_and_more last read some told before mid end wrote more =
      rw (first_written false last read some told)
      (Appends-trans before mid end (row_written asked is_chosen said misses row)
      (table_written asked is_chosen said misses (after_record asked.dialect Front rest)) wrote more)

  -- the last record is written
  pub last_row : is_last asked.on_refusal refused ≡ true → row ≡ first_record asked.dialect Front rest → 0 < length row
      → refused ≡ row_refused asked is_chosen said misses row
      → (before end : Option (List ℕ)) → Appends before end (row_written asked is_chosen said misses row)
      → Appends before end (table_written asked is_chosen said misses rest)
  last_row last read some told before end wrote = rw (first_written true last read some told, append-nil) wrote

  -- something of the bytes is refused where something of the first record is, or of the others
  first_refused : row ≡ first_record asked.dialect Front rest → 0 < length row → refused ≡ row_refused asked is_chosen said misses row
      → table_refused asked is_chosen said misses rest
      ≡ (refused || table_refused asked is_chosen said misses (after_record asked.dialect Front rest))
  first_refused read some told =
      ap (list_any (row_refused asked is_chosen said misses)) (taken_row asked.dialect rest row read some)
      ∙ ap (λ r. r || table_refused asked is_chosen said misses (after_record asked.dialect Front rest)) (sym told)

  pub refused_and_more : row ≡ first_record asked.dialect Front rest → 0 < length row → refused ≡ row_refused asked is_chosen said misses row
      → (before : Bool) → ((before || refused) || table_refused asked is_chosen said misses (after_record asked.dialect Front rest))
      ≡ (before || table_refused asked is_chosen said misses rest)
  refused_and_more read some told before =
      or_more before refused (table_refused asked is_chosen said misses (after_record asked.dialect Front rest))
      ∙ ap (λ r. before || r) (sym (first_refused read some told))

  pub refused_at_last : is_last asked.on_refusal refused ≡ true → row ≡ first_record asked.dialect Front rest → 0 < length row
      → refused ≡ row_refused asked is_chosen said misses row
      → (before : Bool) → (before || refused) ≡ (before || table_refused asked is_chosen said misses rest)
  refused_at_last last read some told before =
      let is = last_is_refused asked.on_refusal refused last in
      let others : Bool = table_refused asked is_chosen said misses (after_record asked.dialect Front rest) in
      ap (λ r. before || r) (is ∙ sym (first_refused read some told ∙ ap (λ r. r || others) is))
