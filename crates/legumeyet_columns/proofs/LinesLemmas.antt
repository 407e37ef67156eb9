-- A record by its lines: what is read up to a line feed belongs to it, and what follows where that is in quotes.
use Rattle.std.proofs.Common.{◌≡◌, ℕ, List, [], ◌∷◌, ◌++◌, Bool, true, false, length, drop, refl, sym, ap, ◌∙◌, eqb-true, append_assoc}
use Rattle.std.proofs.Math.Seq.{drop-append_seam}
use Rattle.std.specs.Prelude.{◌==◌}
use Rattle.std.specs.Io.BufRead.{take_through, drop_through}
use Rattle.legumeyet_columns.proofs.MarksLemmas.{mark_and_line, mark_and_rest, mark_of_line}
use Rattle.legumeyet_columns.specs.declared.dialect.Dialect.{Dialect}
use Rattle.legumeyet_columns.specs.declared.dialect.Place.{Place}
use Rattle.legumeyet_columns.specs.declared.dialect.Place.TheVariants.{Front, Plain, Quoted, Closed}
use Rattle.legumeyet_columns.specs.Marks.{mark_of, without_mark}
use Rattle.legumeyet_columns.specs.Places.{after, after_all, after_plain, after_record, first_record, is_quoted, left_after, rest_of}

module _ (dialect : Dialect) where
  plain_feed : is_quoted (after_plain dialect 10) ≡ false
  plain_feed = at (10 == dialect.delimiter) refl
    where
      at : (t : Bool) → (10 == dialect.delimiter) ≡ t → is_quoted (after_plain dialect 10) ≡ false
      at true t = simp t
      at false t = simp t

  front_feed : is_quoted (after dialect Front 10) ≡ false
  front_feed = at dialect.has_quotes refl
    where
      at : (t : Bool) → dialect.has_quotes ≡ t → is_quoted (after dialect Front 10) ≡ false
      at true t = simp t plain_feed
      at false t = simp t plain_feed

  -- a line feed neither begins nor ends quotes
  feed_leaves : (place : Place) → is_quoted (after dialect place 10) ≡ is_quoted place
  feed_leaves Front = front_feed
  feed_leaves Plain = plain_feed
  feed_leaves Quoted = refl
  feed_leaves Closed = plain_feed

  leaves : (place : Place) (b : ℕ) (q : Bool) → (b == 10) ≡ true → is_quoted place ≡ q → is_quoted (after dialect place b) ≡ q
  leaves place b q e p = ap (λ x. is_quoted (after dialect place x)) (eqb-true b 10 e) ∙ feed_leaves place ∙ p

  pub first_by_line : (place : Place) (bytes : List ℕ)
      → first_record dialect place bytes
      ≡ take_through 10 bytes ++ rest_of dialect (after_all dialect place (take_through 10 bytes)) (drop_through 10 bytes)
  first_by_line place [] = at (is_quoted place) refl
    where
      at : (q : Bool) → is_quoted place ≡ q → [] ≡ rest_of dialect place []
      at true q = simp q
      at false q = simp q
  first_by_line place (b ∷ bs) = at (b == 10) (is_quoted place) refl refl (first_by_line (after dialect place b) bs)
    where
      at : (t q : Bool) → (b == 10) ≡ t → is_quoted place ≡ q
          → first_record dialect (after dialect place b) bs
          ≡ take_through 10 bs ++ rest_of dialect (after_all dialect (after dialect place b) (take_through 10 bs)) (drop_through 10 bs)
          → first_record dialect place (b ∷ bs)
          ≡ take_through 10 (b ∷ bs) ++ rest_of dialect (after_all dialect place (take_through 10 (b ∷ bs))) (drop_through 10 (b ∷ bs))
      at true true t q others = let next = leaves place b true t q in simp (t, q, next)
      at true false t q others = let next = leaves place b false t q in simp (t, q, next)
      at false true t q others = simp (t, q) (ap (λ r. b ∷ r) others)
      at false false t q others = simp (t, q) (ap (λ r. b ∷ r) others)

  pub left_by_line : (place : Place) (bytes : List ℕ)
      → after_record dialect place bytes ≡ left_after dialect (after_all dialect place (take_through 10 bytes)) (drop_through 10 bytes)
  left_by_line place [] = at (is_quoted place) refl
    where
      at : (q : Bool) → is_quoted place ≡ q → [] ≡ left_after dialect place []
      at true q = simp q
      at false q = simp q
  left_by_line place (b ∷ bs) = at (b == 10) (is_quoted place) refl refl (left_by_line (after dialect place b) bs)
    where
      at : (t q : Bool) → (b == 10) ≡ t → is_quoted place ≡ q
          → after_record dialect (after dialect place b) bs
          ≡ left_after dialect (after_all dialect (after dialect place b) (take_through 10 bs)) (drop_through 10 bs)
          → after_record dialect place (b ∷ bs)
          ≡ left_after dialect (after_all dialect place (take_through 10 (b ∷ bs))) (drop_through 10 (b ∷ bs))
      at true true t q others = let next = leaves place b true t q in simp (t, q, next)
      at true false t q others = let next = leaves place b false t q in simp (t, q, next)
      at false true t q others = simp (t, q) others
      at false false t q others = simp (t, q) others

  rest_none : (place : Place) → rest_of dialect place [] ≡ []
  rest_none place = at (is_quoted place) refl
    where
      at : (q : Bool) → is_quoted place ≡ q → rest_of dialect place [] ≡ []
      at true q = simp q
      at false q = simp q

  left_none : (place : Place) → left_after dialect place [] ≡ []
  left_none place = at (is_quoted place) refl
    where
      at : (q : Bool) → is_quoted place ≡ q → left_after dialect place [] ≡ []
      at true q = simp q
      at false q = simp q

  -- where nothing is left, the record is what was read
  pub ended_row : (place : Place) (row now whole rest : List ℕ) → rest ≡ [] → now ≡ row ++ take_through 10 rest
      → row ++ rest_of dialect place rest ≡ whole → now ≡ whole
  ended_row place row now whole [] e n all = n ∙ ap (λ t. row ++ t) (sym (rest_none place)) ∙ all
  ended_row place row now whole (b ∷ bs) e n all = cc

  pub ended_left : (place : Place) (rest whole : List ℕ) → rest ≡ [] → left_after dialect place rest ≡ whole → drop_through 10 rest ≡ whole
  ended_left place [] whole e all = sym (left_none place) ∙ all
  ended_left place (b ∷ bs) whole e all = cc

  -- the line that was added to a record
  line_added : (row now line : List ℕ) (start : ℕ) → start ≡ length row → now ≡ row ++ line → drop start now ≡ line
  line_added row now line start s n = ap (λ k. drop k now) s ∙ ap (drop (length row)) n ∙ drop-append_seam row line

  -- a line in quotes is added, and the rest is to be read
  pub more_row : (place next : Place) (row now piece rest whole : List ℕ) (start : ℕ) → is_quoted place ≡ true
      → start ≡ length row → now ≡ row ++ take_through 10 rest → piece ≡ drop start now → next ≡ after_all dialect place piece
      → row ++ rest_of dialect place rest ≡ whole → now ++ rest_of dialect next (drop_through 10 rest) ≡ whole
  more_row place next row now piece rest whole start q s n p a all =
      let line = p ∙ line_added row now (take_through 10 rest) start s n in
      let here : rest_of dialect place rest ≡ first_record dialect place rest = simp q in
      ap (λ t. t ++ rest_of dialect next (drop_through 10 rest)) n
      ∙ append_assoc row (take_through 10 rest) (rest_of dialect next (drop_through 10 rest))
      ∙ ap (λ x. row ++ (take_through 10 rest ++ rest_of dialect x (drop_through 10 rest))) (a ∙ ap (after_all dialect place) line)
      ∙ ap (λ t. row ++ t) (sym (here ∙ first_by_line place rest))
      ∙ all

  pub more_left : (place next : Place) (row now piece rest whole : List ℕ) (start : ℕ) → is_quoted place ≡ true
      → start ≡ length row → now ≡ row ++ take_through 10 rest → piece ≡ drop start now → next ≡ after_all dialect place piece
      → left_after dialect place rest ≡ whole → left_after dialect next (drop_through 10 rest) ≡ whole
  more_left place next row now piece rest whole start q s n p a all =
      let line = p ∙ line_added row now (take_through 10 rest) start s n in
      let here : left_after dialect place rest ≡ after_record dialect place rest = simp q in
      ap (λ x. left_after dialect x (drop_through 10 rest)) (a ∙ ap (after_all dialect place) line)
      ∙ sym (here ∙ left_by_line place rest)
      ∙ all

  -- nothing is read of nothing
  pub nothing_read : (row now bytes : List ℕ) → row ≡ [] → bytes ≡ [] → now ≡ row ++ take_through 10 bytes
      → now ≡ mark_of bytes ++ first_record dialect Front (without_mark bytes)
  nothing_read row now [] r e n = n ∙ ap (λ t. t ++ []) r
  nothing_read row now (b ∷ bs) r e n = cc

  pub nothing_left : (bytes : List ℕ) → bytes ≡ [] → drop_through 10 bytes ≡ after_record dialect Front (without_mark bytes)
  nothing_left [] e = refl
  nothing_left (b ∷ bs) e = cc

  -- a record is a line and what follows where that is in quotes
  pub whole_row : (place : Place) (row line piece now bytes : List ℕ) → row ≡ [] → line ≡ row ++ take_through 10 bytes
      → piece ≡ line → place ≡ after_all dialect Front piece → now ≡ line ++ rest_of dialect place (drop_through 10 bytes)
      → now ≡ first_record dialect Front bytes
  whole_row place row line piece now bytes r l p a n =
      let read = l ∙ ap (λ t. t ++ take_through 10 bytes) r in
      n ∙ ap (λ t. t ++ rest_of dialect place (drop_through 10 bytes)) read
      ∙ ap (λ x. take_through 10 bytes ++ rest_of dialect x (drop_through 10 bytes)) (a ∙ ap (after_all dialect Front) (p ∙ read))
      ∙ sym (first_by_line Front bytes)

  pub whole_left : (place : Place) (row line piece bytes : List ℕ) → row ≡ [] → line ≡ row ++ take_through 10 bytes
      → piece ≡ line → place ≡ after_all dialect Front piece
      → left_after dialect place (drop_through 10 bytes) ≡ after_record dialect Front bytes
  whole_left place row line piece bytes r l p a =
      let read = l ∙ ap (λ t. t ++ take_through 10 bytes) r in
      ap (λ x. left_after dialect x (drop_through 10 bytes)) (a ∙ ap (after_all dialect Front) (p ∙ read))
      ∙ sym (left_by_line Front bytes)

  -- the same after the mark in front
  pub marked_row : (place : Place) (row line piece now bytes : List ℕ) → row ≡ [] → line ≡ row ++ take_through 10 bytes
      → piece ≡ without_mark line → place ≡ after_all dialect Front piece → now ≡ line ++ rest_of dialect place (drop_through 10 bytes)
      → now ≡ mark_of bytes ++ first_record dialect Front (without_mark bytes)
  marked_row place row line piece now bytes r l p a n =
      let read = l ∙ ap (λ t. t ++ take_through 10 bytes) r in
      let body : List ℕ = without_mark bytes in
      let first = p ∙ ap without_mark read ∙ mark_of_line bytes in
      n ∙ ap (λ t. t ++ rest_of dialect place (drop_through 10 bytes)) (read ∙ sym (mark_and_line bytes))
      ∙ append_assoc (mark_of bytes) (take_through 10 body) (rest_of dialect place (drop_through 10 bytes))
      ∙ ap (λ t. mark_of bytes ++ (take_through 10 body ++ rest_of dialect place t)) (sym (mark_and_rest bytes))
      ∙ ap (λ x. mark_of bytes ++ (take_through 10 body ++ rest_of dialect x (drop_through 10 body))) (a ∙ ap (after_all dialect Front) first)
      ∙ ap (λ t. mark_of bytes ++ t) (sym (first_by_line Front body))

  pub marked_left : (place : Place) (row line piece bytes : List ℕ) → row ≡ [] → line ≡ row ++ take_through 10 bytes
      → piece ≡ without_mark line → place ≡ after_all dialect Front piece
      → left_after dialect place (drop_through 10 bytes) ≡ after_record dialect Front (without_mark bytes)
  marked_left place row line piece bytes r l p a =
      let read = l ∙ ap (λ t. t ++ take_through 10 bytes) r in
      let body : List ℕ = without_mark bytes in
      let first = p ∙ ap without_mark read ∙ mark_of_line bytes in
      ap (λ t. left_after dialect place t) (sym (mark_and_rest bytes))
      ∙ ap (λ x. left_after dialect x (drop_through 10 body)) (a ∙ ap (after_all dialect Front) first)
      ∙ sym (left_by_line Front body)

  pub nothing_of : (row now bytes : List ℕ) → row ≡ [] → bytes ≡ [] → now ≡ row ++ take_through 10 bytes
      → now ≡ first_record dialect Front bytes
  nothing_of row now [] r e n = n ∙ ap (λ t. t ++ []) r
  nothing_of row now (b ∷ bs) r e n = cc

  pub nothing_of_left : (bytes : List ℕ) → bytes ≡ [] → drop_through 10 bytes ≡ after_record dialect Front bytes
  nothing_of_left [] e = refl
  nothing_of_left (b ∷ bs) e = cc
