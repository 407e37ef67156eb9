-- A record in a reader's buffer: what a search for its line feed and the place after it tell.
use Rattle.std.proofs.Common.{◌≡◌, ℕ, zero, suc, ◌+◌, ◌<◌, List, [], ◌∷◌, ◌++◌, Bool, true, false, length, get_or, take, drop, Some, refl, sym, ap, ◌∙◌, arith, add-one, append-nil, eqb-true}
use Rattle.std.specs.Prelude.{◌==◌, ◌||◌}
use Rattle.std.specs.Io.BufRead.{drop_through, take_through}
use Rattle.std.proofs.lemmas.Bool.{false_from_ne_true}
use Rattle.std.proofs.lemmas.List.{length-take-le}
use Rattle.memchr.specs.Find.{IsFirstByte, is_byte, is_byte2}
use Rattle.legumeyet_columns.specs.declared.dialect.Dialect.{Dialect}
use Rattle.legumeyet_columns.specs.declared.dialect.Place.TheVariants.{Front}
use Rattle.legumeyet_columns.specs.Places.{after_all, after_record, first_record, has_quote, is_quoted, rest_of}
use Rattle.legumeyet_columns.specs.RowsWritten.{is_open}
use Rattle.legumeyet_columns.proofs.LinesLemmas.{first_by_line, left_by_line}
use Rattle.legumeyet_columns.proofs.PlacesLemmas.{left_outside, no_quotes, rest_outside}

-- the place of the first line feed
record IsFeed (bytes : List ℕ) (at : ℕ) : Type 0 where
  pub below : at < length bytes
  pub before : (k : ℕ) → k < at → ¬ ((get_or bytes k 0 == 10) ≡ true)
  pub here : (get_or bytes at 0 == 10) ≡ true

is_feed : (bytes : List ℕ) (at : ℕ) → IsFirstByte (is_byte 10) bytes (Some at) → IsFeed bytes at
is_feed bytes at found = record { below = found.0.high; before = λ k l. found.0.before k (omega arith) l; here = found.1 }

-- a line feed that a search for one or for a quote finds: no quote is in its line
either_true : (a b : Bool) → b ≡ true → (a || b) ≡ true
either_true true b e = refl
either_true false b e = e

no_quote_before : (bytes : List ℕ) (at : ℕ) → at < length bytes → ((k : ℕ) → k < at → ¬ ((get_or bytes k 0 == 34) ≡ true))
    → (get_or bytes at 0 == 10) ≡ true → has_quote (take (suc at) bytes) ≡ false
no_quote_before [] at below before here = absurd (omega arith)
no_quote_before (b ∷ bs) zero below before here =
    let other : (b == 34) ≡ false = ap (λ x. x == 34) (eqb-true b 10 here) in simp other
no_quote_before (b ∷ bs) (suc n) below before here =
    let other = false_from_ne_true (b == 34) (before 0 (omega arith)) in
    simp other (no_quote_before bs n (omega arith) (λ k l. before (suc k) (omega arith)) here)

pub plain_closed : (dialect : Dialect) (bytes : List ℕ) (at : ℕ) → IsFirstByte (is_byte2 10 34) bytes (Some at)
    → (get_or bytes at 0 == 10) ≡ true → is_open dialect (take (at + 1) bytes) ≡ false
plain_closed dialect bytes at found here =
    ap (λ n. is_open dialect (take n bytes)) (add-one at)
    ∙ no_quotes dialect (take (suc at) bytes) (no_quote_before bytes at found.0.high
    (λ k below is. found.0.before k (omega arith) below (either_true (get_or bytes k 0 == 10) (get_or bytes k 0 == 34) is)) here)

-- the line up to it, and what follows it
taken : (bytes more : List ℕ) (at : ℕ) → IsFeed bytes at → take_through 10 (bytes ++ more) ≡ take (suc at) bytes
taken [] more at feed = absurd (let below = feed.below in omega arith)
taken (b ∷ bs) more zero feed = let here : (b == 10) ≡ true = feed.here in simp here
taken (b ∷ bs) more (suc n) feed =
    let below = feed.below in
    let other = false_from_ne_true (b == 10) (feed.before 0 (omega arith)) in
    simp other (ap (λ t. b ∷ t) (taken bs more n (record {
      below = omega arith;
      before = λ k l. feed.before (suc k) (omega arith);
      here = feed.here;
    })))

dropped : (bytes more : List ℕ) (at : ℕ) → IsFeed bytes at → drop_through 10 (bytes ++ more) ≡ drop (suc at) (bytes ++ more)
dropped [] more at feed = absurd (let below = feed.below in omega arith)
dropped (b ∷ bs) more zero feed = let here : (b == 10) ≡ true = feed.here in simp here
dropped (b ∷ bs) more (suc n) feed =
    let below = feed.below in
    let other = false_from_ne_true (b == 10) (feed.before 0 (omega arith)) in
    simp other (dropped bs more n (record {
      below = omega arith;
      before = λ k l. feed.before (suc k) (omega arith);
      here = feed.here;
    }))

module _ (dialect : Dialect) (bytes row : List ℕ) (at : ℕ) (found : IsFirstByte (is_byte 10) bytes (Some at)) (cut : row ≡ take (at + 1) bytes) where
  line : (more : List ℕ) → take_through 10 (bytes ++ more) ≡ row
  line more = taken bytes more at (is_feed bytes at found) ∙ sym (cut ∙ ap (λ n. take n bytes) (add-one at))

  pub ready_length : length row ≡ at + 1
  ready_length = let below = found.0.high in ap length cut ∙ length-take-le (at + 1) bytes (omega arith)

  pub ready_row : is_quoted (after_all dialect Front row) ≡ false → (more : List ℕ) → row ≡ first_record dialect Front (bytes ++ more)
  ready_row closed more =
      let all : List ℕ = bytes ++ more in
      let first : List ℕ = take_through 10 all in
      let rest : List ℕ = rest_of dialect (after_all dialect Front first) (drop_through 10 all) in
      let none : rest ≡ [] =
      rest_outside dialect (after_all dialect Front first) (drop_through 10 all)
      (ap (λ l. is_quoted (after_all dialect Front l)) (line more) ∙ closed) in
      sym (first_by_line dialect Front all ∙ ap (λ r. first ++ r) none ∙ append-nil first ∙ line more)

  pub ready_left : is_quoted (after_all dialect Front row) ≡ false
      → (more : List ℕ) → after_record dialect Front (bytes ++ more) ≡ drop (length row) (bytes ++ more)
  ready_left closed more =
      left_by_line dialect Front (bytes ++ more)
      ∙ left_outside dialect _ _ (ap (λ l. is_quoted (after_all dialect Front l)) (line more) ∙ closed)
      ∙ dropped bytes more at (is_feed bytes at found)
      ∙ ap (λ n. drop n (bytes ++ more)) (sym (add-one at) ∙ sym ready_length)
