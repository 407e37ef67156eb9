-- The first line of bytes, the lines after it, and what is shown of both.
use Rattle.std.proofs.Common.{◌≡◌, ℕ, suc, ◌+◌, ◌<◌, ◌≤◌, List, [], ◌∷◌, ◌++◌, Bool, true, false, cond, length, map, take, Option, None, Some, refl, sym, ap, ◌∙◌, arith, append-nil, take_all}
use Rattle.std.specs.Prelude.{◌==◌, if◌then◌else◌, nat_lt}
use Rattle.std.specs.List.{before_first, onto_first, position, position_or_len}
use Rattle.std.specs.Io.BufRead.{take_through, drop_through}
use Rattle.std.specs.Io.KnownBytes.{Appends, Keeps}
use Rattle.std.proofs.KnownBytes.{Appends-trans, Appends-kept}
use Rattle.std.proofs.lemmas.Bool.Decides.{nat_tests}
use Rattle.locale_numbers_lines.specs.Lines.{lines_of}
use Rattle.legumeyet_options.specs.Sayings.{saying}
use Rattle.legumeyet_options.specs.declared.Invalid.{Invalid}
use Rattle.legumeyet_options.specs.declared.Sayer.{Sayer}
use Rattle.legumeyet.specs.Output.{input_shown, is_last, shown, status_said, texts_shown}
use Rattle.legumeyet_columns.specs.Trimming.{trimmed}
use Rattle.legumeyet.specs.Feeds.{is_feed}

-- what is before the place of a line feed
pub before_place : (xs : List ℕ) (end : ℕ) → Some end ≡ position is_feed xs → take end xs ≡ before_first is_feed xs
before_place xs end found = at (nat_lt (position_or_len is_feed xs) (length xs)) found
  where
    at : (b : Bool) → Some end ≡ cond b (Some (position_or_len is_feed xs)) None → take end xs ≡ before_first is_feed xs
    at true e = let same : end ≡ position_or_len is_feed xs = cc in ap (λ n. take n xs) same
    at false e = cc

-- without one it is all
pub before_none : (xs : List ℕ) → None ≡ position is_feed xs → xs ≡ before_first is_feed xs
before_none xs none = at (nat_lt (position_or_len is_feed xs) (length xs)) refl none
  where
    at : (b : Bool) → nat_lt (position_or_len is_feed xs) (length xs) ≡ b
        → None ≡ cond b (Some (position_or_len is_feed xs)) None → xs ≡ before_first is_feed xs
    at true t e = cc
    at false t e =
        let above : length xs ≤ position_or_len is_feed xs = grind (arith, nat_tests) in
        sym (take_all (position_or_len is_feed xs) xs above)

take_one_more : (x : ℕ) (t : List ℕ) (n : ℕ) → take (1 + n) (x ∷ t) ≡ x ∷ take n t
take_one_more x t n = let same : 1 + n ≡ suc n = omega arith in ap (λ k. take k (x ∷ t)) same

-- what a read takes is the first line and its line feed, and the other lines are those of what it leaves
first_line : (x : ℕ) (xs : List ℕ)
    → lines_of (x ∷ xs) ≡ before_first is_feed (take_through 10 (x ∷ xs)) ∷ lines_of (drop_through 10 (x ∷ xs))
first_line x [] = at (x == 10) refl
  where
    at : (b : Bool) → (x == 10) ≡ b
        → lines_of (x ∷ []) ≡ before_first is_feed (take_through 10 (x ∷ [])) ∷ lines_of (drop_through 10 (x ∷ []))
    at true e = simp e
    at false e = simp e
first_line x (y ∷ ys) = at (x == 10) refl (first_line y ys)
  where
    at : (b : Bool) → (x == 10) ≡ b
        → lines_of (y ∷ ys) ≡ before_first is_feed (take_through 10 (y ∷ ys)) ∷ lines_of (drop_through 10 (y ∷ ys))
        → lines_of (x ∷ y ∷ ys) ≡ before_first is_feed (take_through 10 (x ∷ y ∷ ys)) ∷ lines_of (drop_through 10 (x ∷ y ∷ ys))
    at true e others = simp e
    at false e others =
        simp e (ap (onto_first x) others ∙ ap (λ line. line ∷ lines_of (drop_through 10 (y ∷ ys))) (sym (take_one_more x (take_through 10 (y ∷ ys)) _)))

-- the same of bytes of which something is taken
taken_line : (rest : List ℕ) → 0 < length (take_through 10 rest)
    → lines_of rest ≡ before_first is_feed (take_through 10 rest) ∷ lines_of (drop_through 10 rest)
taken_line [] some = absurd (omega arith)
taken_line (x ∷ xs) some = first_line x xs

module _ (invalid : Invalid) (parts : Bool) (sayer : Sayer) (rest text : List ℕ) (status : ℕ) where
  -- what is shown of the bytes is what is shown of the first line, and of the others where there is more
  first_shown : (b : Bool) → is_last invalid status ≡ b → 0 < length (take_through 10 rest)
      → text ≡ trimmed (before_first is_feed (take_through 10 rest)) → status ≡ status_said (saying sayer text)
      → input_shown invalid parts sayer rest
      ≡ shown invalid parts text (saying sayer text) ++ (if b then [] else input_shown invalid parts sayer (drop_through 10 rest))
  first_shown b last some cut said =
      ap (λ lines. texts_shown invalid parts sayer (map trimmed lines)) (taken_line rest some)
      ∙ ap (λ t. shown invalid parts t (saying sayer t) ++ (if is_last invalid (status_said (saying sayer t)) then []
      else input_shown invalid parts sayer (drop_through 10 rest))) (sym cut)
      ∙ ap (λ s. shown invalid parts text (saying sayer text) ++ (if is_last invalid s then []
      else input_shown invalid parts sayer (drop_through 10 rest))) (sym said)
      ∙ ap (λ c. shown invalid parts text (saying sayer text) ++ (if c then []
      else input_shown invalid parts sayer (drop_through 10 rest))) last

  -- a line and those after it are written
  pub line_and_more : is_last invalid status ≡ false → 0 < length (take_through 10 rest)
      → text ≡ trimmed (before_first is_feed (take_through 10 rest)) → status ≡ status_said (saying sayer text)
      → (before mid after end : Option (List ℕ)) → Appends before mid (shown invalid parts text (saying sayer text)) → Keeps mid after
      → Appends after end (input_shown invalid parts sayer (drop_through 10 rest)) → Appends before end (input_shown invalid parts sayer rest)
  line_and_more last some cut said before mid after end wrote kept more =
      rw (first_shown false last some cut said)
      (Appends-trans before after end (shown invalid parts text (saying sayer text)) (input_shown invalid parts sayer (drop_through 10 rest))
      (Appends-kept before mid after (shown invalid parts text (saying sayer text)) wrote kept) more)

  -- the last line is written
  pub last_line_shown : is_last invalid status ≡ true → 0 < length (take_through 10 rest)
      → text ≡ trimmed (before_first is_feed (take_through 10 rest)) → status ≡ status_said (saying sayer text)
      → (before end : Option (List ℕ)) → Appends before end (shown invalid parts text (saying sayer text))
      → Appends before end (input_shown invalid parts sayer rest)
  last_line_shown last some cut said before end wrote =
      rw (first_shown true last some cut said, append-nil) wrote
