-- The lines of some bytes, as the page on requests gives them.
use Rattle.std.proofs.Common.{◌≡◌, ℕ, List, [], ◌∷◌, Some, refl}
use Rattle.locale_numbers_lines.specs.Lines.{lines_of, whole_lines, output_of}
use Rattle.locale_numbers_lines.specs.Run.{MayReadOnceAnswered}

-- no bytes have no line
pub no_bytes : lines_of [] ≡ []
no_bytes = refl

-- `a` is a line with its feed and without
pub one_unended : lines_of (97 ∷ []) ≡ (97 ∷ []) ∷ []
one_unended = refl

pub one_ended : lines_of (97 ∷ 10 ∷ []) ≡ (97 ∷ []) ∷ []
one_ended = refl

-- a feed alone ends an empty line
pub feed_alone : lines_of (10 ∷ []) ≡ [] ∷ []
feed_alone = refl

-- `a`, feed, feed, `b`: three lines, of which two are whole
pub empty_within : lines_of (97 ∷ 10 ∷ 10 ∷ 98 ∷ []) ≡ (97 ∷ []) ∷ [] ∷ (98 ∷ []) ∷ []
empty_within = refl

pub empty_within-whole : whole_lines (97 ∷ 10 ∷ 10 ∷ 98 ∷ []) ≡ (97 ∷ []) ∷ [] ∷ []
empty_within-whole = refl

-- a carriage return is an ordinary byte
pub return_stays : lines_of (97 ∷ 98 ∷ 13 ∷ 10 ∷ []) ≡ (97 ∷ 98 ∷ 13 ∷ []) ∷ []
return_stays = refl

-- each answer has its feed, also that to a last line with none
pub echo_ended : output_of (λ line. line) (97 ∷ 10 ∷ 98 ∷ []) ≡ 97 ∷ 10 ∷ 98 ∷ 10 ∷ []
echo_ended = refl

-- where a run may read: before anything was told, and with `a` and its feed told where the answer is written
pub read_at_start : (may_read : List ℕ → Type 0) → MayReadOnceAnswered may_read Some Some (λ line. line) (97 ∷ 10 ∷ []) [] → may_read (97 ∷ 10 ∷ [])
read_at_start may_read may = may (97 ∷ 10 ∷ []) [] [] refl refl

pub read_within_a_line : (may_read : List ℕ → Type 0) → MayReadOnceAnswered may_read Some Some (λ line. line) (97 ∷ 10 ∷ []) [] → may_read (10 ∷ [])
read_within_a_line may_read may = may (10 ∷ []) [] (97 ∷ []) refl refl

pub read_after_a_line : (may_read : List ℕ → Type 0) → MayReadOnceAnswered may_read Some Some (λ line. line) (97 ∷ 10 ∷ []) [] → may_read []
read_after_a_line may_read may = may [] (97 ∷ 10 ∷ []) (97 ∷ 10 ∷ []) refl refl
