-- Forty-eight digits of bytes at once.
use Rattle.std.proofs.Common.{◌≡◌, ℕ, zero, suc, ◌+◌, ◌*◌, ◌≤◌, List, [], ◌++◌, length, take, drop, replicate, subst, sym, ap, ◌∙◌, arith}
use Rattle.std.proofs.lemmas.List.{append-nil, take_all, take_at, take-append-le, drop-append-le}
use Rattle.std.specs.Int.Digits.{AllBelowBase}
use Rattle.fixed_decimal_digit_words.specs.Packed.{halves, digits_in, IsPacked}
use Rattle.fixed_decimal_digit_words.proofs.DigitsLemmas.{below_take, below_drop}
use Rattle.fixed_decimal_digits.proofs.HalvesLemmas.{digits_padded}

-- a list that is full has what it holds
full : (block behind whole : List ℕ) (i : ℕ) → length block ≡ 48 → 24 ≤ i → take (2 * i) block ++ behind ≡ whole → block ≡ take 48 whole
full block behind whole i size done e =
    sym (take_at block behind 48 size) ∙ ap (take 48) (ap (λ t. t ++ behind) (sym (take_all (2 * i) block (omega (arith, size, done)))) ∙ e)

pub chunk_whole : (bytes block : List ℕ) (i : ℕ) → length block ≡ 48 → 24 ≤ i → take (2 * i) block ++ halves (drop i bytes) ≡ halves bytes → block ≡ take 48 (halves bytes)
chunk_whole bytes block i size done e = full block (halves (drop i bytes)) (halves bytes) i size done e

pub between_whole : (bytes block : List ℕ) (i : ℕ) → length block ≡ 48 → 24 ≤ i → take (2 * i) block ++ drop 1 (halves (drop i bytes)) ≡ drop 1 (halves bytes) → block ≡ take 48 (drop 1 (halves bytes))
between_whole bytes block i size done e = full block (drop 1 (halves (drop i bytes))) (drop 1 (halves bytes)) i size done e

-- they are those of the list from an index on
pub chunk_is : (bytes rest : List ℕ) (count k s i : ℕ) → i ≡ 2 * k + s → i + 48 ≤ count → count ≤ 2 * length bytes → rest ≡ drop k bytes
    → take 48 (drop s (halves rest)) ≡ take 48 (drop i (digits_in bytes count))
chunk_is bytes rest count k s i at fits whole e =
    ap (λ r. take 48 (drop s (halves r))) (sym (append-nil rest)) ∙ digits_padded bytes rest [] count k s 48 i at fits whole e

pub chunk_tens : (bytes chunk : List ℕ) (count i : ℕ) → IsPacked bytes count → chunk ≡ take 48 (drop i (digits_in bytes count)) → AllBelowBase 10 chunk
chunk_tens bytes chunk count i p e = subst (AllBelowBase 10) (sym e) (below_take 48 (drop i (digits_in bytes count)) (below_drop i (digits_in bytes count) p.tens))

-- they are the next of a run that no zeros are before, and what is left
pub run_taken : (zeros : ℕ) (inside behind : List ℕ) → zeros ≡ 0 → 48 ≤ length inside → take 48 (replicate zeros 0 ++ (inside ++ behind)) ≡ take 48 inside
run_taken zero inside behind none many = take-append-le 48 inside behind many
run_taken (suc zeros) inside behind none many = absurd (omega (arith, none))

pub run_left : (zeros : ℕ) (inside behind : List ℕ) → zeros ≡ 0 → 48 ≤ length inside → drop 48 (replicate zeros 0 ++ (inside ++ behind)) ≡ replicate zeros 0 ++ (drop 48 inside ++ behind)
run_left zero inside behind none many = drop-append-le 48 inside behind many
run_left (suc zeros) inside behind none many = absurd (omega (arith, none))
