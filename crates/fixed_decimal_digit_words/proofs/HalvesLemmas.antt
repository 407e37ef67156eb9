-- The halves of bytes, put into a list two at a time.
use Rattle.std.proofs.Common.{◌≡◌, ℕ, ◌+◌, ◌*◌, ◌/◌, ◌%◌, ◌<◌, ◌≤◌, List, [], ◌∷◌, ◌++◌, length, get_or, set, take, drop, sym, ap, ◌∙◌, arith}
use Rattle.std.proofs.lemmas.List.{append_assoc, append-nil, drop_all, take_all, take_at, drop_more, take_more_set, length-set}
use Rattle.fixed_decimal_digit_words.specs.Packed.{halves}

-- two values after those that are there
pub put_two : (xs behind : List ℕ) (i u v : ℕ) → 2 * i + 1 < length xs → take (2 * (i + 1)) (set (set xs (2 * i) u) (2 * i + 1) v) ++ behind ≡ take (2 * i) xs ++ u ∷ v ∷ behind
put_two xs behind i u v w =
    let next : 2 * (i + 1) ≡ 2 * i + 1 + 1 = omega arith in
    let first = set xs (2 * i) u in
    let size : length first ≡ length xs = length-set xs (2 * i) u in
    ap (λ n. take n (set first (2 * i + 1) v) ++ behind) next
    ∙ ap (λ t. t ++ behind) (take_more_set first (2 * i + 1) v (omega (arith, size, w)))
    ∙ append_assoc (take (2 * i + 1) first) (v ∷ []) behind
    ∙ ap (λ t. t ++ v ∷ behind) (take_more_set xs (2 * i) u (omega arith))
    ∙ append_assoc (take (2 * i) xs) (u ∷ []) (v ∷ behind)

-- the two halves of one byte more
pub two_halves : (bytes block : List ℕ) (i u v : ℕ) → i < length bytes → 2 * i + 1 < length block → u ≡ get_or bytes i 0 / 16 → v ≡ get_or bytes i 0 % 16
    → take (2 * (i + 1)) (set (set block (2 * i) u) (2 * i + 1) v) ++ halves (drop (i + 1) bytes) ≡ take (2 * i) block ++ halves (drop i bytes)
two_halves bytes block i u v l w e f =
    put_two block (halves (drop (i + 1) bytes)) i u v w
    ∙ (λ k. take (2 * i) block ++ e k ∷ f k ∷ halves (drop (i + 1) bytes))
    ∙ ap (λ b. take (2 * i) block ++ halves b) (sym (drop_more bytes i 0 l))

-- the lower half of one byte more, and the upper one of the byte after it
pub two_between : (bytes block : List ℕ) (i u v : ℕ) → i + 1 < length bytes → 2 * i + 1 < length block → u ≡ get_or bytes i 0 % 16 → v ≡ get_or bytes (i + 1) 0 / 16
    → take (2 * (i + 1)) (set (set block (2 * i) u) (2 * i + 1) v) ++ drop 1 (halves (drop (i + 1) bytes)) ≡ take (2 * i) block ++ drop 1 (halves (drop i bytes))
two_between bytes block i u v l w e f =
    let here = get_or bytes i 0 in
    let behind = drop_more bytes (i + 1) 0 l in
    put_two block (drop 1 (halves (drop (i + 1) bytes))) i u v w
    ∙ (λ k. take (2 * i) block ++ e k ∷ f k ∷ drop 1 (halves (drop (i + 1) bytes)))
    ∙ ap (λ b. take (2 * i) block ++ (here % 16) ∷ (get_or bytes (i + 1) 0 / 16) ∷ drop 1 (halves b)) behind
    ∙ ap (λ b. take (2 * i) block ++ drop 1 (halves (here ∷ b))) (sym behind)
    ∙ ap (λ b. take (2 * i) block ++ drop 1 (halves b)) (sym (drop_more bytes i 0 (omega arith)))

-- a list is full, and nothing is after it
pub filled : (xs behind whole : List ℕ) (n : ℕ) → length xs ≤ n → behind ≡ [] → take n xs ++ behind ≡ whole → xs ≡ whole
filled xs behind whole n l none e =
    sym (append-nil xs) ∙ ap (λ t. t ++ []) (sym (take_all n xs l)) ∙ ap (λ t. take n xs ++ t) (sym none) ∙ e

-- no byte is left
pub halves_filled : (bytes block : List ℕ) (i : ℕ) → length bytes ≤ i → length block ≤ 2 * i → take (2 * i) block ++ halves (drop i bytes) ≡ halves bytes → block ≡ halves bytes
halves_filled bytes block i l m e = filled block (halves (drop i bytes)) (halves bytes) (2 * i) m (ap halves (drop_all i bytes l)) e

-- only the lower half of the last byte is left
pub between_filled : (bytes block : List ℕ) (i : ℕ) → 8 ≤ i → length block ≡ 16 → take (2 * i) block ++ drop 1 (halves (drop i bytes)) ≡ drop 1 (halves bytes) → block ≡ take 16 (drop 1 (halves bytes))
between_filled bytes block i l m e =
    let behind = drop 1 (halves (drop i bytes)) in
    sym (take_at block behind 16 m) ∙ ap (take 16) (ap (λ t. t ++ behind) (sym (take_all (2 * i) block (omega (arith, m, l)))) ∙ e)
