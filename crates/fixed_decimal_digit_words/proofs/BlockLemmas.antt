-- Blocks of digits: the bytes of a text.
use Rattle.std.proofs.Common.{◌≡◌, ℕ, ◌+◌, ◌*◌, ◌/◌, ◌<◌, ◌≤◌, List, [], ◌∷◌, ◌++◌, length, get_or, map, set, take, drop, sym, ap, ◌∙◌, arith}
use Rattle.std.proofs.lemmas.List.{append_assoc, append-nil, drop_all, drop_more, take_more_set}
use Rattle.std.specs.Char.{digit_value}
use Rattle.fixed_decimal_digit_words.specs.Packed.{packed}

-- one byte more of a text
pub byte_more : (text bytes : List ℕ) (i b : ℕ) → 2 * i + 1 < length text → i < length bytes
    → b ≡ digit_value (get_or text (2 * i) 0) * 16 + digit_value (get_or text (2 * i + 1) 0)
    → take (i + 1) (set bytes i b) ++ packed (map digit_value (drop (2 * (i + 1)) text)) ≡ take i bytes ++ packed (map digit_value (drop (2 * i) text))
byte_more text bytes i b l w e =
    let next : 2 * (i + 1) ≡ 2 * i + 1 + 1 = omega arith in
    let behind = packed (map digit_value (drop (2 * i + 1 + 1) text)) in
    let both : drop (2 * i) text ≡ get_or text (2 * i) 0 ∷ get_or text (2 * i + 1) 0 ∷ drop (2 * i + 1 + 1) text =
    drop_more text (2 * i) 0 (omega arith) ∙ ap (λ t. get_or text (2 * i) 0 ∷ t) (drop_more text (2 * i + 1) 0 l) in
    ap (λ n. take (i + 1) (set bytes i b) ++ packed (map digit_value (drop n text))) next
    ∙ ap (λ t. t ++ behind) (take_more_set bytes i b w)
    ∙ append_assoc (take i bytes) (b ∷ []) behind
    ∙ ap (λ c. take i bytes ++ c ∷ behind) e
    ∙ ap (λ t. take i bytes ++ packed (map digit_value t)) (sym both)

-- no byte is left
pub bytes_whole : (text bytes : List ℕ) (i : ℕ) → length text ≤ 2 * i → 2 * i ≤ length text
    → take i bytes ++ packed (map digit_value (drop (2 * i) text)) ≡ packed (map digit_value text) → take (length text / 2) bytes ≡ packed (map digit_value text)
bytes_whole text bytes i l m e =
    let half : length text / 2 ≡ i = omega arith in
    ap (λ n. take n bytes) half ∙ sym (append-nil (take i bytes))
    ∙ ap (λ t. take i bytes ++ packed (map digit_value t)) (sym (drop_all (2 * i) text l)) ∙ e
