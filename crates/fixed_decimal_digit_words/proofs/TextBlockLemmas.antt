-- Blocks of digits: the text of a block of bytes.
use Rattle.std.proofs.Common.{◌≡◌, ℕ, ◌+◌, ◌*◌, ◌/◌, ◌%◌, ◌<◌, ◌≤◌, List, ◌∷◌, ◌++◌, length, get_or, map, set, take, drop, sym, ap, ◌∙◌}
use Rattle.std.proofs.lemmas.List.{drop_all, drop_more}
use Rattle.fixed_decimal_digit_words.specs.DigitText.{character}
use Rattle.fixed_decimal_digit_words.specs.Packed.{halves}
use Rattle.fixed_decimal_digit_words.proofs.HalvesLemmas.{put_two, filled}

-- the two characters of one byte more
pub two_more : (bytes text : List ℕ) (i u v : ℕ) → i < length bytes → 2 * i + 1 < length text → u ≡ character (get_or bytes i 0 / 16) → v ≡ character (get_or bytes i 0 % 16)
    → take (2 * (i + 1)) (set (set text (2 * i) u) (2 * i + 1) v) ++ map character (halves (drop (i + 1) bytes)) ≡ take (2 * i) text ++ map character (halves (drop i bytes))
two_more bytes text i u v l w e f =
    let behind = map character (halves (drop (i + 1) bytes)) in
    put_two text behind i u v w
    ∙ (λ k. take (2 * i) text ++ e k ∷ f k ∷ behind)
    ∙ ap (λ b. take (2 * i) text ++ map character (halves b)) (sym (drop_more bytes i 0 l))

-- no byte is left
pub text_whole : (bytes text : List ℕ) (i : ℕ) → length bytes ≤ i → length text ≤ 2 * i
    → take (2 * i) text ++ map character (halves (drop i bytes)) ≡ map character (halves bytes) → text ≡ map character (halves bytes)
text_whole bytes text i l m e =
    filled text (map character (halves (drop i bytes))) (map character (halves bytes)) (2 * i) m (ap (λ b. map character (halves b)) (drop_all i bytes l)) e
