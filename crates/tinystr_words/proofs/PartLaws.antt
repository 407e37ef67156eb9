-- Words of at most seven bytes, changed by sums of the doubled word.
use Rattle.std.proofs.Common.{◌≡◌, ℕ, ◌+◌, ◌*◌, ◌/◌, ◌-◌, ◌^◌, ◌≤◌, ◌<◌, Bool, List, length, map, refl, sym, ap, arith, ◌∙◌}
use Rattle.std.specs.Prelude.{bit_and, bit_xor, nat_le}
use Rattle.std.specs.Int.{is_in_range}
use Rattle.std.specs.Str.{IsAscii}
use Rattle.std.proofs.lemmas.Nat.{and_block, xor_block}
use Rattle.tinystr_words.specs.Words.{word_bytes, word_of, flags, filled}
use Rattle.tinystr_words.proofs.Lanes.{Fits}
use Rattle.tinystr_words.proofs.FlagLaws.{turn, turned, word_of_bytes, flags_from_word, flags_between}
use Rattle.tinystr_words.proofs.ShortLaws.{room_for_one, filled_number}

-- no high bit is lost where the last byte has none
twice_and : (s : ℕ) → s < 2 ^ 63 → bit_and (2 * s) 0x0101_0101_0101_0100 ≡ 2 * bit_and s 0x8080_8080_8080_8080
twice_and s small =
    let whole : 0 * 2 ^ 63 + s ≡ s = omega arith in
    let high = and_block 63 0 1 s 0x0080_8080_8080_8080 small (omega arith) in
    let last : bit_and s 0x8080_8080_8080_8080 ≡ bit_and s 0x0080_8080_8080_8080 =
    ap (λ n. bit_and n 0x8080_8080_8080_8080) (sym whole) ∙ high ∙ omega arith in
    let double : s * 2 ^ 1 + 0 ≡ 2 * s = omega arith in
    let moved = and_block 1 s 0x0080_8080_8080_8080 0 0 (omega arith) (omega arith) in
    let twice : bit_and (2 * s) 0x0101_0101_0101_0100 ≡ bit_and s 0x0080_8080_8080_8080 * 2 ^ 1 + 0 =
    ap (λ n. bit_and n 0x0101_0101_0101_0100) (sym double) ∙ moved in
    omega (arith, last, twice)

pub twice_from_word : (low k w : ℕ) → low ≤ 128 → 2 ≤ low → w < 2 ^ 56 → k ≡ 128 - low → IsAscii (word_bytes w)
    → bit_and (w + w + k * 0x0202_0202_0202_0202) 0x0101_0101_0101_0100 ≡ 2 * flags (nat_le low) (word_bytes w)
twice_from_word low k w fits some part is s =
    let sum : w + w + k * 0x0202_0202_0202_0202 ≡ 2 * (w + k * 0x0101_0101_0101_0101) = omega arith in
    ap (λ n. bit_and n 0x0101_0101_0101_0100) sum
    ∙ twice_and (w + k * 0x0101_0101_0101_0101) (omega (arith, part, is, some))
    ∙ ap (λ n. 2 * n) (flags_from_word low k w fits (omega (arith, part)) is s)

twice_xor : (m n : ℕ) → bit_xor (2 * m) (2 * n) ≡ 2 * bit_xor m n
twice_xor m n =
    let one : m * 2 ^ 1 + 0 ≡ 2 * m = omega arith in
    let two : n * 2 ^ 1 + 0 ≡ 2 * n = omega arith in
    let moved : bit_xor (m * 2 ^ 1 + 0) (n * 2 ^ 1 + 0) ≡ bit_xor m n * 2 ^ 1 + 0 = xor_block 1 m n 0 0 (omega arith) (omega arith) in
    (λ i. bit_xor (sym one i) (sym two i)) ∙ moved ∙ omega arith

pub twice_between : (low high m n : ℕ) (xs : List ℕ) → low ≤ high → IsAscii xs
    → m ≡ 2 * flags (nat_le low) xs → n ≡ 2 * flags (nat_le (high + 1)) xs
    → bit_xor m n ≡ 2 * flags (is_in_range low high) xs
twice_between low high m n xs order s one two =
    (λ i. bit_xor (one i) (two i)) ∙ twice_xor (flags (nat_le low) xs) (flags (nat_le (high + 1)) xs)
    ∙ ap (λ k. 2 * k) (flags_between low high xs order s)

-- bytes whose case bit is turned where a test holds, by flags that are doubled
pub turned_by_twice : (p : ℕ → Bool) (f : ℕ → ℕ) (w t : ℕ) → w < 2 ^ 64 → IsAscii (word_bytes w) → t ≡ 2 * flags p (word_bytes w) → Fits f
    → ((b : ℕ) → b < 128 → bit_xor b (turn (p b)) ≡ f b) → word_bytes (bit_xor w (t / 8)) ≡ map f (word_bytes w)
turned_by_twice p f w t small s is fits e =
    let quarter : t / 8 ≡ flags p (word_bytes w) / 4 = omega (arith, is) in
    ap (λ q. word_bytes (bit_xor w q)) quarter ∙ turned p f w (flags p (word_bytes w)) small s refl fits e

-- the word of at most seven bytes leaves its last one free
pub part_below : (bs : List ℕ) (w : ℕ) → w < 2 ^ 64 → length bs ≤ 7 → IsAscii bs → word_bytes w ≡ filled bs → w < 2 ^ 56
part_below bs w small short s e =
    let number : w ≡ word_of bs = sym (word_of_bytes w small) ∙ ap word_of e ∙ filled_number bs in
    omega (arith, number, room_for_one bs (λ i. omega (arith, s i)) short)
