-- Title case of a word: lowered while the case bit of the first byte is turned.
use Rattle.std.proofs.Common.{◌≡◌, ℕ, zero, suc, ◌+◌, ◌*◌, ◌-◌, ◌^◌, ◌<◌, List, [], ◌∷◌, ◌++◌, length, map, take, drop, replicate, refl, subst, sym, ap, arith, ◌∙◌}
use Rattle.std.specs.Prelude.{bit_xor}
use Rattle.std.specs.Int.Bits.{xor_zero_r}
use Rattle.std.specs.Char.{to_ascii_lowercase, to_ascii_uppercase}
use Rattle.std.specs.Str.{IsAscii}
use Rattle.std.proofs.lemmas.List.{append-nil, drop_all, length-map, map-append, take_at}
use Rattle.std.proofs.lemmas.Nat.{xor_block, xor_lt}
use Rattle.tinystr_words.specs.Words.{word_bytes, word_of, filled, map_first}
use Rattle.tinystr_words.proofs.Lanes.{tried_same}
use Rattle.tinystr_words.proofs.FlagLaws.{word_of_bytes, length-word_bytes, bytes_of_word}
use Rattle.tinystr_words.proofs.CutLaws.{NUL}

-- the case bit of the first byte turned
abbrev pub turn_first : List ℕ → List ℕ
turn_first [] = []
turn_first (b ∷ bs) = bit_xor b 32 ∷ bs

turned_number : (b : ℕ) (bs : List ℕ) → b < 256 → bit_xor (word_of (b ∷ bs)) 32 ≡ word_of (bit_xor b 32 ∷ bs)
turned_number b bs small =
    let whole : b + 256 * word_of bs ≡ word_of bs * 2 ^ 8 + b = omega arith in
    let cut : bit_xor (word_of bs * 2 ^ 8 + b) (0 * 2 ^ 8 + 32) ≡ bit_xor (word_of bs) 0 * 2 ^ 8 + bit_xor b 32 =
    xor_block 8 (word_of bs) 0 b 32 small (omega arith) in
    ap (λ n. bit_xor n 32) whole ∙ cut ∙ (λ i. xor_zero_r (word_of bs) i * 2 ^ 8 + bit_xor b 32) ∙ omega arith

IsAscii-turned : (bs : List ℕ) → IsAscii bs → IsAscii (turn_first bs)
IsAscii-turned [] s i = s i
IsAscii-turned (b ∷ bs) s zero = xor_lt 7 b 32 (s 0) (omega arith)
IsAscii-turned (b ∷ bs) s (suc i) = s (suc i)

turned_bytes : (w : ℕ) (bs : List ℕ) → w ≡ word_of bs → length bs ≡ 8 → IsAscii bs → word_bytes (bit_xor w 32) ≡ turn_first bs
turned_bytes w [] is long s = absurd (omega (arith, long))
turned_bytes w (b ∷ bs) is long s =
    bytes_of_word (bit_xor w 32) (turn_first (b ∷ bs)) long (λ i. omega (arith, IsAscii-turned (b ∷ bs) s i))
    (ap (λ n. bit_xor n 32) is ∙ turned_number b bs (omega (arith, s 0)))

pub word_turned : (w : ℕ) → w < 2 ^ 64 → IsAscii (word_bytes w) → word_bytes (bit_xor w 32) ≡ turn_first (word_bytes w)
word_turned w small s = turned_bytes w (word_bytes w) (sym (word_of_bytes w small)) (length-word_bytes w) s

pub ascii_turned : (w : ℕ) → w < 2 ^ 64 → IsAscii (word_bytes w) → IsAscii (word_bytes (bit_xor w 32))
ascii_turned w small s = subst IsAscii (sym (word_turned w small s)) (IsAscii-turned (word_bytes w) s)

pub part_turned : (w : ℕ) → w < 2 ^ 56 → bit_xor w 32 < 2 ^ 56
part_turned w part = xor_lt 56 w 32 part (omega arith)

IsAscii-lowered : (bs : List ℕ) → IsAscii bs → IsAscii (map to_ascii_lowercase bs)
IsAscii-lowered [] s i = s i
IsAscii-lowered (b ∷ bs) s zero = let small = s 0 in grind (arith, small)
IsAscii-lowered (b ∷ bs) s (suc i) = IsAscii-lowered bs (λ j. s (suc j)) i

raised : (b : ℕ) → b < 128 → bit_xor (to_ascii_lowercase (bit_xor b 32)) 32 ≡ to_ascii_uppercase b
raised b small = tried_same 128 (λ x. bit_xor (to_ascii_lowercase (bit_xor x 32)) 32) to_ascii_uppercase refl b small

first_raised : (bs : List ℕ) → IsAscii bs → turn_first (map to_ascii_lowercase (turn_first bs)) ≡ map_first to_ascii_uppercase to_ascii_lowercase bs
first_raised [] s = refl
first_raised (b ∷ bs) s = λ i. raised b (s 0) i ∷ map to_ascii_lowercase bs

-- turned, lowered and turned back
pub titled : (w l : ℕ) → w < 2 ^ 64 → l < 2 ^ 64 → IsAscii (word_bytes w) → word_bytes l ≡ map to_ascii_lowercase (word_bytes (bit_xor w 32))
    → word_bytes (bit_xor l 32) ≡ map_first to_ascii_uppercase to_ascii_lowercase (word_bytes w)
titled w l small fits s lowered =
    let is : word_bytes l ≡ map to_ascii_lowercase (turn_first (word_bytes w)) = lowered ∙ ap (map to_ascii_lowercase) (word_turned w small s) in
    let low : IsAscii (word_bytes l) = subst IsAscii (sym is) (IsAscii-lowered (turn_first (word_bytes w)) (IsAscii-turned (word_bytes w) s)) in
    word_turned l fits low ∙ ap turn_first is ∙ first_raised (word_bytes w) s

-- ---- the front of a slice
filled_title : (f g : ℕ → ℕ) (bs : List ℕ) → take (length bs) (map_first f g (filled bs)) ≡ map_first f g bs
unfolding filled
filled_title f g [] = refl
filled_title f g (b ∷ bs) =
    let nuls = replicate (8 - length (b ∷ bs)) NUL in
    ap (λ l. f b ∷ l) (ap (take (length bs)) (map-append g bs nuls) ∙ take_at (map g bs) (map g nuls) (length bs) (length-map bs g))

length-map_first : (f g : ℕ → ℕ) (bs : List ℕ) → length (map_first f g bs) ≡ length bs
length-map_first f g [] = refl
length-map_first f g (b ∷ bs) = ap suc (length-map bs g)

pub front_titled : (f g : ℕ → ℕ) (front eight new : List ℕ) → eight ≡ map_first f g (filled front)
    → new ≡ take 0 front ++ (take (length front) eight ++ drop (0 + length (take (length front) eight)) front) → new ≡ map_first f g front
front_titled f g front eight new is e =
    let text : take (length front) eight ≡ map_first f g front = ap (take (length front)) is ∙ filled_title f g front in
    let long : 0 + length (take (length front) eight) ≡ length front = omega (arith, ap length text, length-map_first f g front) in
    e ∙ (λ i. text i ++ drop (long i) front) ∙ ap (λ l. map_first f g front ++ l) (drop_all (length front) front (omega arith)) ∙ append-nil (map_first f g front)

-- a front that is empty only where all is, and what is after it
pub title_cut : (f g : ℕ → ℕ) (all front rest : List ℕ) → all ≡ front ++ rest → (length front ≡ 0 → length rest ≡ 0)
    → map_first f g front ++ map g rest ≡ map_first f g all
title_cut f g all (b ∷ front) rest e some = ap (λ l. f b ∷ l) (sym (map-append g front rest)) ∙ ap (map_first f g) (sym e)
title_cut f g all [] [] e some = ap (map_first f g) (sym e)
title_cut f g all [] (x ∷ rest) e some = absurd (omega (arith, some refl))
