-- Bytes as words: the digits of a word that is made of bytes.
use Rattle.std.proofs.Common.{◌≡◌, ℕ, zero, suc, ◌+◌, ◌*◌, ◌/◌, ◌%◌, ◌^◌, ◌<◌, ◌≤◌, List, [], ◌∷◌, ◌++◌, length, get_or, replicate, take, drop, refl, sym, ap, ◌∙◌, arith, lit≤, w64}
use Rattle.std.proofs.lemmas.List.{append_assoc}
use Rattle.std.proofs.lemmas.Nat.{be_bytes_8}
use Rattle.std.proofs.Math.Nat.{pow-suc, mul_comm, div-div-eq-div-mul, div-add-mod', mod-lt}
use Rattle.std.specs.Int.{byte_at, bytes_high_first, from_be_bytes, to_be_bytes}
use Rattle.fixed_decimal_digit_words.specs.DigitWord.{word_digits, word_bytes}
use Rattle.fixed_decimal_digit_words.specs.Packed.{halves}
use Rattle.fixed_decimal_digit_words.proofs.WordLemmas.{word_pushed, power_positive}
use Rattle.fixed_decimal_digit_words.proofs.NumberWordLemmas.{word_joined}

-- one byte after those of a word
pub byte_pushed : (n w b : ℕ) → b < 256 → word_digits (w * 256 + b) (suc (suc n)) ≡ word_digits w n ++ (b / 16 ∷ b % 16 ∷ [])
byte_pushed n w b h =
    let above : (w * 256 + b) / 16 / 16 ≡ w = omega arith in
    let upper : (w * 256 + b) / 16 % 16 ≡ b / 16 = omega arith in
    let lower : (w * 256 + b) % 16 ≡ b % 16 = omega arith in
    append_assoc (word_digits ((w * 256 + b) / 16 / 16) n) ((w * 256 + b) / 16 % 16 ∷ []) ((w * 256 + b) % 16 ∷ [])
    ∙ (λ i. word_digits (above i) n ++ (upper i ∷ lower i ∷ []))

-- four bytes as a word
pub four_bytes : (a b c d w : ℕ) → a < 256 → b < 256 → c < 256 → d < 256 → w ≡ ((a * 256 + b) * 256 + c) * 256 + d → word_digits w 8 ≡ halves (a ∷ b ∷ c ∷ d ∷ [])
four_bytes a b c d w ha hb hc hd e =
    let first : a ≡ 0 * 256 + a = omega arith in
    ap (λ v. word_digits v 8) e
    ∙ byte_pushed 6 ((a * 256 + b) * 256 + c) d hd
    ∙ ap (λ ds. ds ++ (d / 16 ∷ d % 16 ∷ [])) (byte_pushed 4 (a * 256 + b) c hc)
    ∙ ap (λ ds. (ds ++ (c / 16 ∷ c % 16 ∷ [])) ++ (d / 16 ∷ d % 16 ∷ [])) (byte_pushed 2 a b hb)
    ∙ ap (λ v. ((word_digits v 2 ++ (b / 16 ∷ b % 16 ∷ [])) ++ (c / 16 ∷ c % 16 ∷ [])) ++ (d / 16 ∷ d % 16 ∷ [])) first
    ∙ ap (λ ds. ((ds ++ (b / 16 ∷ b % 16 ∷ [])) ++ (c / 16 ∷ c % 16 ∷ [])) ++ (d / 16 ∷ d % 16 ∷ [])) (byte_pushed 0 0 a ha)

-- no byte, up to three, or four at least
pub none_in : (bytes : List ℕ) (w : ℕ) → length bytes ≡ 0 → w ≡ 0 → word_digits w 8 ≡ take 8 (halves (bytes ++ replicate 8 0))
none_in [] w l e = ap (λ v. word_digits v 8) e
none_in (a ∷ xs) w l e = absurd (omega arith)

pub one_in : (bytes : List ℕ) (w : ℕ) → length bytes ≡ 1 → ((i : ℕ) → get_or bytes i 0 < 256) → w ≡ get_or bytes 0 0 * 16777216 → word_digits w 8 ≡ take 8 (halves (bytes ++ replicate 8 0))
one_in [] w l h e = absurd (omega arith)
one_in (a ∷ []) w l h e = four_bytes a 0 0 0 w (h 0) (omega arith) (omega arith) (omega arith) (omega arith)
one_in (a ∷ b ∷ bs) w l h e = absurd (omega arith)

pub two_in : (bytes : List ℕ) (w : ℕ) → length bytes ≡ 2 → ((i : ℕ) → get_or bytes i 0 < 256) → w ≡ get_or bytes 0 0 * 16777216 + get_or bytes 1 0 * 65536 → word_digits w 8 ≡ take 8 (halves (bytes ++ replicate 8 0))
two_in [] w l h e = absurd (omega arith)
two_in (a ∷ []) w l h e = absurd (omega arith)
two_in (a ∷ b ∷ []) w l h e = four_bytes a b 0 0 w (h 0) (h 1) (omega arith) (omega arith) (omega arith)
two_in (a ∷ b ∷ c ∷ cs) w l h e = absurd (omega arith)

pub three_in : (bytes : List ℕ) (w : ℕ) → length bytes ≡ 3 → ((i : ℕ) → get_or bytes i 0 < 256) → w ≡ get_or bytes 0 0 * 16777216 + get_or bytes 1 0 * 65536 + get_or bytes 2 0 * 256
    → word_digits w 8 ≡ take 8 (halves (bytes ++ replicate 8 0))
three_in [] w l h e = absurd (omega arith)
three_in (a ∷ []) w l h e = absurd (omega arith)
three_in (a ∷ b ∷ []) w l h e = absurd (omega arith)
three_in (a ∷ b ∷ c ∷ []) w l h e = four_bytes a b c 0 w (h 0) (h 1) (h 2) (omega arith) (omega arith)
three_in (a ∷ b ∷ c ∷ d ∷ ds) w l h e = absurd (omega arith)

pub four_in : (bytes : List ℕ) (w : ℕ) → 4 ≤ length bytes → ((i : ℕ) → get_or bytes i 0 < 256) → w ≡ ((get_or bytes 0 0 * 256 + get_or bytes 1 0) * 256 + get_or bytes 2 0) * 256 + get_or bytes 3 0
    → word_digits w 8 ≡ take 8 (halves (bytes ++ replicate 8 0))
four_in [] w l h e = absurd (omega arith)
four_in (a ∷ []) w l h e = absurd (omega arith)
four_in (a ∷ b ∷ []) w l h e = absurd (omega arith)
four_in (a ∷ b ∷ c ∷ []) w l h e = absurd (omega arith)
four_in (a ∷ b ∷ c ∷ d ∷ ds) w l h e = four_bytes a b c d w (h 0) (h 1) (h 2) (h 3) e

zeros_after : (bytes : List ℕ) → length bytes < 4 → take 8 (halves (bytes ++ replicate 8 0)) ++ replicate 8 0 ≡ take 16 (halves (bytes ++ replicate 8 0))
zeros_after [] l = refl
zeros_after (a ∷ []) l = refl
zeros_after (a ∷ b ∷ []) l = refl
zeros_after (a ∷ b ∷ c ∷ []) l = refl
zeros_after (a ∷ b ∷ c ∷ d ∷ ds) l = absurd (omega arith)

-- eight bytes, where there are fewer than four, and where there are more
pub eight_few : (bytes : List ℕ) (w : ℕ) → length bytes < 4 → word_digits w 8 ≡ take 8 (halves (bytes ++ replicate 8 0)) → word_digits (w * 4294967296) 16 ≡ take 16 (halves (bytes ++ replicate 8 0))
eight_few bytes w l e =
    let power : w * 4294967296 ≡ w * 16 ^ 8 + 0 = omega arith in
    ap (λ v. word_digits v 16) power ∙ word_joined 8 8 w 0 (lit≤ tt) ∙ ap (λ ds. ds ++ replicate 8 0) e ∙ zeros_after bytes l

pub eight_more : (bytes front rest : List ℕ) (v w : ℕ) → 4 ≤ length bytes → front ≡ take 4 bytes → rest ≡ drop 4 bytes → w < 4294967296
    → word_digits v 8 ≡ take 8 (halves (front ++ replicate 8 0)) → word_digits w 8 ≡ take 8 (halves (rest ++ replicate 8 0))
    → word_digits (v * 4294967296 + w) 16 ≡ take 16 (halves (bytes ++ replicate 8 0))
eight_more [] front rest v w l f r h p q = absurd (omega arith)
eight_more (a ∷ []) front rest v w l f r h p q = absurd (omega arith)
eight_more (a ∷ b ∷ []) front rest v w l f r h p q = absurd (omega arith)
eight_more (a ∷ b ∷ c ∷ []) front rest v w l f r h p q = absurd (omega arith)
eight_more (a ∷ b ∷ c ∷ d ∷ ds) front rest v w l f r h p q =
    word_joined 8 8 v w h
    ∙ ap (λ ds'. ds' ++ word_digits w 8) (p ∙ ap (λ xs. take 8 (halves (xs ++ replicate 8 0))) f)
    ∙ ap (λ ds'. halves (a ∷ b ∷ c ∷ d ∷ []) ++ ds') (q ∙ ap (λ xs. take 8 (halves (xs ++ replicate 8 0))) r)

pub halves_joined : (xs ys : List ℕ) → halves (xs ++ ys) ≡ halves xs ++ halves ys
halves_joined [] ys = refl
halves_joined (x ∷ xs) ys = ap (λ hs. x / 16 ∷ x % 16 ∷ hs) (halves_joined xs ys)

-- the digits of a word are the halves of its bytes
pub halves_word : (n w : ℕ) → halves (word_bytes w n) ≡ word_digits w (2 * n)
halves_word zero w = refl
halves_word (suc n) w =
    let twice : suc (suc (2 * n)) ≡ 2 * suc n = omega arith in
    let above : w / 256 ≡ w / 16 / 16 = omega arith in
    let upper : w % 256 / 16 ≡ w / 16 % 16 = omega arith in
    let lower : w % 256 % 16 ≡ w % 16 = omega arith in
    halves_joined (word_bytes (w / 256) n) (w % 256 ∷ [])
    ∙ ap (λ ds. ds ++ (w % 256 / 16 ∷ w % 256 % 16 ∷ [])) (halves_word n (w / 256))
    ∙ (λ i. word_digits (above i) (2 * n) ++ (upper i ∷ lower i ∷ []))
    ∙ sym (append_assoc (word_digits (w / 16 / 16) (2 * n)) (w / 16 % 16 ∷ []) (w % 16 ∷ []))
    ∙ ap (word_digits w) twice

high_next : (n w : ℕ) → byte_at (suc n) w ≡ byte_at n (w / 256)
high_next zero w = refl
high_next (suc n) w = ap (λ t. w / t % 256) (pow-suc 256 (suc n) ∙ mul_comm (256 ^ suc n) 256) ∙ ap (λ q. q % 256) (sym (div-div-eq-div-mul w 256 (256 ^ suc n)))

high_push : (n w : ℕ) → bytes_high_first (suc n) w ≡ bytes_high_first n (w / 256) ++ (w % 256 ∷ [])
high_push zero w = refl
high_push (suc n) w = let first = high_next n w in let rest = high_push n w in λ i. first i ∷ rest i

pub high_word : (n w : ℕ) → bytes_high_first n w ≡ word_bytes w n
high_word zero w = refl
high_word (suc n) w = high_push n w ∙ ap (λ bs. bs ++ (w % 256 ∷ [])) (high_word n (w / 256))

pub halves_high : (w : ℕ) → halves (to_be_bytes w64 w) ≡ word_digits w 16
halves_high w = ap halves (high_word 8 w) ∙ halves_word 8 w

taken_small : (n : ℕ) (bytes : List ℕ) → ((i : ℕ) → get_or bytes i 0 < 256) → (i : ℕ) → get_or (take n bytes) i 0 < 256
taken_small zero bytes h i = omega arith
taken_small (suc n) [] h i = omega arith
taken_small (suc n) (b ∷ bs) h zero = h 0
taken_small (suc n) (b ∷ bs) h (suc i) = taken_small n bs (λ j. h (suc j)) i

front_eight : (bytes : List ℕ) → 8 ≤ length bytes → (length (take 8 bytes) ≡ 8) × (halves (take 8 bytes) ≡ take 16 (halves (bytes ++ replicate 8 0)))
front_eight [] l = absurd (omega arith)
front_eight (a ∷ []) l = absurd (omega arith)
front_eight (a ∷ b ∷ []) l = absurd (omega arith)
front_eight (a ∷ b ∷ c ∷ []) l = absurd (omega arith)
front_eight (a ∷ b ∷ c ∷ d ∷ []) l = absurd (omega arith)
front_eight (a ∷ b ∷ c ∷ d ∷ e ∷ []) l = absurd (omega arith)
front_eight (a ∷ b ∷ c ∷ d ∷ e ∷ f ∷ []) l = absurd (omega arith)
front_eight (a ∷ b ∷ c ∷ d ∷ e ∷ f ∷ g ∷ []) l = absurd (omega arith)
front_eight (a ∷ b ∷ c ∷ d ∷ e ∷ f ∷ g ∷ h ∷ hs) l = (omega arith, refl)

-- eight bytes that are all there, as a word
pub eight_loaded : (bytes eight : List ℕ) (w : ℕ) → 8 ≤ length bytes → ((i : ℕ) → get_or bytes i 0 < 256) → eight ≡ take 8 bytes → w ≡ from_be_bytes w64 eight
    → word_digits w 16 ≡ take 16 (halves (bytes ++ replicate 8 0))
eight_loaded bytes eight w l small e loaded =
    let front = front_eight bytes l in
    sym (halves_high w)
    ∙ ap halves (be_bytes_8 (take 8 bytes) w front.0 (taken_small 8 bytes small) (loaded ∙ ap (from_be_bytes w64) e))
    ∙ front.1

-- eight bytes at least, of which the ninth counts no half
pub sixteen_within : (bytes : List ℕ) → take 16 (halves (bytes ++ replicate 8 0)) ≡ take 16 (halves (bytes ++ replicate 9 0))
sixteen_within [] = refl
sixteen_within (a ∷ []) = refl
sixteen_within (a ∷ b ∷ []) = refl
sixteen_within (a ∷ b ∷ c ∷ []) = refl
sixteen_within (a ∷ b ∷ c ∷ d ∷ []) = refl
sixteen_within (a ∷ b ∷ c ∷ d ∷ e ∷ []) = refl
sixteen_within (a ∷ b ∷ c ∷ d ∷ e ∷ f ∷ []) = refl
sixteen_within (a ∷ b ∷ c ∷ d ∷ e ∷ f ∷ g ∷ []) = refl
sixteen_within (a ∷ b ∷ c ∷ d ∷ e ∷ f ∷ g ∷ h ∷ hs) = refl

-- sixteen digits of nine bytes without the first: those of the first eight, and one of the ninth
between_of : (bytes : List ℕ) → drop 1 (take 16 (halves (bytes ++ replicate 8 0))) ++ (get_or bytes 8 0 / 16 ∷ []) ≡ take 16 (drop 1 (halves (bytes ++ replicate 9 0)))
between_of [] = refl
between_of (a ∷ []) = refl
between_of (a ∷ b ∷ []) = refl
between_of (a ∷ b ∷ c ∷ []) = refl
between_of (a ∷ b ∷ c ∷ d ∷ []) = refl
between_of (a ∷ b ∷ c ∷ d ∷ e ∷ []) = refl
between_of (a ∷ b ∷ c ∷ d ∷ e ∷ f ∷ []) = refl
between_of (a ∷ b ∷ c ∷ d ∷ e ∷ f ∷ g ∷ []) = refl
between_of (a ∷ b ∷ c ∷ d ∷ e ∷ f ∷ g ∷ h ∷ []) = refl
between_of (a ∷ b ∷ c ∷ d ∷ e ∷ f ∷ g ∷ h ∷ i ∷ is) = refl

first_gone : (xs : List ℕ) (a b : ℕ) → drop 1 ((xs ++ (a ∷ [])) ++ (b ∷ [])) ≡ drop 1 (xs ++ (a ∷ [])) ++ (b ∷ [])
first_gone [] a b = refl
first_gone (x ∷ xs) a b = refl

-- the digits of a word without its first
rest_of : (n w : ℕ) → drop 1 (word_digits w (suc n)) ≡ word_digits w n
rest_of zero w = refl
rest_of (suc n) w = first_gone (word_digits (w / 16 / 16) n) (w / 16 % 16) (w % 16) ∙ ap (λ ds. ds ++ (w % 16 ∷ [])) (rest_of n (w / 16))

-- the lowest digits of a word
lowest_of : (n w : ℕ) → word_digits (w % 16 ^ n) n ≡ word_digits w n
lowest_of n w =
    let t = 16 ^ n in
    let none : 0 + n ≡ n = omega arith in
    sym (word_joined n 0 (w / t) (w % t) (mod-lt w (power_positive n))) ∙ ap (λ v. word_digits v (0 + n)) (div-add-mod' w t) ∙ ap (word_digits w) none

-- a byte that is not there
pub past_last : (bytes : List ℕ) (i : ℕ) → length bytes ≤ i → get_or bytes i 0 ≡ 0
past_last [] i l = refl
past_last (b ∷ bs) zero l = absurd (omega arith)
past_last (b ∷ bs) (suc i) l = past_last bs i (omega arith)

pub sixteen_between : (bytes : List ℕ) (w v n : ℕ) → n < 16 → word_digits w 16 ≡ take 16 (halves (bytes ++ replicate 8 0)) → n ≡ get_or bytes 8 0 / 16 → v ≡ w % 1152921504606846976 * 16 + n
    → word_digits v 16 ≡ take 16 (drop 1 (halves (bytes ++ replicate 9 0)))
sixteen_between bytes w v n below is ninth e =
    let pushed : word_digits v 16 ≡ word_digits (w % 1152921504606846976) 15 ++ (n ∷ []) = ap (λ u. word_digits u 16) e ∙ word_pushed 15 (w % 1152921504606846976) n below in
    pushed
    ∙ ap (λ ds. ds ++ (n ∷ [])) (lowest_of 15 w ∙ sym (rest_of 15 w) ∙ ap (drop 1) is)
    ∙ ap (λ d. drop 1 (take 16 (halves (bytes ++ replicate 8 0))) ++ (d ∷ [])) ninth
    ∙ between_of bytes
