-- The kernels of one word, byte by byte: flags, classes, case changes.
use Rattle.std.proofs.Common.{◌≡◌, ℕ, zero, suc, ◌+◌, ◌*◌, ◌/◌, ◌-◌, ◌^◌, ◌≤◌, ◌<◌, Bool, true, false, not, ◌&&◌, ◌||◌, cond, List, [], ◌∷◌, map, length, get_or, nat_eq, refl, sym, ap, arith, ◌∙◌}
use Rattle.std.specs.Prelude.{bit_and, bit_or, bit_xor, nat_le}
use Rattle.std.specs.Int.{is_in_range}
use Rattle.std.specs.List.{list_all}
use Rattle.std.specs.Str.{IsAscii}
use Rattle.std.proofs.lemmas.Bool.Decides.{nat_tests}
use Rattle.std.proofs.lemmas.List.{length-map}
use Rattle.std.proofs.lemmas.Nat.{le_bytes_8, from_le_bytes-to_le_bytes_8}
use Rattle.tinystr_words.specs.Words.{word_bytes, word_of, flag, flags, or_nul}
use Rattle.tinystr_words.proofs.Lanes.{Fits, add_lanes, and_lanes, or_lanes, xor_lanes, same_lanes, same_word, spread, tried_same}

-- ---- a word and its bytes
pub word_of_bytes : (w : ℕ) → w < 2 ^ 64 → word_of (word_bytes w) ≡ w
unfolding word_bytes
word_of_bytes w fits = omega (arith, from_le_bytes-to_le_bytes_8 w fits)

pub length-word_bytes : (w : ℕ) → length (word_bytes w) ≡ 8
unfolding word_bytes
length-word_bytes w = refl

pub bytes_of_word : (w : ℕ) (ys : List ℕ) → length ys ≡ 8 → ((i : ℕ) → get_or ys i 0 < 256) → w ≡ word_of ys → word_bytes w ≡ ys
unfolding word_bytes
bytes_of_word w (a ∷ b ∷ c ∷ d ∷ e ∷ f ∷ g ∷ h ∷ []) long small is = le_bytes_8 (a ∷ b ∷ c ∷ d ∷ e ∷ f ∷ g ∷ h ∷ []) w refl small (omega (arith, is))
bytes_of_word w [] long small is = absurd (omega (arith, long))
bytes_of_word w (a ∷ []) long small is = absurd (omega (arith, long))
bytes_of_word w (a ∷ b ∷ []) long small is = absurd (omega (arith, long))
bytes_of_word w (a ∷ b ∷ c ∷ []) long small is = absurd (omega (arith, long))
bytes_of_word w (a ∷ b ∷ c ∷ d ∷ []) long small is = absurd (omega (arith, long))
bytes_of_word w (a ∷ b ∷ c ∷ d ∷ e ∷ []) long small is = absurd (omega (arith, long))
bytes_of_word w (a ∷ b ∷ c ∷ d ∷ e ∷ f ∷ []) long small is = absurd (omega (arith, long))
bytes_of_word w (a ∷ b ∷ c ∷ d ∷ e ∷ f ∷ g ∷ []) long small is = absurd (omega (arith, long))
bytes_of_word w (a ∷ b ∷ c ∷ d ∷ e ∷ f ∷ g ∷ h ∷ i ∷ more) long small is = absurd (omega (arith, long))

-- ---- the sum of all kernels
high_bit : (b : ℕ) → b < 256 → bit_and b 128 ≡ flag (nat_le 128 b)
high_bit b l = tried_same 256 (λ x. bit_and x 128) (λ x. flag (nat_le 128 x)) refl b l

reached : (low b : ℕ) → low ≤ 128 → nat_le 128 (b + (128 - low)) ≡ nat_le low b
reached low b fits = grind (arith, nat_tests)

flags_from_bytes : (low : ℕ) (xs : List ℕ) → low ≤ 128 → length xs ≡ 8 → IsAscii xs
    → bit_and (word_of xs + (128 - low) * 0x0101_0101_0101_0101) 0x8080_8080_8080_8080 ≡ flags (nat_le low) xs
flags_from_bytes low xs fits long s =
    let k = 128 - low in
    let sum : word_of xs + k * 0x0101_0101_0101_0101 ≡ word_of (map (λ b. b + k) xs) =
    (λ i. sym (same_word xs) i + sym (spread k xs long) i) ∙ add_lanes (λ b. b) (λ _. k) xs in
    let high : word_of (map (λ _. 128) xs) ≡ 0x8080_8080_8080_8080 = spread 128 xs long in
    let bound : Fits (λ b. b + k) = λ b l. omega arith in
    (λ i. bit_and (sum i) (sym high i))
    ∙ and_lanes (λ b. b + k) (λ _. 128) bound (λ _ _. omega arith) xs s
    ∙ ap word_of (same_lanes _ (λ b. flag (nat_le low b)) (λ b l. high_bit (b + k) (bound b l) ∙ ap flag (reached low b fits)) xs s)

pub flags_from_word : (low k w : ℕ) → low ≤ 128 → w < 2 ^ 64 → k ≡ 128 - low → IsAscii (word_bytes w)
    → bit_and (w + k * 0x0101_0101_0101_0101) 0x8080_8080_8080_8080 ≡ flags (nat_le low) (word_bytes w)
flags_from_word low k w fits small is s =
    (λ i. bit_and (sym (word_of_bytes w small) i + is i * 0x0101_0101_0101_0101) 0x8080_8080_8080_8080)
    ∙ flags_from_bytes low (word_bytes w) fits (length-word_bytes w) s

-- a word of ASCII bytes has no high bit
low_lanes : (xs : List ℕ) → IsAscii xs → word_of xs ≤ word_of (map (λ _. 127) xs)
low_lanes [] s = omega arith
low_lanes (x ∷ xs) s = omega (arith, s 0, low_lanes xs (λ i. s (suc i)))

pub word_below : (w : ℕ) → w < 2 ^ 64 → IsAscii (word_bytes w) → w ≤ 0x7f7f_7f7f_7f7f_7f7f
word_below w small s =
    omega (arith, word_of_bytes w small, low_lanes (word_bytes w) s, spread 127 (word_bytes w) (length-word_bytes w))

-- ---- flags joined
flag_fits : (p : ℕ → Bool) → Fits (λ b. flag (p b))
flag_fits p b l = by (p b)
  where
    by : (t : Bool) → flag t < 256
    by true = omega arith
    by false = omega arith

xor_flag : (s t : Bool) → (t ≡ true → s ≡ true) → bit_xor (flag s) (flag t) ≡ flag (s && not t)
xor_flag true true h = refl
xor_flag true false h = refl
xor_flag false true h = let e : false ≡ true = h refl in cc
xor_flag false false h = refl

between : (low high b : ℕ) → low ≤ high → (nat_le low b && not (nat_le (high + 1) b)) ≡ is_in_range low high b
between low high b order = grind (arith, nat_tests)

above : (low high b : ℕ) → low ≤ high → nat_le (high + 1) b ≡ true → nat_le low b ≡ true
above low high b order h = grind (arith, nat_tests, h)

pub flags_between : (low high : ℕ) (xs : List ℕ) → low ≤ high → IsAscii xs
    → bit_xor (flags (nat_le low) xs) (flags (nat_le (high + 1)) xs) ≡ flags (is_in_range low high) xs
flags_between low high xs order s =
    xor_lanes (λ b. flag (nat_le low b)) (λ b. flag (nat_le (high + 1) b)) (flag_fits (nat_le low)) (flag_fits (nat_le (high + 1))) xs s
    ∙ ap word_of (same_lanes _ (λ b. flag (is_in_range low high b))
    (λ b l. xor_flag (nat_le low b) (nat_le (high + 1) b) (above low high b order) ∙ ap flag (between low high b order)) xs s)

or_flag : (s t : Bool) → bit_or (flag s) (flag t) ≡ flag (s || t)
or_flag true true = refl
or_flag true false = refl
or_flag false true = refl
or_flag false false = refl

-- a test that holds where one of two does
pub flags_either : (p q r : ℕ → Bool) → ((b : ℕ) → (p b || q b) ≡ r b) → (xs : List ℕ) → IsAscii xs
    → bit_or (flags p xs) (flags q xs) ≡ flags r xs
flags_either p q r e xs s =
    or_lanes (λ b. flag (p b)) (λ b. flag (q b)) (flag_fits p) (flag_fits q) xs s
    ∙ ap word_of (same_lanes _ (λ b. flag (r b)) (λ b l. or_flag (p b) (q b) ∙ ap flag (e b)) xs s)

-- ---- flags compared
none_step : (t : Bool) (n : ℕ) → nat_eq (flag t + 256 * n) 0 ≡ (not t && nat_eq n 0)
none_step true n = grind (arith, nat_tests)
none_step false n = grind (arith, nat_tests)

pub no_flags : (p : ℕ → Bool) (xs : List ℕ) → nat_eq (flags p xs) 0 ≡ list_all (λ b. not (p b)) xs
no_flags p [] = refl
no_flags p (x ∷ xs) = none_step (p x) (flags p xs) ∙ ap (λ t. not (p x) && t) (no_flags p xs)

abbrev alike : Bool → Bool → Bool
alike s t = cond s t (not t)

same_step : (s t : Bool) (m n : ℕ) → nat_eq (flag s + 256 * m) (flag t + 256 * n) ≡ (alike s t && nat_eq m n)
same_step true true m n = grind (arith, nat_tests)
same_step true false m n = grind (arith, nat_tests)
same_step false true m n = grind (arith, nat_tests)
same_step false false m n = grind (arith, nat_tests)

some_byte : (b : ℕ) → nat_le 1 b ≡ not (nat_eq b 0)
some_byte b = grind (arith, nat_tests)

alike_or : (z t : Bool) → (z ≡ true → t ≡ false) → alike t (not z) ≡ (z || t)
alike_or true true h = let e : true ≡ false = h refl in cc
alike_or true false h = refl
alike_or false true h = refl
alike_or false false h = refl

no_class_of_nul : (p : ℕ → Bool) → p 0 ≡ false → (b : ℕ) → nat_eq b 0 ≡ true → p b ≡ false
no_class_of_nul p none b h = let e : b ≡ 0 = grind (arith, nat_tests, h) in ap p e ∙ none

pub all_flags : (p : ℕ → Bool) → p 0 ≡ false → (xs : List ℕ) → nat_eq (flags p xs) (flags (nat_le 1) xs) ≡ list_all (or_nul p) xs
all_flags p none [] = refl
all_flags p none (x ∷ xs) =
    same_step (p x) (nat_le 1 x) (flags p xs) (flags (nat_le 1) xs)
    ∙ (λ i. alike (p x) (some_byte x i) && all_flags p none xs i)
    ∙ ap (λ t. t && list_all (or_nul p) xs) (alike_or (nat_eq x 0) (p x) (no_class_of_nul p none x))

-- ---- case changes
abbrev pub turn : Bool → ℕ
turn holds = cond holds 32 0

quarter_of : (t : Bool) → flag t ≡ 4 * turn t
quarter_of true = refl
quarter_of false = refl

quarter : (p : ℕ → Bool) (xs : List ℕ) → flags p xs ≡ 4 * word_of (map (λ b. turn (p b)) xs)
quarter p [] = refl
quarter p (x ∷ xs) = omega (arith, quarter_of (p x), quarter p xs)

turn_fits : (p : ℕ → Bool) → Fits (λ b. turn (p b))
turn_fits p b l = by (p b)
  where
    by : (t : Bool) → turn t < 256
    by true = omega arith
    by false = omega arith

mapped_bytes : (f : ℕ → ℕ) → Fits f → (xs : List ℕ) → IsAscii xs → (i : ℕ) → get_or (map f xs) i 0 < 256
mapped_bytes f fits [] s i = omega arith
mapped_bytes f fits (x ∷ xs) s zero = fits x (s 0)
mapped_bytes f fits (x ∷ xs) s (suc i) = mapped_bytes f fits xs (λ j. s (suc j)) i

-- bytes whose case bit is turned where a test holds
pub turned : (p : ℕ → Bool) (f : ℕ → ℕ) (w t : ℕ) → w < 2 ^ 64 → IsAscii (word_bytes w) → t ≡ flags p (word_bytes w) → Fits f
    → ((b : ℕ) → b < 128 → bit_xor b (turn (p b)) ≡ f b) → word_bytes (bit_xor w (t / 4)) ≡ map f (word_bytes w)
turned p f w t small s is fits e =
    let xs = word_bytes w in
    let whole : w ≡ word_of (map (λ b. b) xs) = sym (same_word xs ∙ word_of_bytes w small) in
    let part : t / 4 ≡ word_of (map (λ b. turn (p b)) xs) = omega (arith, is, quarter p xs) in
    let changed : bit_xor w (t / 4) ≡ word_of (map f xs) =
    (λ i. bit_xor (whole i) (part i))
    ∙ xor_lanes (λ b. b) (λ b. turn (p b)) (λ b l. omega arith) (turn_fits p) xs s
    ∙ ap word_of (same_lanes _ f e xs s) in
    bytes_of_word _ (map f xs) (length-map xs f ∙ length-word_bytes w) (mapped_bytes f fits xs s) changed
