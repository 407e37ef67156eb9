-- The halves of bytes, found again among the digits.
use Rattle.std.proofs.Common.{◌≡◌, ℕ, zero, suc, ◌+◌, ◌-◌, ◌*◌, ◌/◌, ◌%◌, ◌<◌, ◌≤◌, List, [], ◌∷◌, ◌++◌, length, map, replicate, set, take, drop, refl, subst, sym, ap, ◌∙◌, arith}
use Rattle.std.proofs.lemmas.List.{take-take, take_at, take_all, drop-drop, drop-take, length-drop}
use Rattle.std.specs.Int.Digits.{AllBelowBase}
use Rattle.fixed_decimal_digit_words.specs.DigitText.{character}
use Rattle.fixed_decimal_digit_words.specs.Packed.{halves, digits_in, packed, IsPacked}
use Rattle.fixed_decimal_digit_words.proofs.ByteWordLemmas.{halves_joined}
use Rattle.fixed_decimal_digit_words.proofs.DigitsLemmas.{below_take, below_drop, below_joined}

pub halves_past : (k : ℕ) (bytes : List ℕ) → halves (drop k bytes) ≡ drop (2 * k) (halves bytes)
halves_past zero bytes = refl
halves_past (suc k) [] = let twice : suc (suc (2 * k)) ≡ 2 * suc k = omega arith in ap (λ n. drop {A = ℕ} n []) twice
halves_past (suc k) (b ∷ bs) = let twice : suc (suc (2 * k)) ≡ 2 * suc k = omega arith in halves_past k bs ∙ ap (λ n. drop n (halves (b ∷ bs))) twice

pub halves_front : (k : ℕ) (bytes : List ℕ) → halves (take k bytes) ≡ take (2 * k) (halves bytes)
halves_front zero bytes = refl
halves_front (suc k) [] = let twice : suc (suc (2 * k)) ≡ 2 * suc k = omega arith in ap (λ n. take {A = ℕ} n []) twice
halves_front (suc k) (b ∷ bs) =
    let twice : suc (suc (2 * k)) ≡ 2 * suc k = omega arith in
    ap (λ hs. (b / 16) ∷ (b % 16) ∷ hs) (halves_front k bs) ∙ ap (λ n. take n (halves (b ∷ bs))) twice

halves_length : (bytes : List ℕ) → length (halves bytes) ≡ 2 * length bytes
halves_length [] = refl
halves_length (b ∷ bs) = omega (arith, halves_length bs)

zeros_tens : (n : ℕ) → AllBelowBase 10 (replicate n 0)
zeros_tens zero = tt
zeros_tens (suc n) = (omega arith, zeros_tens n)

within_front : (i n m : ℕ) (xs : List ℕ) → i + n ≤ m → take n (drop i (take m xs)) ≡ take n (drop i xs)
within_front zero n m xs l = take-take n m xs (omega arith)
within_front (suc i) n zero xs l = absurd (omega arith)
within_front (suc i) n (suc m) [] l = refl
within_front (suc i) n (suc m) (x ∷ xs) l = within_front i n m xs (omega arith)

-- so many digits from one on, which begins a byte or lies in its lower half, are found in the bytes from that byte on
pub digits_cut : (bytes front : List ℕ) (count m k s n i : ℕ) → i ≡ 2 * k + s → i + n ≤ count → s + n ≤ 2 * m → front ≡ take m (drop k bytes)
    → take n (drop s (halves front)) ≡ take n (drop i (digits_in bytes count))
digits_cut bytes front count m k s n i at fits enough e =
    ap (λ b. take n (drop s (halves b))) e
    ∙ ap (λ h. take n (drop s h)) (halves_front m (drop k bytes))
    ∙ within_front s n (2 * m) (halves (drop k bytes)) enough
    ∙ ap (λ h. take n (drop s h)) (halves_past k bytes)
    ∙ ap (take n) (drop-drop s (2 * k) (halves bytes) ∙ ap (λ j. drop j (halves bytes)) (sym at))
    ∙ sym (within_front i n count (halves bytes) fits)

-- and so where others are after these bytes
pub digits_padded : (bytes rest behind : List ℕ) (count k s n i : ℕ) → i ≡ 2 * k + s → i + n ≤ count → count ≤ 2 * length bytes → rest ≡ drop k bytes
    → take n (drop s (halves (rest ++ behind))) ≡ take n (drop i (digits_in bytes count))
digits_padded bytes rest behind count k s n i at fits whole e =
    let size : length rest ≡ length bytes - k = ap length e ∙ length-drop k bytes in
    let held : s + n ≤ length (halves rest) = omega (arith, at, fits, whole, size, halves_length rest) in
    let enough : s + n ≤ 2 * length rest = omega (arith, held, halves_length rest) in
    ap (λ h. take n (drop s h)) (halves_joined rest behind)
    ∙ sym (within_front s n (length (halves rest)) (halves rest ++ halves behind) held)
    ∙ ap (λ h. take n (drop s h)) (take_at (halves rest) (halves behind) (length (halves rest)) refl)
    ∙ digits_cut bytes rest count (length rest) k s n i at fits enough (e ∙ sym (take_all (length rest) (drop k bytes) (omega (arith, ap length e))))

-- each half of bytes that hold digits is a digit
packed_tens : (ds : List ℕ) → AllBelowBase 10 ds → AllBelowBase 10 (halves (packed ds))
packed_tens [] h = tt
packed_tens (d ∷ []) h = let one : d < 10 = h.0 in (omega arith, (omega arith, tt))
packed_tens (d ∷ e ∷ ds) h = let one : d < 10 = h.0 in let two : e < 10 = h.1.0 in (omega arith, (omega arith, packed_tens ds h.1.1))

-- from one of them on, with zeros after
pub padded_tens : (bytes rest : List ℕ) (count k s : ℕ) → IsPacked bytes count → rest ≡ drop k bytes → AllBelowBase 10 (take 16 (drop s (halves (rest ++ replicate 9 0))))
padded_tens bytes rest count k s p e =
    let all : AllBelowBase 10 (halves bytes) = subst (λ b. AllBelowBase 10 (halves b)) (sym p.packed_are) (packed_tens (digits_in bytes count) p.tens) in
    let here : AllBelowBase 10 (halves rest) = subst (AllBelowBase 10) (sym (ap halves e ∙ halves_past k bytes)) (below_drop (2 * k) (halves bytes) all) in
    let none : AllBelowBase 10 (halves (replicate 9 0)) = zeros_tens 18 in
    let both : AllBelowBase 10 (halves (rest ++ replicate 9 0)) = subst (AllBelowBase 10) (sym (halves_joined rest (replicate 9 0))) (below_joined (halves rest) (halves (replicate 9 0)) here none) in
    below_take 16 (drop s (halves (rest ++ replicate 9 0))) (below_drop s (halves (rest ++ replicate 9 0)) both)

-- so many bytes from one on hold so many digits
pub digits_whole : (bytes front : List ℕ) (count m k i : ℕ) → i ≡ 2 * k → i + 2 * m ≤ count → front ≡ take m (drop k bytes) → halves front ≡ take (2 * m) (drop i (digits_in bytes count))
digits_whole bytes front count m k i even fits e =
    let both : halves front ≡ take (2 * m) (halves (drop k bytes)) = ap halves e ∙ halves_front m (drop k bytes) in
    both ∙ sym (take-take (2 * m) (2 * m) (halves (drop k bytes)) (omega arith)) ∙ ap (take (2 * m)) (sym both)
    ∙ digits_cut bytes front count m k 0 (2 * m) i (omega arith) fits (omega arith) e

-- and the text of a block of them
pub block_is : (bytes front : List ℕ) (count k i : ℕ) → i ≡ 2 * k → i + 64 ≤ count → front ≡ take 32 (drop k bytes)
    → map character (halves front) ≡ map character (take 64 (drop i (digits_in bytes count)))
block_is bytes front count k i even fits e = ap (map character) (digits_whole bytes front count 32 k i even fits e)

-- the first of a run, and the rest of it
pub run_front : (n left from : ℕ) (xs : List ℕ) → n ≤ left → take n (take left (drop from xs)) ≡ take n (drop from xs)
run_front n left from xs l = take-take n left (drop from xs) l

pub run_rest : (n left from : ℕ) (xs : List ℕ) → n ≤ left → drop n (take left (drop from xs)) ≡ take (left - n) (drop (from + n) xs)
run_rest n left from xs l =
    let whole : left ≡ n + (left - n) = omega arith in
    ap (λ m. drop n (take m (drop from xs))) whole
    ∙ drop-take n (left - n) (drop from xs)
    ∙ ap (take (left - n)) (drop-drop n from xs)

-- a digit put in the place of another, the first of those that are left
pub set_tens : (ds : List ℕ) (i d : ℕ) → AllBelowBase 10 ds → d < 10 → AllBelowBase 10 (set ds i d)
set_tens [] i d h l = tt
set_tens (e ∷ es) zero d h l = (l, h.1)
set_tens (e ∷ es) (suc i) d h l = (h.0, set_tens es i d h.1 l)

pub first_ten : (front rest more all : List ℕ) (d : ℕ) → front ++ rest ≡ all → rest ≡ d ∷ more → AllBelowBase 10 all → d < 10
first_ten [] rest more all d joined next h = (subst (AllBelowBase 10) (sym (sym next ∙ joined)) h).0
first_ten (e ∷ es) rest more [] d joined next h = absurd (let size = ap length joined in omega (arith, size))
first_ten (e ∷ es) rest more (a ∷ all) d joined next h = first_ten es rest more all d (ap (drop 1) joined) next h.1
