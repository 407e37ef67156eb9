-- The number that a list of digits spells.
use Rattle.std.proofs.Common.{◌≡◌, ℕ, zero, suc, ◌+◌, ◌-◌, ◌*◌, ◌/◌, ◌%◌, ◌^◌, ◌<◌, ◌≤◌, List, [], ◌∷◌, ◌++◌, length, get_or, take, drop, sym, ap, ◌∙◌, subst, arith, length-drop}
use Rattle.std.proofs.Math.Nat.{pow-suc, mul-le-mul_right, add_assoc}
use Rattle.std.specs.Int.Digits.{number_from_digits, number_from_digits_after, AllBelowBase}
use Rattle.std.proofs.lemmas.Int.Digits.{number_lt, number_after_append, number_more}
use Rattle.std.proofs.lemmas.Nat.{div-mul-add, mod-mul-add}
use Rattle.std.proofs.lemmas.List.{take-append-drop, take_all}
use Rattle.fixed_decimal_digit_words.proofs.TenLemmas.{tens_positive}

pub spread : (n d t u : ℕ) → u ≡ t * 10 → (n * 10 + d) * t ≡ n * u + (0 * 10 + d) * t
spread n d t u e = omega (arith, ap (λ x. n * x) e)

-- digits after a number move it up by their count
pub number_from : (n : ℕ) (ds : List ℕ) → number_from_digits_after 10 n ds ≡ n * 10 ^ length ds + number_from_digits 10 ds
number_from n [] = omega arith
number_from n (d ∷ ds) =
    number_from (n * 10 + d) ds
    ∙ ap (λ x. x + number_from_digits 10 ds) (spread n d (10 ^ length ds) (10 ^ suc (length ds)) (pow-suc 10 (length ds)))
    ∙ add_assoc (n * 10 ^ suc (length ds)) ((0 * 10 + d) * 10 ^ length ds) (number_from_digits 10 ds)
    ∙ ap (λ x. n * 10 ^ suc (length ds) + x) (sym (number_from (0 * 10 + d) ds))

pub number_joined : (xs ys : List ℕ) → number_from_digits 10 (xs ++ ys) ≡ number_from_digits 10 xs * 10 ^ length ys + number_from_digits 10 ys
number_joined xs ys = number_after_append 10 0 xs ys ∙ number_from (number_from_digits 10 xs) ys

plain : (d : ℕ) → 0 * 10 + d ≡ d
plain d = omega arith

pub number_cons : (d : ℕ) (ds : List ℕ) → number_from_digits 10 (d ∷ ds) ≡ d * 10 ^ length ds + number_from_digits 10 ds
number_cons d ds = number_from (0 * 10 + d) ds ∙ ap (λ x. x * 10 ^ length ds + number_from_digits 10 ds) (plain d)

-- a number whose first digit is not zero reaches the power of its first digit
pub number_reaches : (ds : List ℕ) → 0 < length ds → 0 < get_or ds 0 0 → 10 ^ (length ds - 1) ≤ number_from_digits 10 ds
number_reaches [] h f = absurd (omega arith)
number_reaches (d ∷ ds) h f =
    let e : suc (length ds) - 1 ≡ length ds = omega arith in
    let least : 1 * 10 ^ length ds ≤ d * 10 ^ length ds = mul-le-mul_right (10 ^ length ds) f in
    subst (λ n. 10 ^ n ≤ number_from_digits 10 (d ∷ ds)) (sym e) (omega (arith, number_cons d ds, least))

pub number_positive : (ds : List ℕ) → 0 < length ds → 0 < get_or ds 0 0 → 0 < number_from_digits 10 ds
number_positive ds h f = omega (arith, number_reaches ds h f, tens_positive (length ds - 1))

pub below_take : (n : ℕ) (ds : List ℕ) → AllBelowBase 10 ds → AllBelowBase 10 (take n ds)
below_take zero ds h = tt
below_take (suc n) [] h = tt
below_take (suc n) (d ∷ ds) h = (h.0, below_take n ds h.1)

pub below_drop : (n : ℕ) (ds : List ℕ) → AllBelowBase 10 ds → AllBelowBase 10 (drop n ds)
below_drop zero ds h = h
below_drop (suc n) [] h = tt
below_drop (suc n) (d ∷ ds) h = below_drop n ds h.1

-- all the digits that there are
pub number_all : (ds : List ℕ) → number_from_digits 10 (take (length ds) ds) ≡ number_from_digits 10 ds
number_all ds = ap (number_from_digits 10) (take_all (length ds) ds (omega arith))

pub below_at : (ds : List ℕ) (i : ℕ) → AllBelowBase 10 ds → get_or ds i 0 < 10
below_at [] i h = omega arith
below_at (d ∷ ds) zero h = h.0
below_at (d ∷ ds) (suc i) h = below_at ds i h.1

-- a number cut after its first n digits: the front is the quotient, the rest the remainder
pub number_cut : (n : ℕ) (ds : List ℕ) → number_from_digits 10 ds ≡ number_from_digits 10 (take n ds) * 10 ^ (length ds - n) + number_from_digits 10 (drop n ds)
number_cut n ds =
    ap (number_from_digits 10) (sym (take-append-drop n ds)) ∙ number_joined (take n ds) (drop n ds)
    ∙ ap (λ k. number_from_digits 10 (take n ds) * 10 ^ k + number_from_digits 10 (drop n ds)) (length-drop n ds)

pub rest_below : (n : ℕ) (ds : List ℕ) → AllBelowBase 10 ds → number_from_digits 10 (drop n ds) < 10 ^ (length ds - n)
rest_below n ds h = subst (λ k. number_from_digits 10 (drop n ds) < 10 ^ k) (length-drop n ds) (number_lt 10 (drop n ds) (below_drop n ds h))

quotient_of : (q u r : ℕ) → 0 < u → r < u → (q * u + r) / u ≡ q
quotient_of q u r p h = div-mul-add q u r h

pub number_quotient : (n : ℕ) (ds : List ℕ) → AllBelowBase 10 ds → number_from_digits 10 ds / 10 ^ (length ds - n) ≡ number_from_digits 10 (take n ds)
number_quotient n ds h =
    ap (λ x. x / 10 ^ (length ds - n)) (number_cut n ds)
    ∙ quotient_of (number_from_digits 10 (take n ds)) (10 ^ (length ds - n)) (number_from_digits 10 (drop n ds)) (tens_positive (length ds - n)) (rest_below n ds h)

pub number_remainder : (n : ℕ) (ds : List ℕ) → AllBelowBase 10 ds → number_from_digits 10 ds % 10 ^ (length ds - n) ≡ number_from_digits 10 (drop n ds)
number_remainder n ds h =
    ap (λ x. x % 10 ^ (length ds - n)) (number_cut n ds)
    ∙ mod-mul-add (number_from_digits 10 (take n ds)) (10 ^ (length ds - n)) (number_from_digits 10 (drop n ds)) (rest_below n ds h)

-- the digit at an index of the list is a digit of the number
pub number_digit : (ds : List ℕ) (i : ℕ) → AllBelowBase 10 ds → i < length ds → number_from_digits 10 ds / 10 ^ (length ds - (i + 1)) % 10 ≡ get_or ds i 0
number_digit ds i h l =
    ap (λ x. x % 10) (number_quotient (i + 1) ds h ∙ number_more 10 ds i l)
    ∙ mod-mul-add (number_from_digits 10 (take i ds)) 10 (get_or ds i 0) (below_at ds i h)

pub below_push : (ds : List ℕ) (d : ℕ) → AllBelowBase 10 ds → d < 10 → AllBelowBase 10 (ds ++ (d ∷ []))
below_push [] d h l = (l, tt)
below_push (c ∷ cs) d h l = (h.0, below_push cs d h.1 l)

pub below_joined : (ds es : List ℕ) → AllBelowBase 10 ds → AllBelowBase 10 es → AllBelowBase 10 (ds ++ es)
below_joined [] es h k = k
below_joined (d ∷ ds) es h k = (h.0, below_joined ds es h.1 k)
