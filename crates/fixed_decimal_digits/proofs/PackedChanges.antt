-- Bytes after a change are packed, and hold the digits wanted.
use Rattle.std.proofs.Common.{◌≡◌, ℕ, zero, suc, min, ◌+◌, ◌-◌, ◌*◌, ◌/◌, ◌%◌, ◌<◌, ◌≤◌, ◌↔◌, List, [], ◌∷◌, ◌++◌, length, get_or, set, take, drop, refl, sym, ap, ◌∙◌, subst, arith, length-drop, length-append, drop-cons, add-one}
use Rattle.std.proofs.lemmas.List.{length_push, length-take-le, get_or-take, drop-drop}
use Rattle.std.specs.Int.Digits.{AllBelowBase}
use Rattle.fixed_decimal_digit_words.specs.Packed.{packed, digits_in, IsPacked, shifted}
use Rattle.fixed_decimal_digit_words.proofs.DigitsLemmas.{below_take, below_drop, below_push}
use Rattle.fixed_decimal_digits.proofs.PackedLemmas.{kept_so, packed_length, upper_packed, lower_packed, pushed_upper, pushed_both, pushed_lower, last_room, taken_even, taken_odd, raised_upper, raised_lower, dropped_even, dropped_one}

pub bytes_length : (bytes : List ℕ) (count : ℕ) → IsPacked bytes count → length bytes ≡ (count + 1) / 2
bytes_length bytes count p = ap length p.packed_are ∙ packed_length (digits_in bytes count) ∙ ap (λ n. (n + 1) / 2) p.all

pub upper_digit : (bytes : List ℕ) (count i : ℕ) → IsPacked bytes count → i < count → i % 2 ≡ 0 → get_or bytes (i / 2) 0 / 16 ≡ get_or (digits_in bytes count) i 0
upper_digit bytes count i p l e =
    ap (λ b. get_or b (i / 2) 0 / 16) p.packed_are
    ∙ upper_packed (digits_in bytes count) i (i / 2) p.tens (omega (arith, p.all)) (omega arith)

pub lower_digit : (bytes : List ℕ) (count i : ℕ) → IsPacked bytes count → i < count → i % 2 ≡ 1 → get_or bytes (i / 2) 0 % 16 ≡ get_or (digits_in bytes count) i 0
lower_digit bytes count i p l e =
    ap (λ b. get_or b (i / 2) 0 % 16) p.packed_are
    ∙ lower_packed (digits_in bytes count) i (i / 2) p.tens (omega (arith, p.all)) (omega arith)

-- a byte whose halves are one digit
pub both_digits : (bytes : List ℕ) (count i d : ℕ) → IsPacked bytes count → i + 1 < count → i % 2 ≡ 0 → d < 10
    → (get_or bytes (i / 2) 0 ≡ d * 17) ↔ ((get_or (digits_in bytes count) i 0 ≡ d) × (get_or (digits_in bytes count) (i + 1) 0 ≡ d))
both_digits bytes count i d p l e t =
    let upper : get_or bytes (i / 2) 0 / 16 ≡ get_or (digits_in bytes count) i 0 = upper_digit bytes count i p (omega arith) e in
    let same : (i + 1) / 2 ≡ i / 2 = omega arith in
    let lower : get_or bytes (i / 2) 0 % 16 ≡ get_or (digits_in bytes count) (i + 1) 0 =
    ap (λ k. get_or bytes k 0 % 16) (sym same) ∙ lower_digit bytes count (i + 1) p l (omega arith) in
    (λ h. ((omega (arith, upper, h)), (omega (arith, lower, h))), λ h. omega (arith, upper, lower, h.0, h.1))

pub upper_pushed : (bytes new : List ℕ) (count d : ℕ) → IsPacked bytes count → d < 10 → count % 2 ≡ 0 → new ≡ bytes ++ (d * 16) ∷ []
    → IsPacked new (count + 1) × (digits_in new (count + 1) ≡ digits_in bytes count ++ d ∷ [])
upper_pushed bytes new count d p t even e =
    let ds = digits_in bytes count in
    kept_so new (ds ++ d ∷ []) (count + 1) (below_push ds d p.tens t)
    (e ∙ ap (λ b. b ++ (d * 16) ∷ []) p.packed_are ∙ sym (pushed_upper (count / 2) ds d (omega (arith, p.all))))
    (omega (arith, length_push ds d, p.all))

pub below_two : (ds : List ℕ) (d f : ℕ) → AllBelowBase 10 ds → d < 10 → f < 10 → AllBelowBase 10 (ds ++ d ∷ f ∷ [])
below_two [] d f h t u = (t, (u, tt))
below_two (x ∷ xs) d f h t u = (h.0, below_two xs d f h.1 t u)

pub both_pushed : (bytes new : List ℕ) (count d f : ℕ) → IsPacked bytes count → d < 10 → f < 10 → count % 2 ≡ 0 → new ≡ bytes ++ (d * 16 + f) ∷ []
    → IsPacked new (count + 2) × (digits_in new (count + 2) ≡ digits_in bytes count ++ d ∷ f ∷ [])
both_pushed bytes new count d f p t u even e =
    let ds = digits_in bytes count in
    kept_so new (ds ++ d ∷ f ∷ []) (count + 2) (below_two ds d f p.tens t u)
    (e ∙ ap (λ b. b ++ (d * 16 + f) ∷ []) p.packed_are ∙ sym (pushed_both (count / 2) ds d f (omega (arith, p.all))))
    (omega (arith, length-append ds (d ∷ f ∷ []), p.all))

pub lower_pushed : (bytes new : List ℕ) (count d : ℕ) → IsPacked bytes count → d < 10 → count % 2 ≡ 1 → new ≡ set bytes (count / 2) (get_or bytes (count / 2) 0 + d)
    → IsPacked new (count + 1) × (digits_in new (count + 1) ≡ digits_in bytes count ++ d ∷ [])
lower_pushed bytes new count d p t odd e =
    let ds = digits_in bytes count in
    kept_so new (ds ++ d ∷ []) (count + 1) (below_push ds d p.tens t)
    (e ∙ ap (λ b. set b (count / 2) (get_or b (count / 2) 0 + d)) p.packed_are ∙ sym (pushed_lower (count / 2) ds d (omega (arith, p.all))))
    (omega (arith, length_push ds d, p.all))

pub room_below : (bytes : List ℕ) (count : ℕ) → IsPacked bytes count → count % 2 ≡ 1 → get_or bytes (count / 2) 0 < 145
room_below bytes count p odd =
    subst (λ b. get_or b (count / 2) 0 < 145) (sym p.packed_are) (last_room (count / 2) (digits_in bytes count) p.tens (omega (arith, p.all)))

pub even_taken : (bytes new : List ℕ) (count n : ℕ) → IsPacked bytes count → n ≤ count → n % 2 ≡ 0 → new ≡ take (n / 2) bytes
    → IsPacked new n × (digits_in new n ≡ take n (digits_in bytes count))
even_taken bytes new count n p l even e =
    let ds = digits_in bytes count in
    let within : n ≤ length ds = omega (arith, p.all) in
    kept_so new (take n ds) n (below_take n ds p.tens)
    (e ∙ ap (λ b. take (n / 2) b) p.packed_are ∙ sym (taken_even n (n / 2) ds within (omega arith)))
    (sym (length-take-le n ds within))

pub odd_taken : (bytes new : List ℕ) (count n : ℕ) → IsPacked bytes count → n ≤ count → n % 2 ≡ 1
    → new ≡ set (take (n / 2 + 1) bytes) (n / 2) (get_or (take (n / 2 + 1) bytes) (n / 2) 0 / 16 * 16)
    → IsPacked new n × (digits_in new n ≡ take n (digits_in bytes count))
odd_taken bytes new count n p l odd e =
    let ds = digits_in bytes count in
    let within : n ≤ length ds = omega (arith, p.all) in
    let next : n / 2 + 1 ≡ suc (n / 2) = omega arith in
    kept_so new (take n ds) n (below_take n ds p.tens)
    (e ∙ ap (λ j. set (take j bytes) (n / 2) (get_or (take j bytes) (n / 2) 0 / 16 * 16)) next
    ∙ ap (λ b. set (take (suc (n / 2)) b) (n / 2) (get_or (take (suc (n / 2)) b) (n / 2) 0 / 16 * 16)) p.packed_are
    ∙ sym (taken_odd n (n / 2) ds p.tens within (omega arith)))
    (sym (length-take-le n ds within))

-- the last of the first n digits, in the last of their bytes
pub upper_taken : (bytes : List ℕ) (count n : ℕ) → IsPacked bytes count → n ≤ count → n % 2 ≡ 1 → get_or (take ((n - 1) / 2 + 1) bytes) ((n - 1) / 2) 0 / 16 ≡ get_or (digits_in bytes count) (n - 1) 0
upper_taken bytes count n p l odd =
    ap (λ b. b / 16) (get_or-take ((n - 1) / 2 + 1) bytes ((n - 1) / 2) 0 (omega arith)) ∙ upper_digit bytes count (n - 1) p (omega arith) (omega arith)

pub lower_taken : (bytes : List ℕ) (count n : ℕ) → IsPacked bytes count → 0 < n → n ≤ count → n % 2 ≡ 0 → get_or (take ((n - 1) / 2 + 1) bytes) ((n - 1) / 2) 0 % 16 ≡ get_or (digits_in bytes count) (n - 1) 0
lower_taken bytes count n p q l even =
    ap (λ b. b % 16) (get_or-take ((n - 1) / 2 + 1) bytes ((n - 1) / 2) 0 (omega arith)) ∙ lower_digit bytes count (n - 1) p (omega arith) (omega arith)

-- the first n digits, with so many more at the last of them
abbrev pub raised_by : List ℕ → ℕ → ℕ → List ℕ
raised_by ds n up = take (n - 1) ds ++ (get_or ds (n - 1) 0 + up) ∷ []

length_raised : (ds : List ℕ) (n d : ℕ) → 0 < n → n ≤ length ds → length (take (n - 1) ds ++ d ∷ []) ≡ n
length_raised ds n d p l = omega (arith, length_push (take (n - 1) ds) d, length-take-le (n - 1) ds (omega (arith, l)), p)

pub odd_raised : (bytes new : List ℕ) (count n up : ℕ) → IsPacked bytes count → n ≤ count → n % 2 ≡ 1 → get_or (digits_in bytes count) (n - 1) 0 + up < 10
    → new ≡ set (take ((n - 1) / 2 + 1) bytes) ((n - 1) / 2) ((get_or (take ((n - 1) / 2 + 1) bytes) ((n - 1) / 2) 0 / 16 + up) * 16)
    → IsPacked new n × (digits_in new n ≡ raised_by (digits_in bytes count) n up)
odd_raised bytes new count n up p l odd t e =
    let ds = digits_in bytes count in
    let k = (n - 1) / 2 in
    let within : n ≤ length ds = omega (arith, p.all) in
    let next : k + 1 ≡ suc k = omega arith in
    kept_so new (raised_by ds n up) n (below_push (take (n - 1) ds) (get_or ds (n - 1) 0 + up) (below_take (n - 1) ds p.tens) t)
    (e ∙ ap (λ j. set (take j bytes) k ((get_or (take j bytes) k 0 / 16 + up) * 16)) next
    ∙ ap (λ b. set (take (suc k) b) k ((get_or (take (suc k) b) k 0 / 16 + up) * 16)) p.packed_are
    ∙ sym (raised_upper (n - 1) k up ds p.tens (omega (arith, within, odd)) (omega arith)))
    (sym (length_raised ds n (get_or ds (n - 1) 0 + up) (omega arith) within))

pub even_raised : (bytes new : List ℕ) (count n up : ℕ) → IsPacked bytes count → 0 < n → n ≤ count → n % 2 ≡ 0 → get_or (digits_in bytes count) (n - 1) 0 + up < 10
    → new ≡ set (take ((n - 1) / 2 + 1) bytes) ((n - 1) / 2) (get_or (take ((n - 1) / 2 + 1) bytes) ((n - 1) / 2) 0 + up)
    → IsPacked new n × (digits_in new n ≡ raised_by (digits_in bytes count) n up)
even_raised bytes new count n up p q l even t e =
    let ds = digits_in bytes count in
    let k = (n - 1) / 2 in
    let within : n ≤ length ds = omega (arith, p.all) in
    let next : k + 1 ≡ suc k = omega arith in
    kept_so new (raised_by ds n up) n (below_push (take (n - 1) ds) (get_or ds (n - 1) 0 + up) (below_take (n - 1) ds p.tens) t)
    (e ∙ ap (λ j. set (take j bytes) k (get_or (take j bytes) k 0 + up)) next
    ∙ ap (λ b. set (take (suc k) b) k (get_or (take (suc k) b) k 0 + up)) p.packed_are
    ∙ sym (raised_lower (n - 1) k up ds (omega (arith, within, q)) (omega arith)))
    (sym (length_raised ds n (get_or ds (n - 1) 0 + up) q within))

pub even_dropped : (bytes new : List ℕ) (count n : ℕ) → IsPacked bytes count → n ≤ count → n % 2 ≡ 0 → new ≡ drop (n / 2) bytes
    → IsPacked new (count - n) × (digits_in new (count - n) ≡ drop n (digits_in bytes count))
even_dropped bytes new count n p l even e =
    let ds = digits_in bytes count in
    let twice : 2 * (n / 2) ≡ n = omega arith in
    kept_so new (drop n ds) (count - n) (below_drop n ds p.tens)
    (e ∙ ap (λ b. drop (n / 2) b) p.packed_are ∙ sym (dropped_even (n / 2) ds (omega (arith, p.all))) ∙ ap (λ j. packed (drop j ds)) twice)
    (omega (arith, length-drop n ds, p.all))

pub one_dropped : (bytes new : List ℕ) (count : ℕ) → IsPacked bytes count → 0 < count → new ≡ take (count / 2) (shifted bytes)
    → IsPacked new (count - 1) × (digits_in new (count - 1) ≡ drop 1 (digits_in bytes count))
one_dropped bytes new count p l e =
    let ds = digits_in bytes count in
    kept_so new (drop 1 ds) (count - 1) (below_drop 1 ds p.tens)
    (e ∙ ap (λ b. take (count / 2) (shifted b)) p.packed_are ∙ ap (λ n. take (n / 2) (shifted (packed ds))) (sym p.all) ∙ sym (dropped_one ds p.tens))
    (omega (arith, length-drop 1 ds, p.all))

pub dropped_twice : (n : ℕ) (ds : List ℕ) → 0 < n → drop 1 (drop (n - 1) ds) ≡ drop n ds
dropped_twice n ds l = drop-drop 1 (n - 1) ds ∙ ap (λ j. drop j ds) (omega arith)

taken_all : (n : ℕ) (xs : List ℕ) → take (min n (length xs)) xs ≡ take n xs
taken_all n [] = empty (min n 0) ∙ sym (empty n)
  where
    empty : (k : ℕ) → take {A = ℕ} k [] ≡ []
    empty zero = refl
    empty (suc k) = refl
taken_all zero (x ∷ xs) = let none : min 0 (length (x ∷ xs)) ≡ 0 = omega arith in ap (λ k. take k (x ∷ xs)) none
taken_all (suc n) (x ∷ xs) =
    let next : min (suc n) (length (x ∷ xs)) ≡ suc (min n (length xs)) = omega arith in
    ap (λ k. take k (x ∷ xs)) next ∙ ap (λ r. x ∷ r) (taken_all n xs)

dropped_all : (n : ℕ) (xs : List ℕ) → drop (min n (length xs)) xs ≡ drop n xs
dropped_all n [] = empty (min n 0) ∙ sym (empty n)
  where
    empty : (k : ℕ) → drop {A = ℕ} k [] ≡ []
    empty zero = refl
    empty (suc k) = refl
dropped_all zero (x ∷ xs) = let none : min 0 (length (x ∷ xs)) ≡ 0 = omega arith in ap (λ k. drop k (x ∷ xs)) none
dropped_all (suc n) (x ∷ xs) =
    let next : min (suc n) (length (x ∷ xs)) ≡ suc (min n (length xs)) = omega arith in
    ap (λ k. drop k (x ∷ xs)) next ∙ dropped_all n xs

-- a run within the digits
pub run_is : (ds : List ℕ) (from most : ℕ) → take (min most (length ds - min from (length ds))) (drop (min from (length ds)) ds) ≡ take most (drop from ds)
run_is ds from most =
    let left : length ds - min from (length ds) ≡ length (drop (min from (length ds)) ds) = sym (length-drop (min from (length ds)) ds) in
    ap (λ n. take (min most n) (drop (min from (length ds)) ds)) left
    ∙ taken_all most (drop (min from (length ds)) ds)
    ∙ ap (take most) (dropped_all from ds)

-- the first digit of a run, and those after it
pub run_next : (ds : List ℕ) (next left : ℕ) → 0 < left → next < length ds → take left (drop next ds) ≡ get_or ds next 0 ∷ take (left - 1) (drop (next + 1) ds)
run_next ds next left l w =
    let n : left ≡ suc (left - 1) = omega arith in
    ap (λ k. take k (drop next ds)) n ∙ ap (take (suc (left - 1))) (drop-cons ds next 0 w) ∙ ap (λ j. get_or ds next 0 ∷ take (left - 1) (drop j ds)) (sym (add-one next))
