-- Digits in bytes: what each change of the digits does to the bytes.
use Rattle.std.proofs.Common.{◌≡◌, ℕ, zero, suc, ◌+◌, ◌*◌, ◌/◌, ◌%◌, ◌<◌, ◌≤◌, List, [], ◌∷◌, ◌++◌, length, get_or, set, take, drop, refl, sym, ap, ◌∙◌, subst, arith}
use Rattle.std.specs.Int.Digits.{AllBelowBase}
use Rattle.fixed_decimal_digit_words.specs.Packed.{packed, halves, digits_in, IsPacked, shifted}

-- the digits packed are found in the halves again
pub given_back : (ds : List ℕ) → AllBelowBase 10 ds → take (length ds) (halves (packed ds)) ≡ ds
given_back [] h = refl
given_back (d ∷ []) h = ap (λ x. x ∷ []) (omega arith)
given_back (d ∷ e ∷ ds) h =
    let low : e < 10 = h.1.0 in
    let first : (d * 16 + e) / 16 ≡ d = omega arith in
    let second : (d * 16 + e) % 16 ≡ e = omega arith in
    λ i. first i ∷ second i ∷ given_back ds h.1.1 i

pub kept_is : (bytes ds : List ℕ) (count : ℕ) → AllBelowBase 10 ds → bytes ≡ packed ds → count ≡ length ds → digits_in bytes count ≡ ds
kept_is bytes ds count h b c = (λ i. take (c i) (halves (b i))) ∙ given_back ds h

pub kept_so : (bytes ds : List ℕ) (count : ℕ) → AllBelowBase 10 ds → bytes ≡ packed ds → count ≡ length ds → IsPacked bytes count × (digits_in bytes count ≡ ds)
kept_so bytes ds count h b c =
    let same = kept_is bytes ds count h b c in (
      record {
        tens = subst (λ xs. AllBelowBase 10 xs) (sym same) h;
        all = ap length same ∙ sym c;
        packed_are = b ∙ ap packed (sym same);
      },
      same,
    )

pub packed_length : (ds : List ℕ) → length (packed ds) ≡ (length ds + 1) / 2
packed_length [] = omega arith
packed_length (d ∷ []) = omega arith
packed_length (d ∷ e ∷ ds) = omega (arith, packed_length ds)

pub upper_packed : (ds : List ℕ) (i k : ℕ) → AllBelowBase 10 ds → i < length ds → i ≡ 2 * k → get_or (packed ds) k 0 / 16 ≡ get_or ds i 0
upper_packed [] i k h l e = absurd (omega arith)
upper_packed (d ∷ []) zero zero h l e = omega arith
upper_packed (d ∷ []) zero (suc k) h l e = absurd (omega arith)
upper_packed (d ∷ []) (suc i) k h l e = absurd (omega arith)
upper_packed (d ∷ f ∷ ds) zero zero h l e = let low : f < 10 = h.1.0 in omega arith
upper_packed (d ∷ f ∷ ds) zero (suc k) h l e = absurd (omega arith)
upper_packed (d ∷ f ∷ ds) (suc zero) k h l e = absurd (omega arith)
upper_packed (d ∷ f ∷ ds) (suc (suc i)) zero h l e = absurd (omega arith)
upper_packed (d ∷ f ∷ ds) (suc (suc i)) (suc k) h l e = upper_packed ds i k h.1.1 (omega arith) (omega arith)

pub lower_packed : (ds : List ℕ) (i k : ℕ) → AllBelowBase 10 ds → i < length ds → i ≡ 2 * k + 1 → get_or (packed ds) k 0 % 16 ≡ get_or ds i 0
lower_packed [] i k h l e = absurd (omega arith)
lower_packed (d ∷ []) zero k h l e = absurd (omega arith)
lower_packed (d ∷ []) (suc i) k h l e = absurd (omega arith)
lower_packed (d ∷ f ∷ ds) zero k h l e = absurd (omega arith)
lower_packed (d ∷ f ∷ ds) (suc zero) zero h l e = let low : f < 10 = h.1.0 in omega arith
lower_packed (d ∷ f ∷ ds) (suc zero) (suc k) h l e = absurd (omega arith)
lower_packed (d ∷ f ∷ ds) (suc (suc i)) zero h l e = absurd (omega arith)
lower_packed (d ∷ f ∷ ds) (suc (suc i)) (suc k) h l e = lower_packed ds i k h.1.1 (omega arith) (omega arith)

-- a digit, or two, after an even count
pub pushed_upper : (k : ℕ) (ds : List ℕ) (d : ℕ) → length ds ≡ 2 * k → packed (ds ++ d ∷ []) ≡ packed ds ++ (d * 16) ∷ []
pushed_upper zero [] d e = refl
pushed_upper zero (x ∷ xs) d e = absurd (omega arith)
pushed_upper (suc k) [] d e = absurd (omega arith)
pushed_upper (suc k) (x ∷ []) d e = absurd (omega arith)
pushed_upper (suc k) (x ∷ y ∷ ds) d e = ap (λ r. (x * 16 + y) ∷ r) (pushed_upper k ds d (omega arith))

pub pushed_both : (k : ℕ) (ds : List ℕ) (d f : ℕ) → length ds ≡ 2 * k → packed (ds ++ d ∷ f ∷ []) ≡ packed ds ++ (d * 16 + f) ∷ []
pushed_both zero [] d f e = refl
pushed_both zero (x ∷ xs) d f e = absurd (omega arith)
pushed_both (suc k) [] d f e = absurd (omega arith)
pushed_both (suc k) (x ∷ []) d f e = absurd (omega arith)
pushed_both (suc k) (x ∷ y ∷ ds) d f e = ap (λ r. (x * 16 + y) ∷ r) (pushed_both k ds d f (omega arith))

-- a digit after an odd count goes into the last byte
pub pushed_lower : (k : ℕ) (ds : List ℕ) (d : ℕ) → length ds ≡ 2 * k + 1 → packed (ds ++ d ∷ []) ≡ set (packed ds) k (get_or (packed ds) k 0 + d)
pushed_lower zero [] d e = absurd (omega arith)
pushed_lower zero (x ∷ []) d e = refl
pushed_lower zero (x ∷ y ∷ ds) d e = absurd (omega arith)
pushed_lower (suc k) [] d e = absurd (omega arith)
pushed_lower (suc k) (x ∷ []) d e = absurd (omega arith)
pushed_lower (suc k) (x ∷ y ∷ ds) d e = ap (λ r. (x * 16 + y) ∷ r) (pushed_lower k ds d (omega arith))

-- the last byte of an odd count has room for a digit
pub last_room : (k : ℕ) (ds : List ℕ) → AllBelowBase 10 ds → length ds ≡ 2 * k + 1 → get_or (packed ds) k 0 < 145
last_room zero [] h e = absurd (omega arith)
last_room zero (x ∷ []) h e = let low : x < 10 = h.0 in omega arith
last_room zero (x ∷ y ∷ ds) h e = absurd (omega arith)
last_room (suc k) [] h e = absurd (omega arith)
last_room (suc k) (x ∷ []) h e = absurd (omega arith)
last_room (suc k) (x ∷ y ∷ ds) h e = last_room k ds h.1.1 (omega arith)

-- a front of the digits
pub taken_even : (n k : ℕ) (ds : List ℕ) → n ≤ length ds → n ≡ 2 * k → packed (take n ds) ≡ take k (packed ds)
taken_even zero zero ds l e = refl
taken_even zero (suc k) ds l e = absurd (omega arith)
taken_even (suc n) k [] l e = absurd (omega arith)
taken_even (suc zero) k (x ∷ xs) l e = absurd (omega arith)
taken_even (suc (suc n)) k (x ∷ []) l e = absurd (omega arith)
taken_even (suc (suc n)) zero (x ∷ y ∷ ds) l e = absurd (omega arith)
taken_even (suc (suc n)) (suc k) (x ∷ y ∷ ds) l e = ap (λ r. (x * 16 + y) ∷ r) (taken_even n k ds (omega arith) (omega arith))

pub taken_odd : (n k : ℕ) (ds : List ℕ) → AllBelowBase 10 ds → n ≤ length ds → n ≡ 2 * k + 1
    → packed (take n ds) ≡ set (take (suc k) (packed ds)) k (get_or (take (suc k) (packed ds)) k 0 / 16 * 16)
taken_odd zero k ds h l e = absurd (omega arith)
taken_odd (suc n) k [] h l e = absurd (omega arith)
taken_odd (suc zero) zero (x ∷ []) h l e = ap (λ v. v ∷ []) (omega arith)
taken_odd (suc zero) zero (x ∷ y ∷ ds) h l e = let low : y < 10 = h.1.0 in ap (λ v. v ∷ []) (omega arith)
taken_odd (suc zero) (suc k) (x ∷ xs) h l e = absurd (omega arith)
taken_odd (suc (suc n)) k (x ∷ []) h l e = absurd (omega arith)
taken_odd (suc (suc n)) zero (x ∷ y ∷ ds) h l e = absurd (omega arith)
taken_odd (suc (suc n)) (suc k) (x ∷ y ∷ ds) h l e = ap (λ r. (x * 16 + y) ∷ r) (taken_odd n k ds h.1.1 (omega arith) (omega arith))

-- a front of the digits, and the one after it made more
pub raised_upper : (m k up : ℕ) (ds : List ℕ) → AllBelowBase 10 ds → m < length ds → m ≡ 2 * k
    → packed (take m ds ++ (get_or ds m 0 + up) ∷ []) ≡ set (take (suc k) (packed ds)) k ((get_or (take (suc k) (packed ds)) k 0 / 16 + up) * 16)
raised_upper m k up [] h l e = absurd (omega arith)
raised_upper zero zero up (x ∷ []) h l e = ap (λ v. v ∷ []) (omega arith)
raised_upper zero zero up (x ∷ y ∷ ds) h l e = let low : y < 10 = h.1.0 in ap (λ v. v ∷ []) (omega arith)
raised_upper zero (suc k) up (x ∷ xs) h l e = absurd (omega arith)
raised_upper (suc m) k up (x ∷ []) h l e = absurd (omega arith)
raised_upper (suc zero) k up (x ∷ y ∷ ds) h l e = absurd (omega arith)
raised_upper (suc (suc m)) zero up (x ∷ y ∷ ds) h l e = absurd (omega arith)
raised_upper (suc (suc m)) (suc k) up (x ∷ y ∷ ds) h l e = ap (λ r. (x * 16 + y) ∷ r) (raised_upper m k up ds h.1.1 (omega arith) (omega arith))

pub raised_lower : (m k up : ℕ) (ds : List ℕ) → m < length ds → m ≡ 2 * k + 1
    → packed (take m ds ++ (get_or ds m 0 + up) ∷ []) ≡ set (take (suc k) (packed ds)) k (get_or (take (suc k) (packed ds)) k 0 + up)
raised_lower m k up [] l e = absurd (omega arith)
raised_lower zero k up (x ∷ xs) l e = absurd (omega arith)
raised_lower (suc m) k up (x ∷ []) l e = absurd (omega arith)
raised_lower (suc zero) zero up (x ∷ y ∷ ds) l e = ap (λ v. v ∷ []) (omega arith)
raised_lower (suc zero) (suc k) up (x ∷ y ∷ ds) l e = absurd (omega arith)
raised_lower (suc (suc m)) zero up (x ∷ y ∷ ds) l e = absurd (omega arith)
raised_lower (suc (suc m)) (suc k) up (x ∷ y ∷ ds) l e = ap (λ r. (x * 16 + y) ∷ r) (raised_lower m k up ds (omega arith) (omega arith))

-- the digits after a front
pub dropped_even : (k : ℕ) (ds : List ℕ) → 2 * k ≤ length ds → packed (drop (2 * k) ds) ≡ drop k (packed ds)
dropped_even zero ds l = refl
dropped_even (suc k) [] l = absurd (omega arith)
dropped_even (suc k) (x ∷ []) l = absurd (omega arith)
dropped_even (suc k) (x ∷ y ∷ ds) l =
    let twice : 2 * suc k ≡ suc (suc (2 * k)) = omega arith in
    ap (λ n. packed (drop n (x ∷ y ∷ ds))) twice ∙ dropped_even k ds (omega arith)

pub dropped_one : (ds : List ℕ) → AllBelowBase 10 ds → packed (drop 1 ds) ≡ take (length ds / 2) (shifted (packed ds))
dropped_one [] h = refl
dropped_one (d ∷ []) h = refl
dropped_one (d ∷ f ∷ []) h =
    let low : f < 10 = h.1.0 in
    ap (λ v. v ∷ []) (omega arith)
dropped_one (d ∷ f ∷ g ∷ gs) h =
    let low : f < 10 = h.1.0 in
    let next : get_or (packed (g ∷ gs)) 0 0 / 16 ≡ g = upper_packed (g ∷ gs) 0 0 h.1.1 (omega arith) refl in
    let first : f * 16 + g ≡ (d * 16 + f) % 16 * 16 + get_or (packed (g ∷ gs)) 0 0 / 16 = omega (arith, next) in
    let count : length (d ∷ f ∷ g ∷ gs) / 2 ≡ suc (length (g ∷ gs) / 2) = omega arith in
    (λ i. first i ∷ dropped_one (g ∷ gs) h.1.1 i) ∙ ap (λ n. take n (shifted (packed (d ∷ f ∷ g ∷ gs)))) (sym count)

shifted_at : (bs : List ℕ) (i v : ℕ) → i < length bs → v ≡ get_or bs i 0 % 16 * 16 + get_or bs (suc i) 0 / 16 → take (suc i) (set bs i v) ++ shifted (drop (suc i) (set bs i v)) ≡ take i bs ++ shifted (drop i bs)
shifted_at [] i v l e = absurd (omega arith)
shifted_at (b ∷ bs) zero v l e = ap (λ x. x ∷ shifted bs) e
shifted_at (b ∷ bs) (suc i) v l e = ap (λ r. b ∷ r) (shifted_at bs i v (omega arith) e)

-- one byte more is moved up
pub shifted_more : (bs : List ℕ) (i v : ℕ) → i < length bs → v ≡ get_or bs i 0 % 16 * 16 + get_or bs (i + 1) 0 / 16 → take (i + 1) (set bs i v) ++ shifted (drop (i + 1) (set bs i v)) ≡ take i bs ++ shifted (drop i bs)
shifted_more bs i v l e =
    let next : i + 1 ≡ suc i = omega arith in
    ap (λ j. take j (set bs i v) ++ shifted (drop j (set bs i v))) next ∙ shifted_at bs i v l (e ∙ ap (λ j. get_or bs i 0 % 16 * 16 + get_or bs j 0 / 16) next)
