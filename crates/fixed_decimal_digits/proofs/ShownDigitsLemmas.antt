-- The digits of stored digits at a range of places: zeros above the first, those that are kept, zeros below the last.
use Rattle.std.proofs.Common.{◌≡◌, ℕ, zero, suc, ◌+◌, ◌-◌, ◌<◌, ◌≤◌, min, List, [], ◌∷◌, ◌++◌, length, get_or, take, drop, replicate, refl, sym, ap, ◌∙◌, arith}
use Rattle.std.specs.Int.Digits.{AllBelowBase}
use Rattle.std.proofs.lemmas.List.{drop_more, length-take, length-drop}
use Rattle.fixed_decimal_digits.specs.CountDigits.{digit, digits_down}
use Rattle.fixed_decimal_digits.specs.DigitList.{count_of}
use Rattle.fixed_decimal_digits.proofs.CountLemmas.{digit_over, digit_inside, digit_beyond}

-- digits at a + b places are those at the a higher ones, then those at the b lower ones
pub down_split : (count base a b : ℕ) → digits_down count base (a + b) ≡ digits_down count (base + b) a ++ digits_down count base b
down_split count base zero b = let none : 0 + b ≡ b = omega arith in ap (digits_down count base) none
down_split count base (suc a) b =
    let place : base + (a + b) ≡ base + b + a = omega arith in
    let size : suc a + b ≡ suc (a + b) = omega arith in
    ap (digits_down count base) size
    ∙ ap (λ p. digit count p ∷ digits_down count base (a + b)) place
    ∙ ap (λ ds. digit count (base + b + a) ∷ ds) (down_split count base a b)

-- zeros where each digit is one
zeros_down : (count base n : ℕ) → ((p : ℕ) → base ≤ p → p < base + n → digit count p ≡ 0) → digits_down count base n ≡ replicate n 0
zeros_down count base zero none = refl
zeros_down count base (suc k) none =
    ap (λ d. d ∷ digits_down count base k) (none (base + k) (omega arith) (omega arith))
    ∙ ap (λ ds. 0 ∷ ds) (zeros_down count base k (λ p above below. none p above (omega (arith, below))))

pub down_over : (ds : List ℕ) (top base n : ℕ) → AllBelowBase 10 ds → length ds ≤ top + 1 → (0 < n → top < base) → digits_down (count_of ds top) base n ≡ replicate n 0
down_over ds top base n tens room over =
    zeros_down (count_of ds top) base n (λ p above below. digit_over ds top p tens room (let high = over (omega (arith, above, below)) in omega (arith, above, high)))

pub down_beyond : (ds : List ℕ) (top base n : ℕ) → length ds ≤ top + 1 → (0 < n → base + n + length ds ≤ top + 1) → digits_down (count_of ds top) base n ≡ replicate n 0
down_beyond ds top base n room under =
    zeros_down (count_of ds top) base n (λ p above below. let low = under (omega (arith, above, below)) in digit_beyond ds top p room (omega (arith, below, low)) (omega (arith, below, low)))

-- the digits that are kept, from the one at index i on
pub down_inside : (ds : List ℕ) (top base n i : ℕ) → AllBelowBase 10 ds → length ds ≤ top + 1 → (0 < n → base + n + i ≡ top + 1) → (0 < n → n + i ≤ length ds) → digits_down (count_of ds top) base n ≡ take n (drop i ds)
down_inside ds top base zero i tens room at fits = refl
down_inside ds top base (suc k) i tens room at fits =
    let here : base + suc k + i ≡ top + 1 = at (omega arith) in
    let index : top - (base + k) ≡ i = omega (arith, here) in
    let enough : suc k + i ≤ length ds = fits (omega arith) in
    let within : i < length ds = omega (arith, enough) in
    let first : digit (count_of ds top) (base + k) ≡ get_or ds i 0 =
    digit_inside ds top (base + k) tens room (omega (arith, here)) (omega (arith, index, within)) ∙ ap (λ j. get_or ds j 0) index in
    ap (λ d. d ∷ digits_down (count_of ds top) base k) first
    ∙ ap (λ rest. get_or ds i 0 ∷ rest) (down_inside ds top base k (i + 1) tens room (λ some. omega (arith, here)) (λ some. omega (arith, enough)))
    ∙ ap (take (suc k)) (sym (drop_more ds i 0 within))

-- so many of the first as there are
taken : (n : ℕ) (xs : List ℕ) → take (length (take n xs)) xs ≡ take n xs
taken zero xs = refl
taken (suc n) [] = refl
taken (suc n) (x ∷ xs) = ap (λ ys. x ∷ ys) (taken n xs)

-- all three, where the range ends below `past` and the first digit is below `first`
pub shown_down : (ds : List ℕ) (top base count past first before skipped places inside : ℕ)
    → AllBelowBase 10 ds → length ds ≤ top + 1 → past ≡ base + count → first ≡ top + 1
    → before ≡ min (past - first) count → skipped ≡ first - past → places ≡ count - before → inside ≡ length (take places (drop skipped ds))
    → replicate before 0 ++ (take places (drop skipped ds) ++ replicate (places - inside) 0) ≡ digits_down (count_of ds top) base count
shown_down ds top base count past first before skipped places inside tens room ends starts zeros skips left size =
    let n : ℕ = min places (length ds - skipped) in
    let sized : inside ≡ n = size ∙ length-take places (drop skipped ds) ∙ ap (min places) (length-drop skipped ds) in
    let behind : ℕ = places - inside in
    let whole : count ≡ before + (inside + behind) = omega (arith, zeros, left, sized) in
    sym (ap (digits_down (count_of ds top) base) whole
    ∙ down_split (count_of ds top) base before (inside + behind)
    ∙ ap (λ ds'. digits_down (count_of ds top) (base + (inside + behind)) before ++ ds') (down_split (count_of ds top) base inside behind)
    ∙ ap (λ zs. zs ++ (digits_down (count_of ds top) (base + behind) inside ++ digits_down (count_of ds top) base behind)) (down_over ds top (base + (inside + behind)) before tens room (λ some. omega (arith, some, ends, starts, zeros, left, sized)))
    ∙ ap (λ ks. replicate before 0 ++ (ks ++ digits_down (count_of ds top) base behind)) (down_inside ds top (base + behind) inside skipped tens room (λ some. omega (arith, some, ends, starts, zeros, left, sized, skips)) (λ some. omega (arith, some, sized)))
    ∙ ap (λ zs. replicate before 0 ++ (take inside (drop skipped ds) ++ zs)) (down_beyond ds top base behind room (λ some. omega (arith, some, ends, starts, zeros, left, sized, skips)))
    ∙ ap (λ k. replicate before 0 ++ (take k (drop skipped ds) ++ replicate behind 0)) size
    ∙ ap (λ ks. replicate before 0 ++ (ks ++ replicate behind 0)) (taken places (drop skipped ds)))
