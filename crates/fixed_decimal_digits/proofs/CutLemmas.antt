-- Digits after a front that is cut away, and the zeros that they begin with.
use Rattle.std.proofs.Common.{◌≡◌, ℕ, suc, ◌+◌, ◌-◌, ◌*◌, ◌/◌, ◌%◌, ◌^◌, ◌<◌, ◌≤◌, List, [], ◌∷◌, length, length-drop, get_or, take, drop, drop-cons, add-one, sym, ap, ◌∙◌, subst, arith, ⊎_elim}
use Rattle.std.proofs.Math.Nat.{zero-mul, div-add-mod', mod-lt, mod-eq_of_lt, mul-lt-mul_of_pos_right, add-mul-mod_self_right}
use Rattle.std.proofs.lemmas.Nat.{mod-mul-add}
use Rattle.std.proofs.lemmas.Bool.{cases_lt}
use Rattle.std.proofs.lemmas.List.{take_all}
use Rattle.std.specs.Int.Digits.{number_from_digits, AllBelowBase}
use Rattle.fixed_decimal_digits.specs.DigitList.{IsTrimmed, count_of}
use Rattle.fixed_decimal_digit_words.proofs.TenLemmas.{tens_positive, tens_split, tens_apart, tens_next, mod_below_power}
use Rattle.fixed_decimal_digit_words.proofs.DigitsLemmas.{number_cons, number_cut, number_remainder, below_drop}
use Rattle.fixed_decimal_digits.proofs.LoopLemmas.{front_last}
use Rattle.fixed_decimal_digits.proofs.CountLemmas.{count_below}

pub no_front : (r t : ℕ) → 0 * t + r ≡ r
no_front r t = omega arith

pub zero_skipped : (ds : List ℕ) (i : ℕ) → i < length ds → get_or ds i 0 ≡ 0 → number_from_digits 10 (drop i ds) ≡ number_from_digits 10 (drop (i + 1) ds)
zero_skipped ds i l z =
    ap (number_from_digits 10) (drop-cons ds i 0 l) ∙ ap (λ d. number_from_digits 10 (d ∷ drop (suc i) ds)) z ∙ number_cons 0 (drop (suc i) ds)
    ∙ no_front (number_from_digits 10 (drop (suc i) ds)) (10 ^ length (drop (suc i) ds)) ∙ ap (λ k. number_from_digits 10 (drop k ds)) (sym (add-one i))

scaled : (n q r b t : ℕ) → q * b + r ≡ n → n * t ≡ q * (b * t) + r * t
scaled n q r b t e = omega (arith, ap (λ x. x * t) e)

-- a remainder keeps a factor that both sides have
mod_scaled : (n b t : ℕ) → 0 < b → 0 < t → n * t % (b * t) ≡ n % b * t
mod_scaled n b t pb pt =
    ap (λ x. x % (b * t)) (scaled n (n / b) (n % b) b t (div-add-mod' n b))
    ∙ mod-mul-add (n / b) (b * t) (n % b * t) (mul-lt-mul_of_pos_right (mod-lt n pb) pt)

-- the count that is left of digits whose front is cut at an index
pub cut_count : (ds : List ℕ) (top place front : ℕ) → AllBelowBase 10 ds → length ds ≤ top + 1 → place + front ≡ top + 1 → front ≤ length ds
    → count_of ds top % 10 ^ place ≡ number_from_digits 10 (drop front ds) * 10 ^ (top + 1 - length ds)
cut_count ds top place front h l e f =
    ap (λ t. count_of ds top % t) (tens_split (length ds - front) (top + 1 - length ds) place (omega arith))
    ∙ mod_scaled (number_from_digits 10 ds) (10 ^ (length ds - front)) (10 ^ (top + 1 - length ds)) (tens_positive (length ds - front)) (tens_positive (top + 1 - length ds))
    ∙ ap (λ x. x * 10 ^ (top + 1 - length ds)) (number_remainder front ds h)

-- nothing is cut above the first digit
pub cut_none : (ds : List ℕ) (top place : ℕ) → AllBelowBase 10 ds → length ds ≤ top + 1 → top < place → count_of ds top ≡ count_of ds top % 10 ^ place
cut_none ds top place h l o =
    let small : count_of ds top < 10 ^ place = let b = count_below ds top h l in let up = tens_apart (top + 1) place (omega arith) in omega arith in
    sym (mod-eq_of_lt small)

pub cut_all : (ds new : List ℕ) (top place t : ℕ) → length ds ≤ top + 1 → place + length ds ≤ top + 1 → new ≡ [] → count_of new t ≡ count_of ds top % 10 ^ place
cut_all ds new top place t l o e =
    ap (λ xs. count_of xs t) e ∙ zero-mul (10 ^ (t + 1 - 0)) ∙ sym (mod_below_power (number_from_digits 10 ds) (top + 1 - length ds) place (omega arith))

pub cut_made : (ds new : List ℕ) (top place front start t : ℕ) → AllBelowBase 10 ds → length ds ≤ top + 1 → place + front ≡ top + 1 → front ≤ start → start < length ds → new ≡ drop start ds
    → number_from_digits 10 (drop front ds) ≡ number_from_digits 10 (drop start ds) → t ≡ top - start → count_of new t ≡ count_of ds top % 10 ^ place
cut_made ds new top place front start t h l e fs sl en ev et =
    let at : t + 1 - length new ≡ top + 1 - length ds = omega (arith, ap length en, length-drop start ds) in
    ap (λ k. number_from_digits 10 new * 10 ^ k) at ∙ ap (λ xs. number_from_digits 10 xs * 10 ^ (top + 1 - length ds)) en
    ∙ ap (λ n. n * 10 ^ (top + 1 - length ds)) (sym ev) ∙ sym (cut_count ds top place front h l e (omega arith))

shape : (a k u b : ℕ) → u ≡ k * 10 → a * u + b ≡ b + a * k * 10
shape a k u b e = omega (arith, ap (λ x. a * x) e)

mod_added : (c b : ℕ) → (b + c * 10) % 10 ≡ b % 10
mod_added c b = add-mul-mod_self_right b c 10

first_by : (ds : List ℕ) (start : ℕ) → start < length ds → get_or (drop start ds) 0 0 ≡ get_or ds start 0
first_by ds start l = ap (λ xs. get_or xs 0 0) (drop-cons ds start 0 l)

front_all : (ds : List ℕ) (n : ℕ) → n ≡ length ds → number_from_digits 10 (take n ds) ≡ number_from_digits 10 ds
front_all ds n e = ap (number_from_digits 10) (take_all n ds (omega arith))

-- the first digit that is left: one that was found, or the last one of all
first_left : (ds : List ℕ) (top start : ℕ) → IsTrimmed ds top → start < length ds → (start + 1 < length ds → 0 < get_or ds start 0) → 0 < get_or (drop start ds) 0 0
first_left ds top start h sl found =
    subst (λ x. 0 < x) (sym (first_by ds start sl))
    (⊎_elim found (λ a.
    let all : start + 1 ≡ length ds = omega arith in
    let last : 0 < number_from_digits 10 ds % 10 = h.tight.last (omega arith) in
    let e : start + 1 - 1 ≡ start = omega arith in
    let same : number_from_digits 10 ds % 10 ≡ get_or ds start 0 =
    ap (λ x. x % 10) (sym (front_all ds (start + 1) all)) ∙ front_last ds (start + 1) h.tight.tens (omega arith) (omega arith) ∙ ap (λ k. get_or ds k 0) e in
    omega arith) (cases_lt (start + 1) (length ds)))

pub tail_last : (a k u b : ℕ) → u ≡ k * 10 → (a * u + b) % 10 ≡ b % 10
tail_last a k u b e = ap (λ x. x % 10) (shape a k u b e) ∙ mod_added (a * k) b

pub cut_trimmed : (ds new : List ℕ) (top start t : ℕ) → IsTrimmed ds top → start < length ds → new ≡ drop start ds → (start + 1 < length ds → 0 < get_or ds start 0) → t ≡ top - start → IsTrimmed new t
cut_trimmed ds new top start t h sl en found et =
    let len : length new ≡ length ds - start = ap length en ∙ length-drop start ds in
    let room : length ds ≤ top + 1 = h.room in
    let last : 0 < number_from_digits 10 ds % 10 = h.tight.last (omega arith) in
    let same : number_from_digits 10 ds % 10 ≡ number_from_digits 10 new % 10 =
    ap (λ x. x % 10) (number_cut start ds)
    ∙ tail_last (number_from_digits 10 (take start ds)) (10 ^ (length ds - start - 1)) (10 ^ (length ds - start)) (number_from_digits 10 (drop start ds))
    (let e : length ds - start - 1 + 1 ≡ length ds - start = omega arith in ap (λ k. 10 ^ k) (sym e) ∙ tens_next (length ds - start - 1))
    ∙ ap (λ xs. number_from_digits 10 xs % 10) (sym en) in
    record {
      tight = record {
        tens = subst (AllBelowBase 10) (sym en) (below_drop start ds h.tight.tens);
        first = λ p. subst (λ xs. 0 < get_or xs 0 0) (sym en) (first_left ds top start h sl found);
        last = λ p. omega arith;
      };
      room = omega arith;
      zero_top = λ z. absurd (omega arith);
    }
