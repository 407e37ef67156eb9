-- Digits that are looked at eight at once.
use Rattle.std.proofs.Common.{◌≡◌, ℕ, zero, suc, ◌+◌, ◌-◌, ◌%◌, ◌^◌, ◌<◌, ◌≤◌, leb, Bool, true, false, not, ◌||◌, cond, List, [], ◌∷◌, map, length, get_or, take, drop, replicate, Fits, w8, nat_le, nat_lt, slice_index, refl, sym, ap, ◌∙◌, subst, arith, inl, inr}
use Rattle.std.proofs.lemmas.Bool.{agree_below, agree_below_at, not-true, cases_eq, eq-eqb, ne_eqb, cond-true, cond-false}
use Rattle.std.proofs.lemmas.Bool.Decides.{nat_tests}
use Rattle.std.proofs.lemmas.Simd.{map-map, mask_l-mod, length-chunk, get_or-chunk, leading_from_mask_l, trailing_mask_l, zip2_splat, zip2_splat_left}
use Rattle.std.proofs.lemmas.List.{length-map, take-take}
use Rattle.std.proofs.lemmas.List.Sums.{prefix_len-le-length, prefix_len_passes, prefix_len_stops}
use Rattle.std.specs.Char.{digit_value}
use Rattle.std.specs.List.{prefix_len}
use lib.Lanes.{chunk, zip2, mask_l, top}
use Rattle.fixed_decimal.specs.NumberText.{AreDigits}
use Rattle.icu_decimal_direct.specs.Lanes.{first_set}

run_is : (p : ℕ → Bool) (v : List ℕ) (n : ℕ) → length v ≡ n → n ≤ 64 → first_set (mask_l (map p v)) n ≡ prefix_len (λ x. not (p x)) v
run_is p v n long few =
    elim (cases_eq (mask_l (map p v)) 0) [
      | inl none ↦ cond-true _ _ _ (eq-eqb _ _ none) ∙ sym (leading_from_mask_l p v none ∙ long)
      | inr some ↦ cond-false _ _ _ (ne_eqb _ _ some) ∙ trailing_mask_l p 64 v (omega arith) (omega arith)
    ]

-- what a lane is made of its byte: all ones where it is no digit
abbrev pub lane : ℕ → ℕ
lane x = cond (leb 10 ((x + (256 - 48)) % 256)) 255 0

pub lanes_are : (n : ℕ) (v : List ℕ) → length v ≡ n → zip2 (λ a b. cond (leb a b) 255 0) (replicate n 10) (zip2 (λ a b. (a + (256 - b)) % 256) v (replicate n 48)) ≡ map lane v
lanes_are n v long =
    ap (zip2 (λ a b. cond (leb a b) 255 0) (replicate n 10)) (zip2_splat {Y = ℕ} (λ a b. (a + (256 - b)) % 256) v n 48 long)
    ∙ zip2_splat_left {X = ℕ} (λ a b. cond (leb a b) 255 0) 10 n (map (λ x. (x + (256 - 48)) % 256) v) (length-map v (λ x. (x + (256 - 48)) % 256) ∙ long)
    ∙ map-map (λ y. cond (leb 10 y) 255 0) (λ x. (x + (256 - 48)) % 256) v

abbrev stops : ℕ → Bool
stops x = top 7 (lane x)

told : agree_below (λ x. stops x || nat_lt (digit_value x) 10) (λ _. true) 256 ≡ true
told = refl

pub digits_each : (n : ℕ) (bs : List ℕ) → n ≤ length bs → ((k : ℕ) → k < n → digit_value (get_or bs k 0) < 10) → AreDigits (take n bs)
digits_each zero bs within each = tt
digits_each (suc n) [] within each = absurd (omega (arith, within))
digits_each (suc n) (b ∷ bs) within each = (each 0 (omega arith), digits_each n bs (omega (arith, within)) (λ k below. each (suc k) (omega (arith, below))))

digit_told : (x : ℕ) → x < 256 → stops x ≡ false → nat_lt (digit_value x) 10 ≡ true
digit_told x below goes = sym (ap (λ b. b || nat_lt (digit_value x) 10) goes) ∙ agree_below_at (λ x. stops x || nat_lt (digit_value x) 10) (λ _. true) 256 x told below

stopped : agree_below (λ x. not (stops x) || nat_le 10 (digit_value x)) (λ _. true) 256 ≡ true
stopped = refl

stop_told : (x : ℕ) → x < 256 → not (stops x) ≡ false → nat_le 10 (digit_value x) ≡ true
stop_told x below goes = sym (ap (λ b. b || nat_le 10 (digit_value x)) goes) ∙ agree_below_at (λ x. not (stops x) || nat_le 10 (digit_value x)) (λ _. true) 256 x stopped below

at_least : (n m : ℕ) → nat_le n m ≡ true → n ≤ m
at_least n m h = grind (arith, nat_tests)

is_below : (n m : ℕ) → nat_lt n m ≡ true → n < m
is_below n m h = grind (arith, nat_tests)

module _ (d : List ℕ) (i n r : ℕ) (z : List ℕ) (room : i + n ≤ length d) (most : n ≤ 64)
    (fits : (k : ℕ) → Fits w8 (get_or d k 0)) (found : r ≡ first_set (mask_l (map (top 7) z) % 2 ^ 64) n)
    (lanes : z ≡ map lane (chunk i n d)) where
  long : length (chunk i n d) ≡ n
  long = length-chunk i n d room

  counted : r ≡ prefix_len (λ x. not (stops x)) (chunk i n d)
  counted =
      let v = chunk i n d in
      let mask = ap (λ l. mask_l l % 2 ^ 64) (ap (map (top 7)) lanes ∙ map-map (top 7) lane v) ∙ mask_l-mod (map stops v) 64 (omega (arith, length-map v stops, long, most)) in
      found ∙ ap (λ m. first_set m n) mask ∙ run_is stops v n long most

  pub lanes_few : r ≤ n
  lanes_few = omega (arith, counted, long, prefix_len-le-length (λ x. not (stops x)) (chunk i n d))

  each_digit : (k : ℕ) → k < r → digit_value (get_or (chunk i n d) k 0) < 10
  each_digit k below =
      let at = get_or-chunk i n d k 0 (omega (arith, below, lanes_few)) in
      let goes = not-true _ (prefix_len_passes (λ x. not (stops x)) (chunk i n d) k 0 (omega (arith, counted, below))) in
      let byte : get_or (chunk i n d) k 0 < 256 = subst (λ x. x < 256) (sym at) (fits (i + k)).fits in
      is_below _ _ (digit_told (get_or (chunk i n d) k 0) byte goes)

  pub lanes_digits : AreDigits (take r (drop i d))
  lanes_digits = subst AreDigits (take-take r n (drop i d) lanes_few) (digits_each r (chunk i n d) (omega (arith, lanes_few, long)) each_digit)

  pub lanes_stop : r < n → 10 ≤ digit_value (slice_index d (i + r))
  lanes_stop less =
      let at : get_or (chunk i n d) r 0 ≡ get_or d (i + r) 0 = get_or-chunk i n d r 0 less in
      let v = chunk i n d in
      let few : prefix_len (λ x. not (stops x)) v < length v = omega (arith, counted, long, less) in
      let goes = prefix_len_stops (λ x. not (stops x)) v 0 few in
      let here : get_or v (prefix_len (λ x. not (stops x)) v) 0 ≡ get_or d (i + r) 0 = ap (λ k. get_or v k 0) (sym counted) ∙ at in
      let byte : get_or d (i + r) 0 < 256 = (fits (i + r)).fits in
      at_least _ _ (stop_told (get_or d (i + r) 0) byte (subst (λ x. not (stops x) ≡ false) here goes))

pub digits_take : (n : ℕ) (bytes : List ℕ) → AreDigits bytes → AreDigits (take n bytes)
digits_take zero bytes h = tt
digits_take (suc n) [] h = tt
digits_take (suc n) (c ∷ cs) h = (h.0, digits_take n cs h.1)

-- eight bytes after eight
digits_after : (a b : ℕ) (text : List ℕ) → a ≤ length text → AreDigits (take a text) → AreDigits (take b (drop a text)) → AreDigits (take (a + b) text)
digits_after zero b text within h k = let none : 0 + b ≡ b = omega arith in subst (λ n. AreDigits (take n text)) (sym none) k
digits_after (suc a) b [] within h k = absurd (omega (arith, within))
digits_after (suc a) b (c ∷ cs) within h k =
    let next : suc a + b ≡ suc (a + b) = omega arith in
    subst (λ n. AreDigits (take n (c ∷ cs))) (sym next) (h.0, digits_after a b cs (omega (arith, within)) h.1 k)

pub digits_both_eights : (text : List ℕ) (a b n : ℕ) → a ≡ 8 → 8 ≤ length text → n ≡ 8 + b → AreDigits (take a (drop 0 text)) → AreDigits (take b (drop 8 text)) → AreDigits (take n text)
digits_both_eights text a b n first within whole h k =
    subst (λ m. AreDigits (take m text)) (sym whole) (digits_after 8 b text within (subst (λ m. AreDigits (take m text)) first h) k)

-- digits that lap over the first ones
pub digits_lapped : (text : List ℕ) (first last more : ℕ) → last ≤ first → last ≤ length text → AreDigits (take first (drop 0 text)) → AreDigits (take more (drop last text)) → AreDigits (take (last + more) text)
digits_lapped text first last more over within h k =
    digits_after last more text within (subst AreDigits (take-take last first text over) (digits_take last (take first text) h)) k
