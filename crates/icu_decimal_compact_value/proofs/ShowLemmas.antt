-- From the rounded number to what is shown: the choice, and the range of the significand.
use Rattle.std.proofs.Common.{◌≡◌, ℕ, suc, ◌+◌, ◌-◌, ◌*◌, ◌/◌, ◌%◌, ◌^◌, ◌<◌, ◌≤◌, ◌==◌, ◌&&◌, max, min, Bool, true, false, cond, List, Option, None, Some, refl, sym, ap, ◌∙◌, subst, arith, ◌⊎◌, inl, inr, ⊎_elim}
use Rattle.std.proofs.Math.Nat.{mul-div_cancel, mul-le-mul_right, mul-lt-mul_of_pos_right, mod_self}
use Rattle.std.proofs.lemmas.Bool.{cases_lt}
use Rattle.std.proofs.lemmas.Bool.Decides.{nat_tests}
use Rattle.std.proofs.lemmas.Nat.{pow-add}
use Rattle.fixed_decimal.specs.Number.{Number}
use Rattle.fixed_decimal.specs.Range.{IsHighest, IsLowest}
use Rattle.fixed_decimal.specs.Shifts.{TrimsStart}
use Rattle.fixed_decimal.proofs.TenLemmas.{tens_apart, tens_positive}
use Rattle.icu_decimal_compact_value.specs.declared.entry.CompactEntry.{CompactEntry}
use Rattle.icu_decimal_compact_value.specs.Choice.{Choice, chosen, entry_at, entry_of, exponent_of, exponent_place, has_exponent_at, is_carried, is_carried_to, next_at, shown_under, under}
use Rattle.icu_decimal_compact_value.specs.ShownValue.{magnitude, unit_place}
use Rattle.icu_decimal_compact_value.specs.Significand.{Shows}
use Rattle.icu_decimal_compact_value.specs.Steps.{IsDivided, IsRoundedTo}
use Rattle.icu_decimal_compact_value.proofs.UnitLemmas.{entry_from_ones}

pub tens_sum : (i j : ℕ) → 10 ^ (i + j) ≡ 10 ^ i * 10 ^ j
tens_sum i j = pow-add 10 i j

pub cancel_less : (a b t : ℕ) → a * t < b * t → a < b
cancel_less a b t h = ⊎_elim (λ l. l) (λ l. let m = mul-le-mul_right {m = b} {n = a} t l in absurd (omega arith)) (cases_lt a b)

pub cancel_same : (a b t : ℕ) → 0 < t → a * t ≡ b * t → a ≡ b
cancel_same a b t p h = ⊎_elim (λ l. let m = mul-lt-mul_of_pos_right {m = a} {n = b} l p in absurd (omega arith))
    (λ l. ⊎_elim (λ k. let m = mul-lt-mul_of_pos_right {m = b} {n = a} k p in absurd (omega arith)) (λ k. omega arith) (cases_lt b a)) (cases_lt a b)

module _ (oh place e v count high : ℕ) (h : IsHighest oh place v high) (whole : count * 10 ^ e ≡ v) (room : place ≤ 32768 + e) where
  scaled : (a : ℕ) → count < 10 ^ (a + 1) → v < 10 ^ (a + e + 1)
  scaled a l =
      let m : count * 10 ^ e < 10 ^ (a + 1) * 10 ^ e = mul-lt-mul_of_pos_right {m = count} {n = 10 ^ (a + 1)} l (tens_positive e) in
      let s = tens_sum (a + 1) e in
      let k : a + 1 + e ≡ a + e + 1 = omega arith in
      let t : 10 ^ (a + 1 + e) ≡ 10 ^ (a + e + 1) = ap (λ x. 10 ^ x) k in
      omega arith

  unscaled : (a : ℕ) → high ≤ a + e → count < 10 ^ (a + 1)
  unscaled a l =
      let up = tens_apart (high + 1) (a + 1 + e) (omega arith) in
      let b = h.holds in
      let s = tens_sum (a + 1) e in
      cancel_less count (10 ^ (a + 1)) (10 ^ e) (omega arith)

  -- the range of a number divided by ten to e
  pub divided_high : IsHighest (max 32768 (oh - e)) 0 count (max 32768 (high - e))
  divided_high = record {
    keeps = let k = h.keeps in omega arith;
    position = omega arith;
    holds = unscaled (max 32768 (high - e)) (omega arith);
    lowest = λ a k p b. let l = h.lowest (a + e) (omega arith) (omega arith) (scaled a b) in omega arith;
  }

module _ (o count low : ℕ) (is : count ≡ 10 ^ o) where
  one_low : IsLowest o count low → low ≡ o
  one_low l =
      let w : count % 10 ^ o ≡ 0 = ap (λ x. x % 10 ^ o) is ∙ mod_self (10 ^ o) in
      let up = l.highest o (omega arith) w in
      let under = l.under in
      omega arith

  one_high : (high : ℕ) → IsHighest o 0 count high → high ≡ o
  one_high high h =
      let p = tens_positive o in
      let e : o + 1 ≡ suc o = omega arith in
      let t : 10 ^ (o + 1) ≡ 10 ^ suc o = ap (λ x. 10 ^ x) e in
      let l = h.lowest o (omega arith) (omega arith) (omega arith) in
      let k = h.keeps in
      omega arith

-- what a carried value is
pub carried_value : (ones k v : ℕ) (next : Option CompactEntry) → ((v == 10 ^ suc k) && has_exponent_at ones (suc k) next) ≡ true → v ≡ 10 ^ suc k
carried_value ones k v next e = go (v == 10 ^ suc k) refl e
  where
    go : (b : Bool) → (v == 10 ^ suc k) ≡ b → (b && has_exponent_at ones (suc k) next) ≡ true → v ≡ 10 ^ suc k
    go true f g = grind (arith, nat_tests, f)
    go false f g = absurd (grind (arith, g))

pub carried_exponent : (ones k v : ℕ) (next : Option CompactEntry) → ((v == 10 ^ suc k) && has_exponent_at ones (suc k) next) ≡ true → ones + exponent_of next ≡ suc k
carried_exponent ones k v next e = go (v == 10 ^ suc k) next e
  where
    go : (b : Bool) (o : Option CompactEntry) → (b && has_exponent_at ones (suc k) o) ≡ true → ones + exponent_of o ≡ suc k
    go true None g = absurd (grind (arith, g))
    go true (Some x) g = grind (arith, nat_tests, g)
    go false o g = absurd (grind (arith, g))

choice_of : (value count x : ℕ) (entry : Option CompactEntry) → x ≡ exponent_of entry → count * 10 ^ x ≡ value → under value entry ≡ record { count = count; exponent = x; entry = entry }
choice_of value count x entry e w =
    let q : value / 10 ^ exponent_of entry ≡ count = ap (λ y. value / 10 ^ y) (sym e) ∙ ap (λ z. z / 10 ^ x) (sym w) ∙ mul-div_cancel count (tens_positive x) in
    made (value / 10 ^ exponent_of entry) count (exponent_of entry) x q (sym e)
  where
    made : (a b c d : ℕ) → a ≡ b → c ≡ d → ◌≡◌ {A = Choice} (record { count = a; exponent = c; entry = entry }) (record { count = b; exponent = d; entry = entry })
    made a b c d f g = ap (λ y. record { count = y; exponent = c; entry = entry }) f ∙ ap (λ y. record { count = b; exponent = y; entry = entry }) g

number_of : (v : Number) (c l h : ℕ) → v.count ≡ c → v.low ≡ l → v.high ≡ h → v ≡ record { count = c; low = l; high = h }
number_of v c l h a b d = ap (λ x. record { count = x; low = v.low; high = v.high }) a ∙ ap (λ x. record { count = c; low = x; high = v.high }) b ∙ ap (λ x. record { count = c; low = l; high = x }) d

module _ (entries : List CompactEntry) (number rounded : Number) (r : IsRoundedTo entries number rounded) (place : ℕ) (at : place ≡ magnitude 32768 number.count) where
  same_carry : is_carried_to 32768 entries place rounded.count ≡ is_carried 32768 entries number.count
  same_carry = ap (λ k. is_carried_to 32768 entries k rounded.count) at ∙ ap (is_carried_to 32768 entries (magnitude 32768 number.count)) r.value

  choice_with : (b : Bool) → is_carried 32768 entries number.count ≡ b → (entry : Option CompactEntry) → entry ≡ cond b (next_at 32768 entries (magnitude 32768 number.count)) (entry_at 32768 entries (magnitude 32768 number.count))
      → (x count : ℕ) → x ≡ exponent_of entry → count * 10 ^ x ≡ rounded.count → chosen 32768 entries number.count ≡ record { count = count; exponent = x; entry = entry }
  choice_with b c entry e x count f w =
      ap (λ t. under (shown_under 32768 entries number.count) (cond t (next_at 32768 entries (magnitude 32768 number.count)) (entry_at 32768 entries (magnitude 32768 number.count)))) c
      ∙ ap (under (shown_under 32768 entries number.count)) (sym e)
      ∙ choice_of (shown_under 32768 entries number.count) count x entry f (w ∙ r.value)

  pub shows_plain : (divided : Number) (index : Option ℕ) (x : ℕ) → is_carried_to 32768 entries place rounded.count ≡ false → entry_of entries index ≡ entry_at 32768 entries place → x ≡ exponent_of (entry_of entries index)
      → IsDivided x rounded divided → Shows entries number (record { significand = divided; exponent = x; entry = index })
  shows_plain divided index x c e f d =
      let plain : is_carried 32768 entries number.count ≡ false = sym same_carry ∙ c in
      record {
        choice = choice_with false plain (entry_of entries index) (e ∙ ap (entry_at 32768 entries) at) x divided.count f d.count;
        carried = λ t. absurd (grind (arith, t, plain));
        padded = λ t. record {
          low = d.low;
          high = subst (IsHighest (max 32768 (number.high - x)) 0 divided.count) (sym d.high)
              (divided_high number.high (unit_place (exponent_place 32768 entries) (magnitude 32768 number.count)) x rounded.count divided.count rounded.high r.high d.count
              (let same : x ≡ exponent_of (entry_at 32768 entries (magnitude 32768 number.count)) = f ∙ ap exponent_of (e ∙ ap (entry_at 32768 entries) at) in omega arith));
        };
      }

  -- there is room below for the exponent of the entry
  pub plain_room : (x : ℕ) → x ≡ exponent_of (entry_at 32768 entries place) → x < 256 → x ≤ rounded.low
  plain_room x e l = go (entry_from_ones 32768 entries place)
    where
      low : rounded.low ≡ min (min (32768 + x) (place - 1)) 32768
      low = r.low ∙ ap (λ k. min (unit_place (exponent_place 32768 entries) k) 32768) (sym at) ∙ ap (λ y. min (min (32768 + y) (place - 1)) 32768) (sym e)

      go : (entry_at 32768 entries place ≡ None) ⊎ (32768 ≤ place) → x ≤ rounded.low
      go (inl z) = let none : x ≡ 0 = e ∙ ap exponent_of z in omega arith
      go (inr h) = let k = low in omega arith

  exponent_is : is_carried_to 32768 entries place rounded.count ≡ true → 32768 + exponent_of (next_at 32768 entries place) ≡ suc place
  exponent_is c = carried_exponent 32768 place rounded.count (next_at 32768 entries place) c

  pub shows_carried : (divided significand : Number) (i x : ℕ) → is_carried_to 32768 entries place rounded.count ≡ true → entry_of entries (Some i) ≡ next_at 32768 entries place → x ≡ exponent_of (entry_of entries (Some i))
      → IsDivided x rounded divided → TrimsStart divided significand → Shows entries number (record { significand = significand; exponent = x; entry = Some i })
  shows_carried divided significand i x c e f d t =
      let yes : is_carried 32768 entries number.count ≡ true = sym same_carry ∙ c in
      let up : 32768 + x ≡ suc place = ap (λ y. 32768 + y) (f ∙ ap exponent_of e) ∙ exponent_is c in
      let v : rounded.count ≡ 10 ^ suc place = carried_value 32768 place rounded.count (next_at 32768 entries place) c in
      let one : divided.count ≡ 10 ^ 32768 = quotient_one 32768 x divided.count (d.count ∙ v ∙ ap (λ y. 10 ^ y) (sym up)) in
      let count : significand.count ≡ 10 ^ 32768 = t.count ∙ one in
      record {
        choice = choice_with true yes (entry_of entries (Some i)) (e ∙ ap (next_at 32768 entries) at) x significand.count f (ap (λ y. y * 10 ^ x) t.count ∙ d.count);
        carried = λ u. number_of significand (10 ^ 32768) 32768 32768 count (t.low ∙ one_low 32768 divided.count divided.low one d.low) (one_high 32768 divided.count divided.low one significand.high t.high);
        padded = λ u. absurd (grind (arith, u, yes));
      }
    where
      quotient_one : (o x count : ℕ) → count * 10 ^ x ≡ 10 ^ (o + x) → count ≡ 10 ^ o
      quotient_one o x count w = cancel_same count (10 ^ o) (10 ^ x) (tens_positive x) (w ∙ tens_sum o x)
