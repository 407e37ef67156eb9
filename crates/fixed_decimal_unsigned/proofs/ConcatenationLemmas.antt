-- Digits after other digits, with zeros between them.
use Rattle.std.proofs.Common.{◌≡◌, ℕ, zero, suc, ◌+◌, ◌-◌, ◌*◌, ◌%◌, ◌^◌, ◌<◌, ◌≤◌, ◌==◌, max, min, false, List, [], ◌∷◌, ◌++◌, length, length-append, get_or, replicate, true≢false, Result, Ok, Err, is_ok, refl, sym, ap, ◌∙◌, subst, arith}
use Rattle.std.proofs.lemmas.Bool.Decides.{nat_tests}
use Rattle.std.proofs.lemmas.List.{length-replicate}
use Rattle.std.specs.Int.Digits.{number_from_digits, AllBelowBase}
use Rattle.fixed_decimal_unsigned.specs.Concatenation.{Overlaps, Concatenates, MayWantMemory}
use Rattle.fixed_decimal_unsigned.specs.ErrorNumbers.{concatenate_error_number}
use Rattle.fixed_decimal_unsigned.specs.declared.error.ConcatenateError.{ConcatenateError}
use Rattle.fixed_decimal_unsigned.specs.declared.error.ConcatenateError.TheVariants.{Overlap, Memory}
use Rattle.fixed_decimal_unsigned.specs.Number.{Number, digit}
use Rattle.fixed_decimal_unsigned.specs.NonzeroPlaces.{IsFirstPlace, IsLastPlace}
use Rattle.fixed_decimal_unsigned.specs.DigitCount.{HoldsDigits}
use Rattle.fixed_decimal_digits.specs.DigitList.{IsTrimmed, count_of}
use Rattle.fixed_decimal_unsigned.specs.Stored.{IsStored}
use Rattle.fixed_decimal_digits.proofs.TenLemmas.{tens_split, tens_next}
use Rattle.fixed_decimal_digits.proofs.DigitsLemmas.{number_joined, number_cons, below_joined}
use Rattle.fixed_decimal_digits.proofs.CutLemmas.{no_front, tail_last}
use Rattle.fixed_decimal_unsigned.proofs.MantissaLemmas.{number_made}
use Rattle.fixed_decimal_unsigned.proofs.NonzeroLemmas.{first_place, last_place, some_kept}
use Rattle.fixed_decimal_unsigned.proofs.RangeLemmas.{trimmed_of, holds_length}

-- the digits of two numbers with so many zeros between them
abbrev pub joined : List ℕ → ℕ → List ℕ → List ℕ
joined ds zeros es = ds ++ (replicate zeros 0 ++ es)

zeros_before : (zeros : ℕ) (es : List ℕ) → number_from_digits 10 (replicate zeros 0 ++ es) ≡ number_from_digits 10 es
zeros_before zero es = refl
zeros_before (suc n) es =
    number_cons 0 (replicate n 0 ++ es) ∙ no_front (number_from_digits 10 (replicate n 0 ++ es)) (10 ^ length (replicate n 0 ++ es)) ∙ zeros_before n es

after_length : (zeros : ℕ) (es : List ℕ) → length (replicate zeros 0 ++ es) ≡ zeros + length es
after_length zeros es = length-append (replicate zeros 0) es ∙ ap (λ k. k + length es) (length-replicate zeros 0)

pub joined_length : (ds es : List ℕ) (zeros : ℕ) → length (joined ds zeros es) ≡ length ds + (zeros + length es)
joined_length ds es zeros = length-append ds (replicate zeros 0 ++ es) ∙ ap (λ k. length ds + k) (after_length zeros es)

pub joined_number : (ds es : List ℕ) (zeros : ℕ) → number_from_digits 10 (joined ds zeros es) ≡ number_from_digits 10 ds * 10 ^ (zeros + length es) + number_from_digits 10 es
joined_number ds es zeros =
    number_joined ds (replicate zeros 0 ++ es) ∙ ap (λ k. number_from_digits 10 ds * 10 ^ k + number_from_digits 10 (replicate zeros 0 ++ es)) (after_length zeros es)
    ∙ ap (λ n. number_from_digits 10 ds * 10 ^ (zeros + length es) + n) (zeros_before zeros es)

shared : (m n a k b : ℕ) → b ≡ a * k → (m * a + n) * k ≡ m * b + n * k
shared m n a k b e = omega (arith, ap (λ x. m * x) e)

-- the count of the joined digits is the sum
pub joined_count : (ds es : List ℕ) (top u zeros : ℕ) → length es ≤ u + 1 → u + 1 + zeros + length ds ≡ top + 1 → count_of (joined ds zeros es) top ≡ count_of ds top + count_of es u
joined_count ds es top u zeros l at =
    let place : top + 1 - length (joined ds zeros es) ≡ u + 1 - length es = omega (arith, joined_length ds es zeros) in
    ap (λ k. number_from_digits 10 (joined ds zeros es) * 10 ^ k) place
    ∙ ap (λ n. n * 10 ^ (u + 1 - length es)) (joined_number ds es zeros)
    ∙ shared (number_from_digits 10 ds) (number_from_digits 10 es) (10 ^ (zeros + length es)) (10 ^ (u + 1 - length es)) (10 ^ (top + 1 - length ds))
    (tens_split (zeros + length es) (u + 1 - length es) (top + 1 - length ds) (omega arith))

pub zeros_below : (zeros : ℕ) (es : List ℕ) → AllBelowBase 10 es → AllBelowBase 10 (replicate zeros 0 ++ es)
zeros_below zero es h = h
zeros_below (suc n) es h = (omega arith, zeros_below n es h)

first_joined : (ds es : List ℕ) → 0 < length ds → 0 < get_or ds 0 0 → 0 < get_or (ds ++ es) 0 0
first_joined [] es p f = absurd (omega arith)
first_joined (d ∷ ds) es p f = f

last_joined : (m n k : ℕ) → 0 < k → (m * 10 ^ k + n) % 10 ≡ n % 10
last_joined m n k p =
    let e : k - 1 + 1 ≡ k = omega arith in tail_last m (10 ^ (k - 1)) (10 ^ k) n (ap (λ j. 10 ^ j) (sym e) ∙ tens_next (k - 1))

pub joined_trimmed : (ds es : List ℕ) (top u zeros : ℕ) → IsTrimmed ds top → IsTrimmed es u → 0 < length ds → 0 < length es → u + 1 + zeros + length ds ≡ top + 1 → IsTrimmed (joined ds zeros es) top
joined_trimmed ds es top u zeros h k p q at =
    let room : length es ≤ u + 1 = k.room in
    let len : length (joined ds zeros es) ≡ length ds + (zeros + length es) = joined_length ds es zeros in
    let last : number_from_digits 10 (joined ds zeros es) % 10 ≡ number_from_digits 10 es % 10 =
    ap (λ n. n % 10) (joined_number ds es zeros) ∙ last_joined (number_from_digits 10 ds) (number_from_digits 10 es) (zeros + length es) (omega arith) in
    record {
      tight = record {
        tens = below_joined ds (replicate zeros 0 ++ es) h.tight.tens (zeros_below zeros es k.tight.tens);
        first = λ _. first_joined ds (replicate zeros 0 ++ es) p (h.tight.first p);
        last = λ _. subst (λ n. 0 < n) (sym last) (k.tight.last q);
      };
      room = omega arith;
      zero_top = λ z. absurd (omega arith);
    }

-- where the digits of two numbers overlap
pub ends_overlap : (ds es : List ℕ) (top u : ℕ) → IsTrimmed ds top → IsTrimmed es u → 0 < length ds → 0 < length es → top + 1 ≤ u + length ds
    → (a b : Number) → a.count ≡ count_of ds top → b.count ≡ count_of es u → Overlaps a b
ends_overlap ds es top u h k p q meet a b ea eb = record {
  last = top + 1 - length ds;
  first = u;
  ends = subst (λ n. IsLastPlace n (top + 1 - length ds)) (sym ea) (last_place ds top h p);
  begins = subst (λ n. IsFirstPlace n u) (sym eb) (first_place es u k q);
  meet = omega arith;
}

pub ends_apart : (ds es : List ℕ) (top u gap : ℕ) → IsTrimmed ds top → IsTrimmed es u → 0 < length ds → 0 < length es → u + 1 + gap + length ds ≡ top + 1
    → (a b : Number) → a.count ≡ count_of ds top → b.count ≡ count_of es u → ¬ (Overlaps a b)
ends_apart ds es top u gap h k p q at a b ea eb o =
    let low = o.ends.lowest (top + 1 - length ds) (subst (λ n. 0 < digit n (top + 1 - length ds)) (sym ea) (last_place ds top h p).nonzero) in
    let reach = (last_place ds top h p).lowest o.last (subst (λ n. 0 < digit n o.last) ea o.ends.nonzero) in
    let under = (first_place es u k q).highest o.first (subst (λ n. 0 < digit n o.first) eb o.begins.nonzero) in
    let meet = o.meet in
    absurd (omega arith)

tested_positive : (n : ℕ) → false ≡ (n == 0) → 0 < n
tested_positive n e = grind (arith, nat_tests)

-- of two numbers other than zero, as they are kept
module _ (ds es : List ℕ) (top u low high lo hi : ℕ) (s : IsStored ds top low high) (t : IsStored es u lo hi) (a b : Number)
    (ea : number_made (count_of ds top) low high ≡ a) (eb : number_made (count_of es u) lo hi ≡ b) (za : false ≡ (a.count == 0)) (zb : false ≡ (b.count == 0)) where
  pa : 0 < a.count
  pa = tested_positive a.count za

  pb : 0 < b.count
  pb = tested_positive b.count zb

  front : IsTrimmed ds top
  front = trimmed_of ds top low high s

  behind : IsTrimmed es u
  behind = trimmed_of es u lo hi t

  some : 0 < length ds
  some = some_kept ds top (subst (λ v. 0 < v.count) (sym ea) pa)

  some_after : 0 < length es
  some_after = some_kept es u (subst (λ v. 0 < v.count) (sym eb) pb)

  pub kept_overlap : top + 1 ≤ u + length ds → Overlaps a b
  kept_overlap meet = ends_overlap ds es top u front behind some some_after meet a b (ap (λ v. v.count) (sym ea)) (ap (λ v. v.count) (sym eb))

  pub kept_apart : (gap : ℕ) → u + 1 + gap + length ds ≡ top + 1 → ¬ (Overlaps a b)
  kept_apart gap at = ends_apart ds es top u gap front behind some some_after at a b (ap (λ v. v.count) (sym ea)) (ap (λ v. v.count) (sym eb))

  pub kept_stored : (new : List ℕ) (gap l h : ℕ) → new ≡ joined ds gap es → u + 1 + gap + length ds ≡ top + 1 → l ≡ min low lo → h ≡ max high hi → IsStored new top l h
  kept_stored new gap l h e at el eh =
      let trimmed : IsTrimmed new top = subst (λ xs. IsTrimmed xs top) (sym e) (joined_trimmed ds es top u gap front behind some some_after at) in
      let len : length new ≡ length ds + (gap + length es) = ap length e ∙ joined_length ds es gap in
      let r = s.room in let q = t.room in let under = s.below in let low_end = s.low_end in let ones = s.ones in
      record {
        tight = trimmed.tight;
        room = omega arith;
        below = omega arith;
        low_end = omega arith;
        ones = omega arith;
        zero_top = trimmed.zero_top;
      }

  sum_counts : (gap : ℕ) → u + 1 + gap + length ds ≡ top + 1 → count_of (joined ds gap es) top ≡ a.count + b.count
  sum_counts gap at =
      joined_count ds es top u gap behind.room at ∙ ap (λ v. v.count + count_of es u) ea ∙ ap (λ v. a.count + v.count) eb

  pub kept_sum : (new : List ℕ) (gap l h : ℕ) → new ≡ joined ds gap es → u + 1 + gap + length ds ≡ top + 1 → l ≡ min low lo → h ≡ max high hi → Concatenates a b (number_made (count_of new top) l h)
  kept_sum new gap l h e at el eh = record {
    count = ap (λ xs. count_of xs top) e ∙ sum_counts gap at;
    low = el ∙ ap (λ v. min v.low lo) ea ∙ ap (λ v. min a.low v.low) eb;
    high = eh ∙ ap (λ v. max v.high hi) ea ∙ ap (λ v. max a.high v.high) eb;
  }

  pub kept_memory : (gap : ℕ) → u + 1 + gap + length ds ≡ top + 1 → 16 < length ds + (gap + length es) → MayWantMemory a b
  kept_memory gap at long = record {
    front = pa;
    behind = pb;
    long = λ place holds.
        let few = holds_length (joined ds gap es) top place 16 (joined_trimmed ds es top u gap front behind some some_after at)
        (subst (λ n. HoldsDigits n place 16) (sym (sum_counts gap at)) holds) in
        let len = joined_length ds es gap in
        absurd (omega arith);
  }

-- an answer of `concatenate_end`
abbrev pub Answer : Type 0 → Type 0
Answer A = Result (Unit {0}) (ConcatenateError A)

pub not_memory : {A : Type 0} (value : A) → ◌≡◌ {A = Answer A} (Err (Memory value)) (Err (Overlap value)) → ⊥
not_memory {A} value e = absurd (omega (arith, ap number_in e))
  where
    number_in : Answer A → ℕ
    number_in (Ok _) = 0
    number_in (Err fault) = concatenate_error_number fault

pub not_refused : {A : Type 0} (fault : ConcatenateError A) → ◌≡◌ {A = Answer A} (Ok tt) (Err fault) → ⊥
not_refused fault e = true≢false (ap is_ok e)
