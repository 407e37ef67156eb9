-- Each call makes one decimal of a decimal, so a run of calls ends in one.
use Rattle.std.proofs.Common.{◌≡◌, ◌≢◌, ℕ, zero, suc, ◌+◌, ◌*◌, ◌/◌, ◌%◌, ◌^◌, ◌<◌, ◌≤◌, ◌⊎◌, List, [], ◌∷◌, refl, sym, ap, ◌∙◌, subst, arith, inl, inr}
use Rattle.std.specs.Prelude.{ℤ}
use Rattle.std.proofs.Math.Nat.{mul-div_cancel, mul-le-mul_right}
use Rattle.std.proofs.lemmas.Bool.{cases_lt}
use Rattle.fixed_decimal_signed.specs.Number.{Number, place}
use Rattle.fixed_decimal_signed.specs.Range.{IsHighest, IsLowest, Rounds}
use Rattle.fixed_decimal_signed.specs.Rounding.{IsMultiple, distance, IsNearest, IsRounded, IsLimited, count_limit, Takes, increment_number}
use Rattle.fixed_decimal_signed.specs.Shifts.{rise, fall, KeepsPlaces, IsShifted, Shifts, TrimsStart, TrimsEnd, TrimsWhole, PadsStart, PadsEnd, Cuts}
use Rattle.fixed_decimal_signed.specs.declared.UnsignedRoundingMode.{UnsignedRoundingMode}
use Rattle.fixed_decimal_signed.specs.declared.UnsignedRoundingMode.TheVariants.{Expand, Trunc, HalfExpand, HalfTrunc, HalfEven}
use Rattle.fixed_decimal_signed.specs.declared.RoundingIncrement.{RoundingIncrement}
use Rattle.fixed_decimal_signed.proofs.MantissaLemmas.{same_number}
use Rattle.fixed_decimal_signed.proofs.TenLemmas.{tens_positive}
use Rattle.fixed_decimal.specs.Calls.{Makes, Run, RunsFrom}
use Rattle.fixed_decimal_signed.specs.SignedRounding.{size_mode, RoundsSigned}
use Rattle.fixed_decimal_signed.specs.SignedValue.{SignedValue, OnAbsolute}
use Rattle.fixed_decimal.specs.declared.call.Call.{Call}
use Rattle.fixed_decimal.specs.declared.call.Call.TheVariants.{MultiplyPow10, TrimStart, TrimEnd, TrimEndIfInteger, PadStart, PadEnd, SetMaxPosition, Round, SetSign, ApplySignDisplay}
use Rattle.fixed_decimal_signed.specs.declared.SignedRoundingMode.{SignedRoundingMode}
use Rattle.fixed_decimal.proofs.SignedReadOnceLemmas.{same_signed, signed_reads_once}

both_least : (m k : ℕ) → m ≤ k → k ≤ m → m ≡ k
both_least m k h l = omega arith

-- two nearest multiples are one, or equally near
nearest_once : (unit n m k : ℕ) (takes gives : ℕ → Type 0) → IsNearest unit n m takes → IsNearest unit n k gives → ((m ≢ k) → takes k → gives m → ⊥) → m ≡ k
nearest_once unit n m k takes gives h g rule =
    let near = h.nearest k g.multiple in
    let back = g.nearest m h.multiple in
    elim (cases_lt m k) [
      | inl less ↦ absurd (rule (λ e. omega arith) (h.tied k g.multiple (λ e. omega arith) (omega arith)) (g.tied m h.multiple (λ e. omega arith) (omega arith)))
      | inr over ↦ elim (cases_lt k m) [
        | inl less ↦ absurd (rule (λ e. omega arith) (h.tied k g.multiple (λ e. omega arith) (omega arith)) (g.tied m h.multiple (λ e. omega arith) (omega arith)))
        | inr under ↦ omega arith
      ]
    ]

-- of two even counts of units one is no nearest multiple, since an odd count lies between them
between : (unit n m k : ℕ) → 0 < unit → m + 2 * unit ≤ k → distance n m ≡ distance n k → distance n (m + unit) < distance n m
between unit n m k p l e = omega arith

even_apart : (unit a b : ℕ) → a < b → a * (2 * unit) + 2 * unit ≤ b * (2 * unit)
even_apart unit a b l = let more : (a + 1) * (2 * unit) ≤ b * (2 * unit) = mul-le-mul_right (2 * unit) (omega arith) in omega arith

one_more : (unit m c : ℕ) → m ≡ c * unit → m + unit ≡ (c + 1) * unit
one_more unit m c e = omega arith

counts_order : (unit a b : ℕ) → a * (2 * unit) < b * (2 * unit) → a < b
counts_order unit a b l =
    elim (cases_lt a b) [
      | inl less ↦ less
      | inr over ↦ (let more : b * (2 * unit) ≤ a * (2 * unit) = mul-le-mul_right (2 * unit) over in absurd (omega arith))
    ]

even_below : (unit n m k : ℕ) (takes : ℕ → Type 0) → IsNearest unit n m takes → distance n m ≡ distance n k → IsMultiple (2 * unit) m → IsMultiple (2 * unit) k → m < k → ⊥
even_below zero n m k takes h e even other l =
    let first : m ≡ even.0 * (2 * 0) = even.1 in let second : k ≡ other.0 * (2 * 0) = other.1 in omega arith
even_below (suc u) n m k takes h e even other l =
    let apart : even.0 * (2 * suc u) + 2 * suc u ≤ other.0 * (2 * suc u) =
    even_apart (suc u) even.0 other.0 (counts_order (suc u) even.0 other.0 (subst (λ x. x < other.0 * (2 * suc u)) even.1 (subst (λ x. m < x) other.1 l))) in
    let first : m ≡ even.0 * (2 * suc u) = even.1 in
    let second : k ≡ other.0 * (2 * suc u) = other.1 in
    let far : m + 2 * suc u ≤ k = omega arith in
    let nearer = between (suc u) n m k (omega arith) far e in
    let near = h.nearest (m + suc u) (h.multiple.0 + 1, one_more (suc u) m h.multiple.0 h.multiple.1) in
    omega arith

even_once : (unit n m k : ℕ) → IsNearest unit n m (λ _. IsMultiple (2 * unit) m) → IsNearest unit n k (λ _. IsMultiple (2 * unit) k) → m ≢ k → IsMultiple (2 * unit) m → IsMultiple (2 * unit) k → ⊥
even_once unit n m k h g ne even other =
    let near = h.nearest k g.multiple in
    let back = g.nearest m h.multiple in
    elim (cases_lt m k) [
      | inl less ↦ even_below unit n m k (λ _. IsMultiple (2 * unit) m) h (omega arith) even other less
      | inr over ↦ elim (cases_lt k m) [
        | inl less ↦ even_below unit n k m (λ _. IsMultiple (2 * unit) k) g (omega arith) other even less
        | inr under ↦ ne (omega arith)
      ]
    ]

pub rounded_once : (mode : UnsignedRoundingMode) (unit n m k : ℕ) → IsRounded mode unit n m → IsRounded mode unit n k → m ≡ k
rounded_once Expand unit n m k h g = both_least m k (h.least k g.multiple g.over) (g.least m h.multiple h.over)
rounded_once Trunc unit n m k h g = both_least m k (g.greatest m h.multiple h.under) (h.greatest k g.multiple g.under)
rounded_once HalfExpand unit n m k h g = nearest_once unit n m k (λ other. other ≤ m) (λ other. other ≤ k) h g (λ ne a b. ne (both_least m k b a))
rounded_once HalfTrunc unit n m k h g = nearest_once unit n m k (λ other. m ≤ other) (λ other. k ≤ other) h g (λ ne a b. ne (both_least m k a b))
rounded_once HalfEven unit n m k h g = nearest_once unit n m k (λ _. IsMultiple (2 * unit) m) (λ _. IsMultiple (2 * unit) k) h g (λ ne a b. even_once unit n m k h g ne a b)

limited_once : (m a b limit : ℕ) → ((m < limit) × (a ≡ m)) ⊎ ((limit ≤ m) × (a ≡ 0)) → ((m < limit) × (b ≡ m)) ⊎ ((limit ≤ m) × (b ≡ 0)) → a ≡ b
limited_once m a b limit (inl h) (inl g) = h.1 ∙ sym g.1
limited_once m a b limit (inl h) (inr g) = let under = h.0 in let over = g.0 in absurd (omega arith)
limited_once m a b limit (inr h) (inl g) = let over = h.0 in let under = g.0 in absurd (omega arith)
limited_once m a b limit (inr h) (inr g) = h.1 ∙ sym g.1

takes_once : (mode : UnsignedRoundingMode) (unit old a b : ℕ) → Takes mode unit old a → Takes mode unit old b → a ≡ b
takes_once mode unit old a b h g =
    let same : h.multiple ≡ g.multiple = rounded_once mode unit old h.multiple g.multiple h.rounded g.rounded in
    limited_once g.multiple a b count_limit (subst (λ m. IsLimited m a) same h.is) g.is

highest_once : (least place count a b : ℕ) → IsHighest least place count a → IsHighest least place count b → a ≡ b
highest_once least place count a b h g = both_least a b (h.lowest b g.keeps g.position g.holds) (g.lowest a h.keeps h.position h.holds)

lowest_once : (most count a b : ℕ) → IsLowest most count a → IsLowest most count b → a ≡ b
lowest_once most count a b h g = both_least a b (g.highest a h.under h.whole) (h.highest b g.under g.whole)

number_once : (a b : Number) → a.count ≡ b.count → a.low ≡ b.low → a.high ≡ b.high → a ≡ b
number_once a b c l h = same_number a.count b.count a.low b.low a.high b.high c l h

rounds_once : (mode : UnsignedRoundingMode) (increment : RoundingIncrement) (place : ℕ) (old a b : Number) → Rounds mode increment place old a → Rounds mode increment place old b → a ≡ b
rounds_once mode increment place old a b h g =
    let count : a.count ≡ b.count = takes_once mode (increment_number increment * 10 ^ place) old.count a.count b.count h.taken g.taken in
    number_once a b count (h.low ∙ sym g.low) (highest_once old.high place b.count a.high b.high (subst (λ c. IsHighest old.high place c a.high) count h.high) g.high)

times_once : (a b k n : ℕ) → a * 10 ^ k ≡ n → b * 10 ^ k ≡ n → a ≡ b
times_once a b k n e f = sym (mul-div_cancel a (tens_positive k)) ∙ ap (λ x. x / 10 ^ k) (e ∙ sym f) ∙ mul-div_cancel b (tens_positive k)

shifted_once : (by : ℤ) (old a b : Number) → IsShifted by old a → IsShifted by old b → a ≡ b
shifted_once by old a b h g =
    number_once a b (times_once a.count b.count (fall by) (old.count * 10 ^ rise by) h.count g.count) (h.low ∙ sym g.low) (h.high ∙ sym g.high)

keeps_or_not : (by : ℤ) (old : Number) → KeepsPlaces by old ⊎ (¬ (KeepsPlaces by old))
keeps_or_not by old =
    elim (cases_lt (old.low + rise by) (fall by)) [
      | inl under ↦ inr (λ h. let low = h.low in omega arith)
      | inr low ↦ elim (cases_lt (old.high + rise by) (65536 + fall by)) [
        | inl high ↦ inl (record { low = low; high = high })
        | inr over ↦ inr (λ h. let high = h.high in omega arith)
      ]
    ]

shifts_once : (by : ℤ) (old a b : Number) → Shifts by old a → Shifts by old b → a ≡ b
shifts_once by old a b h g =
    elim (keeps_or_not by old) [
      | inl keeps ↦ shifted_once by old a b (h.within keeps) (g.within keeps)
      | inr lacks ↦ h.beyond lacks ∙ sym (g.beyond lacks)
    ]

trims_start_once : (old a b : Number) → TrimsStart old a → TrimsStart old b → a ≡ b
trims_start_once old a b h g = number_once a b (h.count ∙ sym g.count) (h.low ∙ sym g.low) (highest_once 32768 0 old.count a.high b.high h.high g.high)

trims_end_once : (old a b : Number) → TrimsEnd old a → TrimsEnd old b → a ≡ b
trims_end_once old a b h g = number_once a b (h.count ∙ sym g.count) (lowest_once 32768 old.count a.low b.low h.low g.low) (h.high ∙ sym g.high)

trims_whole_once : (old a b : Number) (rest : ℕ) → rest ≡ old.count % 10 ^ 32768 → TrimsWhole old a → TrimsWhole old b → a ≡ b
trims_whole_once old a b zero e h g = h.whole (sym e) ∙ sym (g.whole (sym e))
trims_whole_once old a b (suc n) e h g =
    let some : ¬ (old.count % 10 ^ 32768 ≡ 0) = λ none. no_zero n (e ∙ none) in h.fraction some ∙ sym (g.fraction some)
  where
    no_zero : (k : ℕ) → suc k ≡ 0 → ⊥
    no_zero k f = omega arith

pads_start_once : (at : ℕ) (old a b : Number) → PadsStart at old a → PadsStart at old b → a ≡ b
pads_start_once at old a b h g =
    elim (cases_lt 32768 at) [
      | inl above ↦ number_once a b (h.count ∙ sym g.count) (h.low ∙ sym g.low) (highest_once 32768 at old.count a.high b.high (h.high above) (g.high above))
      | inr under ↦ number_once a b (h.count ∙ sym g.count) (h.low ∙ sym g.low) (h.same under ∙ sym (g.same under))
    ]

pads_end_once : (at : ℕ) (old a b : Number) → PadsEnd at old a → PadsEnd at old b → a ≡ b
pads_end_once at old a b h g =
    elim (cases_lt 32768 at) [
      | inl above ↦ number_once a b (h.count ∙ sym g.count) (h.same above ∙ sym (g.same above)) (h.high ∙ sym g.high)
      | inr under ↦ number_once a b (h.count ∙ sym g.count) (lowest_once at old.count a.low b.low (h.low under) (g.low under)) (h.high ∙ sym g.high)
    ]

cuts_once : (at : ℕ) (old a b : Number) → Cuts at old a → Cuts at old b → a ≡ b
cuts_once at old a b h g = number_once a b (h.count ∙ sym g.count) (h.low ∙ sym g.low) (h.high ∙ sym g.high)

on_absolute_once : (stand : Number → Number → Type 0) (old a b : SignedValue Number) → ((c d : Number) → stand old.absolute c → stand old.absolute d → c ≡ d) → OnAbsolute stand old a → OnAbsolute stand old b → a ≡ b
on_absolute_once stand old a b once h g = same_signed a b (h.sign ∙ sym g.sign) (once a.absolute b.absolute h.absolute g.absolute)

rounds_signed_once : (mode : SignedRoundingMode) (increment : RoundingIncrement) (at : ℕ) (old a b : SignedValue Number) → RoundsSigned mode increment at old a → RoundsSigned mode increment at old b → a ≡ b
rounds_signed_once mode increment at old a b h g =
    same_signed a b (h.sign ∙ sym g.sign) (rounds_once (size_mode old.sign mode) increment at old.absolute a.absolute b.absolute h.size g.size)

pub makes_once : (call : Call) (old a b : SignedValue Number) → Makes call old a → Makes call old b → a ≡ b
makes_once (MultiplyPow10 delta) old a b h g = on_absolute_once (Shifts delta) old a b (shifts_once delta old.absolute) h g
makes_once TrimStart old a b h g = on_absolute_once TrimsStart old a b (trims_start_once old.absolute) h g
makes_once TrimEnd old a b h g = on_absolute_once TrimsEnd old a b (trims_end_once old.absolute) h g
makes_once TrimEndIfInteger old a b h g = on_absolute_once TrimsWhole old a b (λ c d. trims_whole_once old.absolute c d (old.absolute.count % 10 ^ 32768) refl) h g
makes_once (PadStart position) old a b h g = on_absolute_once (PadsStart (place position)) old a b (pads_start_once (place position) old.absolute) h g
makes_once (PadEnd position) old a b h g = on_absolute_once (PadsEnd (place position)) old a b (pads_end_once (place position) old.absolute) h g
makes_once (SetMaxPosition position) old a b h g = on_absolute_once (Cuts (place position)) old a b (cuts_once (place position) old.absolute) h g
makes_once (Round position mode increment) old a b h g = rounds_signed_once mode increment (place position) old a b h g
makes_once (SetSign sign) old a b h g = h ∙ sym g
makes_once (ApplySignDisplay choice) old a b h g = h ∙ sym g

pub run_once : (calls : List Call) (old a b : SignedValue Number) → Run calls old a → Run calls old b → a ≡ b
run_once [] old a b h g = h ∙ sym g
run_once (call ∷ calls) old a b h g =
    let same : h.0 ≡ g.0 = makes_once call old h.0 g.0 h.1.0 g.1.0 in
    run_once calls g.0 a b (subst (λ old. Run calls old a) same h.1.1) g.1.1

pub runs_once : (text : List ℕ) (calls : List Call) (a b : SignedValue Number) → RunsFrom text calls a → RunsFrom text calls b → a ≡ b
runs_once text calls a b h g =
    let same : h.read ≡ g.read = signed_reads_once text h.read g.read h.reads g.reads in
    run_once calls g.read a b (subst (λ old. Run calls old a) same h.run) g.run
