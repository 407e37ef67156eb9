-- Shifts, trims and pads: the range that the code sets is the one that the definition names.
use Rattle.std.proofs.Common.{◌≡◌, ℕ, ℤ, ◌+◌, ◌-◌, ◌*◌, ◌^◌, ◌<◌, ◌≤◌, max, min, List, [], ◌∷◌, length, refl, sym, ap, ◌∙◌, subst, arith}
use Rattle.std.proofs.Math.Nat.{zero-mul, mul_assoc}
use Rattle.std.proofs.lemmas.Nat.{pow-add}
use Rattle.std.specs.Int.Digits.{number_from_digits}
use Rattle.fixed_decimal_unsigned.specs.Number.{Number}
use Rattle.fixed_decimal_digits.specs.DigitList.{IsTrimmed, count_of}
use Rattle.fixed_decimal_unsigned.specs.Range.{IsHighest, IsLowest}
use Rattle.fixed_decimal_unsigned.specs.Shifts.{rise, fall, Shifts, TrimsStart, TrimsEnd, TrimsWhole, PadsStart, PadsEnd}
use Rattle.fixed_decimal_unsigned.specs.Stored.{IsStored}
use Rattle.fixed_decimal_digits.proofs.TenLemmas.{mod_below_power}
use Rattle.fixed_decimal_unsigned.proofs.RangeLemmas.{trimmed_of, highest_is}
use Rattle.fixed_decimal_digits.proofs.RoundingStepLemmas.{whole_room}
use Rattle.fixed_decimal_unsigned.proofs.MantissaLemmas.{number_made}

pub lowest_is : (ds : List ℕ) (top most : ℕ) → IsTrimmed ds top → most ≤ 32768 → IsLowest most (count_of ds top) (min most (top + 1 - length ds))
lowest_is [] top most h l = record {
  under = omega arith;
  whole = mod_below_power 0 (top + 1 - 0) (min most (top + 1 - 0)) (omega arith);
  highest = λ p a w. let t = h.zero_top refl in omega arith;
}
lowest_is (c ∷ cs) top most h l = record {
  under = omega arith;
  whole = mod_below_power (number_from_digits 10 (c ∷ cs)) (top + 1 - length (c ∷ cs)) (min most (top + 1 - length (c ∷ cs))) (omega arith);
  highest = λ p a w. let r = whole_room (c ∷ cs) top p h (omega arith) w in omega arith;
}

greatest_of : (top new : ℕ) → new ≡ max top 32768 → max (max 32768 (0 - 1)) top ≡ new
greatest_of top new e = omega arith

padded_of : (top p new : ℕ) → 32768 < p → new ≡ max top (p - 1) → max (max 32768 (p - 1)) top ≡ new
padded_of top p new over e = omega arith

pub trims_start : (ds : List ℕ) (top low high new : ℕ) (old : Number) → IsStored ds top low high → number_made (count_of ds top) low high ≡ old → new ≡ max top 32768 → TrimsStart old (number_made (count_of ds top) low new)
trims_start ds top low high new old s e n =
    subst (λ v. TrimsStart v (number_made (count_of ds top) low new)) e
    (record { count = refl; low = refl; high = subst (IsHighest 32768 0 (count_of ds top)) (greatest_of top new n) (highest_is ds top 32768 0 (trimmed_of ds top low high s) (omega arith)) })

pub pads_start : (ds : List ℕ) (top low high new p q : ℕ) (old : Number) → IsStored ds top low high → number_made (count_of ds top) low high ≡ old → p ≡ q → 32768 < p → new ≡ max top (p - 1) → PadsStart q old (number_made (count_of ds top) low new)
pads_start ds top low high new p q old s e ep over n =
    subst (λ x. PadsStart x old (number_made (count_of ds top) low new)) ep
    (subst (λ v. PadsStart p v (number_made (count_of ds top) low new)) e
    (record {
      count = refl;
      low = refl;
      high = λ _. subst (IsHighest 32768 p (count_of ds top)) (padded_of top p new over n) (highest_is ds top 32768 p (trimmed_of ds top low high s) (omega arith));
      same = λ under. absurd (omega arith);
    }))

pub trims_end : (ds : List ℕ) (top low high new : ℕ) (old : Number) → IsStored ds top low high → number_made (count_of ds top) low high ≡ old → new ≡ min 32768 (top + 1 - length ds) → TrimsEnd old (number_made (count_of ds top) new high)
trims_end ds top low high new old s e n =
    subst (λ v. TrimsEnd v (number_made (count_of ds top) new high)) e
    (record { count = refl; high = refl; low = subst (IsLowest 32768 (count_of ds top)) (sym n) (lowest_is ds top 32768 (trimmed_of ds top low high s) (omega arith)) })

pub pads_end : (ds : List ℕ) (top low high new p q : ℕ) (old : Number) → IsStored ds top low high → number_made (count_of ds top) low high ≡ old → p ≡ q → p ≤ 32768 → new ≡ min p (top + 1 - length ds) → PadsEnd q old (number_made (count_of ds top) new high)
pads_end ds top low high new p q old s e ep under n =
    subst (λ x. PadsEnd x old (number_made (count_of ds top) new high)) ep
    (subst (λ v. PadsEnd p v (number_made (count_of ds top) new high)) e
    (record {
      count = refl;
      high = refl;
      low = λ _. subst (IsLowest p (count_of ds top)) (sym n) (lowest_is ds top p (trimmed_of ds top low high s) under);
      same = λ over. absurd (omega arith);
    }))

pub trims_whole : (ds : List ℕ) (top low high : ℕ) (old : Number) → IsStored ds top low high → number_made (count_of ds top) low high ≡ old → min 32768 (top + 1 - length ds) ≡ 32768 → TrimsWhole old (number_made (count_of ds top) 32768 high)
trims_whole ds top low high old s e n =
    subst (λ v. TrimsWhole v (number_made (count_of ds top) 32768 high)) e
    (record { whole = λ _. refl; fraction = λ bad. absurd (bad (mod_below_power (number_from_digits 10 ds) (top + 1 - length ds) 32768 (omega arith))) })

pub trims_not : (ds : List ℕ) (top low high : ℕ) (old : Number) → IsStored ds top low high → number_made (count_of ds top) low high ≡ old → ¬ (min 32768 (top + 1 - length ds) ≡ 32768) → TrimsWhole old old
trims_not ds top low high old s e n =
    subst (λ v. TrimsWhole v v) e
    (record {
      whole = λ w. let l = lowest_is ds top 32768 (trimmed_of ds top low high s) (omega arith) in let h = l.highest 32768 (omega arith) w in absurd (n (omega arith));
      fraction = λ _. refl;
    })

regroup_power : (n a b c d : ℕ) → a * b ≡ c * d → n * a * b ≡ n * c * d
regroup_power n a b c d e = mul_assoc n a b ∙ ap (λ x. n * x) e ∙ sym (mul_assoc n c d)

pub shifted_count : (ds : List ℕ) (top moved up down : ℕ) → (0 < length ds → moved + down ≡ top + up) → (0 < length ds → length ds ≤ moved + 1) → length ds ≤ top + 1 → count_of ds moved * 10 ^ down ≡ count_of ds top * 10 ^ up
shifted_count [] top moved up down e l m =
    ap (λ x. x * 10 ^ down) (zero-mul (10 ^ (moved + 1 - 0))) ∙ zero-mul (10 ^ down) ∙ sym (ap (λ x. x * 10 ^ up) (zero-mul (10 ^ (top + 1 - 0))) ∙ zero-mul (10 ^ up))
shifted_count (c ∷ cs) top moved up down e l m =
    let at : (moved + 1 - length (c ∷ cs)) + down ≡ (top + 1 - length (c ∷ cs)) + up = let a = e (omega arith) in let b = l (omega arith) in omega arith in
    regroup_power (number_from_digits 10 (c ∷ cs)) (10 ^ (moved + 1 - length (c ∷ cs))) (10 ^ down) (10 ^ (top + 1 - length (c ∷ cs))) (10 ^ up)
    (sym (pow-add 10 (moved + 1 - length (c ∷ cs)) down) ∙ ap (λ k. 10 ^ k) at ∙ pow-add 10 (top + 1 - length (c ∷ cs)) up)

pub shifts_made : (by : ℤ) (ds : List ℕ) (top low high moved ml mh lo hi : ℕ) (old : Number) → IsStored ds top low high → number_made (count_of ds top) low high ≡ old
    → fall by ≤ low + rise by → high + rise by < 65536 + fall by → (0 < length ds → moved + fall by ≡ top + rise by)
    → ml + fall by ≡ low + rise by → mh + fall by ≡ high + rise by → lo ≡ min ml 32768 → hi ≡ max mh 32768
    → Shifts by old (number_made (count_of ds moved) lo hi)
shifts_made by ds top low high moved ml mh lo hi old s e under over t el eh nl nh =
    subst (λ v. Shifts by v (number_made (count_of ds moved) lo hi)) e
    (record {
      within = λ _. record {
        count = shifted_count ds top moved (rise by) (fall by) t (λ p. let a = t p in let r = s.room in omega arith) (let r = s.room in omega arith);
        low = omega arith;
        high = omega arith;
      };
      beyond = λ bad. absurd (bad (record { low = under; high = over }));
    })
