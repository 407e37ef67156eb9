use Rattle.std.proofs.Common.{◌≡◌, ◌+◌, ◌-◌, ◌<◌, ◌≤◌, List, ℕ, ap, arith, drop, length, length-drop, slice_index, subst, take}
use Rattle.std.specs.Char.{digit_value}
use Rattle.std.proofs.lemmas.Bool.Decides.{nat_tests}
use Rattle.std.proofs.lemmas.List.{length-take-le, take_all}
use Rattle.icu_decimal_direct.proofs.FewLemmas.{all_ahead, behind_is, behind_some, few_above, few_long, mark_is, some_above}
use Rattle.icu_decimal_direct.proofs.ShownLemmas.{digits_told, few_both, few_digits, few_whole, reads_both, reads_whole}
use Rattle.icu_decimal_direct.proofs.reading.digits_of.Goals as goal
use Rattle.icu_decimal_direct.proofs.reading.digits_of.Goals.{then-above-eq0-via-then-above-eq0, then-above-eq0-via-else-above-eq0+then-above-gt-FEW, then-text-above-ne46-via-then-text-above-ne46, then-text-above-ne46-via-else-text-above-ne46+then-is_empty, then-text-above-ne46-via-else-text-above-ne46+else-is_empty+then-fraction-gt-FEW}

pub invariant_of-result : goal.invariant_of-result
invariant_of-result c =
    let ahead = c.digits_ahead-above in
    record { held = few_whole c.args.text.now ahead.result ahead.ensures.within ahead.ensures.digits c.if-above-eq0.false c.if-above-gt-FEW.false }

pub returns-then-above-text-clause-reads : goal.returns-then-above-text-clause-reads
returns-then-above-text-clause-reads c =
    let ahead = c.digits_ahead-above in
    let some = c.if-above-eq0.false in
    let few = c.if-above-gt-FEW.false in
    let long : length (take ahead.result c.args.text.now) ≡ ahead.result = length-take-le ahead.result c.args.text.now ahead.ensures.within in
    reads_whole c.args.text.now ahead.result c.if-above-text.true ahead.ensures.digits (omega (arith, long, some)) (omega (arith, long, few))

pub invariant_of-result-2 : goal.invariant_of-result-2
invariant_of-result-2 c =
    let ahead = c.digits_ahead-above in
    let behind = c.digits_ahead in
    record {
      held = few_both c.args.text.now _ ahead.result behind.result ahead.ensures.within ahead.ensures.digits c.if-above-eq0.false c.if-above-gt-FEW.false
          behind.ensures.digits c.if-digits_ahead-fraction.false c.if-fraction-gt-FEW.false;
    }

pub returns-clause-reads : goal.returns-clause-reads
returns-clause-reads c =
    let text = c.args.text.now in
    let ahead = c.digits_ahead-above in
    let some = c.if-above-eq0.false in
    let few = c.if-above-gt-FEW.false in
    let other = c.if-above-text.false in
    let within = ahead.ensures.within in
    let more = c.if-is_empty.ensures in
    let size = length-drop (ahead.result + 1) text in
    let fraction : List ℕ = take (length text - (ahead.result + 1)) (drop (ahead.result + 1) text) in
    let long : length (take ahead.result text) ≡ ahead.result = length-take-le ahead.result text within in
    let all : length fraction ≤ c.digits_ahead.result = c.if-digits_ahead-fraction.false in
    reads_both text fraction ahead.result (omega (arith, within, other)) c.if-text-above-ne46.false (take_all (length text - (ahead.result + 1)) (drop (ahead.result + 1) text) (omega (arith, size)))
    ahead.ensures.digits (few_digits fraction c.digits_ahead.result all c.digits_ahead.ensures.digits) (omega (arith, long, some)) (omega (arith, long, few)) (grind (arith, nat_tests, more)) c.if-fraction-gt-FEW.false

pub returns-then-above-eq0-clause-some : goal.returns-then-above-eq0-clause-some
returns-then-above-eq0-clause-some c =
    let ahead = c.digits_ahead-above in
    λ integer fraction is h. elim c.then-above-eq0.branch [
      | then-above-eq0-via-then-above-eq0 w ↦
          let none = w.if-above-eq0.true in
          absurd (some_above c.args.text.now integer fraction ahead.result is h ahead.ensures.digits ahead.ensures.within ahead.ensures.stops none)
      | then-above-eq0-via-else-above-eq0+then-above-gt-FEW w ↦
          let few = few_above c.args.text.now integer fraction ahead.result is h ahead.ensures.digits ahead.ensures.within in
          let many = w.if-above-gt-FEW.true in
          absurd (omega (arith, few, many))
    ]

pub returns-then-text-above-ne46-clause-some : goal.returns-then-text-above-ne46-clause-some
returns-then-text-above-ne46-clause-some c =
    let ahead = c.digits_ahead-above in
    λ integer fraction is h.
    let text = c.args.text.now in
    let some : 0 < length fraction = behind_some text integer fraction ahead.result is h ahead.ensures.digits ahead.ensures.within ahead.ensures.stops c.if-above-text.false in
    let size = ap length (behind_is text integer fraction ahead.result is h ahead.ensures.digits ahead.ensures.within ahead.ensures.stops some) in
    elim c.then-text-above-ne46.branch [
      | then-text-above-ne46-via-then-text-above-ne46 w ↦ absurd (w.if-text-above-ne46.true (mark_is text integer fraction ahead.result is h ahead.ensures.digits ahead.ensures.within ahead.ensures.stops some))
      | then-text-above-ne46-via-else-text-above-ne46+then-is_empty w ↦
          let empty = w.is_empty.ensures in
          absurd (grind (arith, nat_tests, empty, w.if-is_empty.true, size, some))
      | then-text-above-ne46-via-else-text-above-ne46+else-is_empty+then-fraction-gt-FEW w ↦
          let few = h.few_below in
          let many = w.if-fraction-gt-FEW.true in
          absurd (omega (arith, few, many, size))
    ]

pub returns-then-digits_ahead-fraction-clause-some : goal.returns-then-digits_ahead-fraction-clause-some
returns-then-digits_ahead-fraction-clause-some c =
    let ahead = c.digits_ahead-above in
    let behind = c.digits_ahead in
    λ integer fraction is h.
    let text = c.args.text.now in
    let some : 0 < length fraction = behind_some text integer fraction ahead.result is h ahead.ensures.digits ahead.ensures.within ahead.ensures.stops c.if-above-text.false in
    let same = behind_is text integer fraction ahead.result is h ahead.ensures.digits ahead.ensures.within ahead.ensures.stops some in
    let all = all_ahead fraction behind.result (digits_told fraction h.part) (subst (λ t. behind.result < length t → 10 ≤ digit_value (slice_index t behind.result)) same behind.ensures.stops) in
    let size = ap length same in
    let less = c.if-digits_ahead-fraction.true in
    absurd (omega (arith, all, size, less))

pub returns-then-text-gt-LONGEST-clause-some : goal.returns-then-text-gt-LONGEST-clause-some
returns-then-text-gt-LONGEST-clause-some c = λ integer fraction is h.
    let long = few_long c.args.text.now integer fraction is h in
    let longer = c.if-text-gt-LONGEST.true in
    absurd (omega (arith, long, longer))
