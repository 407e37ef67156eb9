use Rattle.std.proofs.Common.{◌≡◌, ◌+◌, ◌*◌, ◌/◌, ◌^◌, ◌<◌, length, sym, ap, ◌∙◌, subst, arith}
use Rattle.fixed_decimal_digits.specs.DigitList.{count_of}
use Rattle.fixed_decimal_digits.specs.Rounding.{IsRounded}
use Rattle.fixed_decimal_digits.proofs.PlaceLemmas.{place_exact, nothing_behind, front_number}
use Rattle.fixed_decimal_digits.proofs.rounding_place.round_at_place.Goals as goal

pub returns-then-kept-len-clause-value : goal.returns-then-kept-len-clause-value
returns-then-kept-len-clause-value g c =
    let old = c.args.digits.now.items in
    place_exact c.args.mode (count_of old c.args.top) c.args.place
    (nothing_behind old c.args.top c.args.place c.saturating_sub-kept.result c.requires.trimmed c.saturating_sub-kept.ensures (omega (arith, c.if-kept-len.true, c.len.ensures.value)))

pub returns-then-takes_next-clause-value : goal.returns-then-takes_next-clause-value
returns-then-takes_next-clause-value g c =
    let old = c.args.digits.now.items in
    let inside : c.saturating_sub-kept.result < length old = omega (arith, c.if-kept-len.false, c.len.ensures.value) in
    subst (IsRounded c.args.mode (10 ^ c.args.place) (count_of old c.args.top))
    (sym (c.round_up.ensures.value ∙ ap (λ q. (q + 1) * 10 ^ c.args.place) (front_number old c.args.top c.args.place c.saturating_sub-kept.result c.requires.trimmed c.saturating_sub-kept.ensures inside)))
    c.if-takes_next.ensures

pub returns-else-takes_next-clause-value : goal.returns-else-takes_next-clause-value
returns-else-takes_next-clause-value g c =
    let old = c.args.digits.now.items in
    let inside : c.saturating_sub-kept.result < length old = omega (arith, c.if-kept-len.false, c.len.ensures.value) in
    let q = count_of old c.args.top / 10 ^ c.args.place in
    let same : q ≡ q + 0 = omega arith in
    subst (IsRounded c.args.mode (10 ^ c.args.place) (count_of old c.args.top))
    (sym (c.round_down.ensures.value ∙ ap (λ x. x * 10 ^ c.args.place) (front_number old c.args.top c.args.place c.saturating_sub-kept.result c.requires.trimmed c.saturating_sub-kept.ensures inside ∙ same)))
    c.if-takes_next.ensures
