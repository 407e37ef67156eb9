use Rattle.std.proofs.Common.{◌%◌, ◌^◌, ◌<◌, ◌⊎◌, inl, inr, ⊎_elim}
use Rattle.std.proofs.Math.Nat.{mod-lt}
use Rattle.fixed_decimal_digits.specs.DigitList.{count_of}
use Rattle.fixed_decimal_digit_words.proofs.TenLemmas.{tens_positive}
use Rattle.fixed_decimal_digits.proofs.RoundingStepLemmas.{nothing_left}
use Rattle.fixed_decimal_digits.proofs.PairLemmas.{rounded_value, exact_value, rest_reaches, rest_deeper}
use Rattle.fixed_decimal_digits.proofs.rounding_pair.rounded_pair.Goals as goal

pub returns-then-is_exact-clause-exact : goal.returns-then-is_exact-clause-exact
returns-then-is_exact-clause-exact c =
    let count = count_of c.args.digits.now.items c.args.top in
    exact_value c.args.mode c.args.increment count c.args.place c.pair_at-pair.result c.step-step.result c.pair_at-pair.ensures.value c.step-step.ensures
    c.if-is_exact.ensures.0 (nothing_left c.has_below-has_rest.result (count % 10 ^ c.args.place) c.has_below-has_rest.ensures.1 c.if-is_exact.ensures.1)

pub returns-clause-value : goal.returns-clause-value
returns-clause-value c =
    let count = count_of c.args.digits.now.items c.args.top in
    let some : (0 < c.pair_at-pair.result % c.step-step.result) ⊎ (0 < count % 10 ^ c.args.place) = ⊎_elim (λ a. inl a) (λ a. inr (c.has_below-has_rest.ensures.0 a)) c.if-is_exact.ensures in
    rounded_value c.args.mode c.compare_half-half.result c.args.increment count c.args.place c.pair_at-pair.result c.step-step.result c.step_up.result c.pair_at-pair.ensures.value c.step-step.ensures some
    (c.compare_half-half.ensures (count % 10 ^ c.args.place) (10 ^ c.args.place) (mod-lt count (tens_positive c.args.place)) c.compare_below.ensures c.has_below-has_rest.ensures)
    c.step_up.ensures

pub returns-clause-deep : goal.returns-clause-deep
returns-clause-deep c =
    let count = count_of c.args.digits.now.items c.args.top in
    let some : (0 < c.pair_at-pair.result % c.step-step.result) ⊎ (0 < count % 10 ^ c.args.place) = ⊎_elim (λ a. inl a) (λ a. inr (c.has_below-has_rest.ensures.0 a)) c.if-is_exact.ensures in
    rest_reaches c.args.digits.now.items c.args.top c.args.place c.pair_at-pair.result c.step-step.result c.requires.trimmed.room c.pair_at-pair.ensures.value some

pub returns-clause-deeper : goal.returns-clause-deeper
returns-clause-deeper c = λ ne.
    let count = count_of c.args.digits.now.items c.args.top in
    let some : (0 < c.pair_at-pair.result % c.step-step.result) ⊎ (0 < count % 10 ^ c.args.place) = ⊎_elim (λ a. inl a) (λ a. inr (c.has_below-has_rest.ensures.0 a)) c.if-is_exact.ensures in
    rest_deeper c.args.digits.now.items c.args.top c.args.place c.pair_at-pair.result c.step-step.result c.args.increment c.requires.trimmed.room c.pair_at-pair.ensures.value c.step-step.ensures some ne
