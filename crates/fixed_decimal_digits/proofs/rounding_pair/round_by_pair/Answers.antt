use Rattle.std.proofs.Common.{◌≡◌, ◌+◌, ◌-◌, ◌*◌, ◌/◌, ◌^◌, ◌≤◌, length, take, sym, ap, ◌∙◌, subst, arith, true≢false}
use Rattle.std.specs.Int.Digits.{number_from_digits}
use Rattle.fixed_decimal_digits.specs.DigitList.{count_of}
use Rattle.fixed_decimal_digits.specs.Rounding.{IsRounded, increment_number}
use Rattle.fixed_decimal_digits.proofs.PairLemmas.{kept_number}
use Rattle.fixed_decimal_digits.proofs.AppendLemmas.{made_count}
use Rattle.fixed_decimal_digits.proofs.OddLemmas.{odd_pair, two_added, not_deeper, refused_anyway}
use Rattle.fixed_decimal_digit_words.proofs.TenLemmas.{tens_positive}
use Rattle.fixed_decimal_digits.proofs.rounding_pair.round_by_pair.Goals as goal

pub returns-clause-value : goal.returns-clause-value
returns-clause-value g c =
    let old = c.args.digits.now.items in let top = c.args.top in let place = c.args.place in
    let new = c.append_pair-below.new.digits.items in
    let count = count_of old top in
    let hundreds : number_from_digits 10 c.truncate.new.self.items ≡ count / 10 ^ place / 100 =
    ap (number_from_digits 10) c.truncate.ensures.items ∙ ap (λ xs. number_from_digits 10 (take c.saturating_sub-kept.result xs)) c.in_ok-reserve.ensures.items
    ∙ ap (λ k. number_from_digits 10 (take k old)) c.saturating_sub-kept.ensures
    ∙ kept_number old top place c.requires.trimmed.tight.tens c.requires.trimmed.room c.in-Some.ensures.deep in
    let value : count / 10 ^ place / 100 * 100 + c.in-Some.pair ≡ number_from_digits 10 new * 10 ^ c.append_pair-below.result =
    ap (λ h. h * 100 + c.in-Some.pair) (sym hundreds) ∙ c.append_pair-below.ensures.value in
    subst (IsRounded c.args.mode (increment_number c.args.increment * 10 ^ place) count)
    (sym (made_count new c.top_of.result place c.append_pair-below.result (count / 10 ^ place / 100 * 100 + c.in-Some.pair) value c.top_of.ensures.some))
    c.in-Some.ensures.value

pub returns-in_err-reserve-clause-odd : goal.returns-in_err-reserve-clause-odd
returns-in_err-reserve-clause-odd g c =
    let old = c.args.digits.now.items in let top = c.args.top in let place = c.args.place in
    let pair = c.in-Some.pair in
    let hundreds = count_of old top / 10 ^ place / 100 in
    let len : c.len.result ≡ length old = c.len.ensures.value in
    let fits : length old ≤ c.args.digits.now.capacity = omega (arith, len, c.len.ensures.fits) in
    let more : c.saturating_sub.result ≡ c.saturating_sub-kept.result + c.digits_added.result - length old = omega (arith, c.saturating_sub.ensures, len) in
    let full : length old + c.saturating_sub.result ≤ c.args.digits.now.capacity → ⊥ = λ room. true≢false (sym (c.in_err-reserve.ensures.succeeds room)) in
    let two : 2 ≤ c.digits_added.result =
    two_added top place (length old) c.args.digits.now.capacity c.saturating_sub-kept.result c.digits_added.result c.saturating_sub.result
    c.saturating_sub-kept.ensures more c.in-Some.ensures.deep fits c.len.ensures.inline c.digits_added.ensures.most full in
    refused_anyway c.from_residual.result (record {
      multiple = (hundreds * 100 + pair) * 10 ^ place;
      rounded = c.in-Some.ensures.value;
      odd = λ m. odd_pair c.args.increment hundreds pair (10 ^ place) m.0 (tens_positive place) (c.digits_added.ensures.two two)
          (λ other. not_deeper top place (length old) c.args.digits.now.capacity c.saturating_sub-kept.result c.digits_added.result c.saturating_sub.result
          c.saturating_sub-kept.ensures more fits c.len.ensures.inline c.digits_added.ensures.most full (c.in-Some.ensures.deeper other)) m.1;
    })
