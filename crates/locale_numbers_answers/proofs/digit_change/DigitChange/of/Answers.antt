use Rattle.std.proofs.Common.{◌≡◌, ◌≤◌, arith, rules}
use Rattle.fixed_decimal.specs.Number.{place}
use Rattle.locale_numbers_answers.specs.DigitChange.{KeepsZeros, LeavesTo}
use Rattle.locale_numbers_answers.proofs.DigitChangeLemmas.{changes_so, least_few, most_few}
use Rattle.locale_numbers_answers.proofs.digit_change.DigitChange.of.Goals as goal

pub returns : goal.returns
returns c =
    let o = c.args.options.now in
    let least = c.in_ok-shown.shown in
    let most = c.in_ok-shown.most in
    let leaves : LeavesTo o.rounding least most = c.in_ok-shown.ensures in
    let keeps : KeepsZeros o.leading_zeros o.zeros = c.keeps_zeros.ensures (search rules) in
    let under = c.if-whole.false in
    let whole_is : c.place_of-whole.result ≡ place o.integer_digits = search rules in
    let whole : place o.integer_digits ≤ 32769 = omega (arith, under, whole_is) in
    let down = c.if-more.false in
    let more_is : c.place_of-more.result ≡ place o.fraction_digits = search rules in
    let more : place o.fraction_digits ≤ 32800 = omega (arith, down, more_is) in
    let asked = c.saturating_sub-asked.ensures in
    let most_of = c.max.ensures in
    changes_so o _ least leaves keeps (least_few o.rounding least most leaves) whole more (omega (arith, asked, most_of, more, more_is)) (search rules) (most_few o.rounding least most leaves)
