use Rattle.std.proofs.Common.{◌<◌, ◌≤◌, ◌^◌, ◌++◌, ◌∙◌, length, get_or, sym, ap, subst, arith}
use Rattle.std.specs.Int.Digits.{number_from_digits, AllBelowBase}
use Rattle.fixed_decimal_digits.proofs.WordLemmas.{tens_of, digits_joined}
use Rattle.writeable.specs.Taking.{on_err}
use Rattle.fixed_decimal_unsigned.proofs.LongLemmas.{more_gathered, first_of_both, spelled_both}
use Rattle.fixed_decimal_unsigned.proofs.reading.gather.Goals as goal

pub returns-clause-value : goal.returns-clause-value
returns-clause-value c =
    let parts = c.without_leading_zeros.result in
    ap (number_from_digits 10) c.in_ok-assign_texts.ensures.items ∙ spelled_both parts.0.now parts.1.now ∙ sym c.without_leading_zeros.ensures.value

pub returns-clause-tens : goal.returns-clause-tens
returns-clause-tens c =
    let parts = c.without_leading_zeros.result in
    subst (λ ds. AllBelowBase 10 ds) (sym c.in_ok-assign_texts.ensures.items)
    (tens_of (parts.0.now ++ parts.1.now) (digits_joined parts.0.now parts.1.now c.without_leading_zeros.ensures.integer_digits c.without_leading_zeros.ensures.fraction_digits))

pub returns-clause-first : goal.returns-clause-first
returns-clause-first c =
    let parts = c.without_leading_zeros.result in
    subst (λ ds. 0 < length ds → 0 < get_or ds 0 0) (sym c.in_ok-assign_texts.ensures.items)
    (first_of_both parts.0.now parts.1.now c.without_leading_zeros.ensures.integer_first c.without_leading_zeros.ensures.fraction_first)

pub returns-in_err-assign_texts-clause-room : goal.returns-in_err-assign_texts-clause-room
returns-in_err-assign_texts-clause-room c =
    let parts = c.without_leading_zeros.result in
    on_err c.from_residual.result
    (subst (λ n. 10 ^ 16 ≤ n) (sym c.without_leading_zeros.ensures.value)
    (more_gathered 16 parts.0.now parts.1.now c.without_leading_zeros.ensures.integer_first c.without_leading_zeros.ensures.fraction_first (omega (arith, c.len-room.ensures.inline, c.in_err-assign_texts.ensures.room))))

pub returns-in_err-assign_texts-clause-kept : goal.returns-in_err-assign_texts-clause-kept
returns-in_err-assign_texts-clause-kept c =
    let parts = c.without_leading_zeros.result in
    on_err c.from_residual.result
    (subst (λ n. 10 ^ length c.args.digits.now.items ≤ n) (sym c.without_leading_zeros.ensures.value)
    (more_gathered (length c.args.digits.now.items) parts.0.now parts.1.now c.without_leading_zeros.ensures.integer_first c.without_leading_zeros.ensures.fraction_first
    (omega (arith, c.len-room.ensures.value, c.len-room.ensures.fits, c.in_err-assign_texts.ensures.room))))
