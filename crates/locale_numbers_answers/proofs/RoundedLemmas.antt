-- Each rounding of a number has one end: that of the function, by the lemmas of `locale_numbers_formats`.
use Rattle.std.proofs.Common.{sym, subst}
use Rattle.fixed_decimal.specs.Number.{place}
use Rattle.fixed_decimal.specs.SignedRounding.{RoundsSigned}
use Rattle.locale_numbers_answers.specs.Laws.{HasOneRounding}
use Rattle.locale_numbers_formats.proofs.RoundedLemmas.{rounded_right, rounds_as}

pub one_rounding : HasOneRounding
one_rounding mode increment position old new =
    (rounds_as mode increment position old new, λ same. subst (λ n. RoundsSigned mode increment (place position) old n) (sym same) (rounded_right mode increment (place position) old))
