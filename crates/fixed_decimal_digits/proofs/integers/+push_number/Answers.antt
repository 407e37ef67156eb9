use Rattle.std.proofs.Common.{◌≡◌, ◌%◌, ◌++◌, refl, sym, ap, ◌∙◌, subst}
use Rattle.std.specs.Int.Digits.{number_from_digits, AllBelowBase}
use Rattle.fixed_decimal_digit_words.specs.DigitWord.{word_digits}
use Rattle.fixed_decimal_digits.proofs.LongNumberLemmas.{number_after, tens_after}
use Rattle.fixed_decimal_digits.proofs.integers.+push_number.Goals as goal

pub returns-clause-value : goal.returns-clause-value
returns-clause-value t c =
    let word = c.word_of_number-word.result in
    let items : c.push_sixteen.new.self.items ≡ c.push_number.new.digits.items ++ word_digits word 16 =
    c.push_sixteen.ensures.items ∙ ap (λ xs. xs ++ word_digits word 16) c.in_ok-reserve.ensures.items in
    ap (number_from_digits 10) items
    ∙ number_after c.push_number.new.digits.items word (c.args.number % 10000000000000000) c.args.number c.word_of_number-word.ensures c.in_ok-push_number.ensures.value refl

pub returns-clause-tens : goal.returns-clause-tens
returns-clause-tens t c =
    let word = c.word_of_number-word.result in
    let items : c.push_sixteen.new.self.items ≡ c.push_number.new.digits.items ++ word_digits word 16 =
    c.push_sixteen.ensures.items ∙ ap (λ xs. xs ++ word_digits word 16) c.in_ok-reserve.ensures.items in
    subst (λ xs. AllBelowBase 10 xs) (sym items)
    (tens_after c.push_number.new.digits.items word (c.args.number % 10000000000000000) c.word_of_number-word.ensures c.in_ok-push_number.ensures.tens)
