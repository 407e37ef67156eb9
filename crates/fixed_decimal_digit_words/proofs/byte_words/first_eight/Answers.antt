use Rattle.std.proofs.Common.{ap, ◌∙◌, arith}
use Rattle.fixed_decimal_digit_words.specs.DigitWord.{word_digits}
use Rattle.fixed_decimal_digit_words.proofs.ByteWordLemmas.{eight_few, eight_loaded}
use Rattle.fixed_decimal_digit_words.proofs.byte_words.first_eight.Goals as goal

pub returns-then-bytes-lt4 : goal.returns-then-bytes-lt4
returns-then-bytes-lt4 c =
    eight_few c.args.bytes.now c.from.result (grind (arith, c.if-bytes-lt4.true)) (ap (λ w. word_digits w 8) c.from.ensures ∙ c.first_four.ensures)

pub returns : goal.returns
returns c =
    eight_loaded c.args.bytes.now c.in-Some.eight.now c.from_be_bytes.result c.in-Some.ensures.cases.enough (λ i. (c.type_inv.bytes i).fits) c.in-Some.ensures.cases.same c.from_be_bytes.ensures
