use Rattle.std.proofs.Common.{◌<◌, ap, ◌∙◌, arith}
use Rattle.fixed_decimal_digit_words.specs.DigitWord.{word_digits}
use Rattle.fixed_decimal_digit_words.proofs.ByteWordLemmas.{eight_more}
use Rattle.fixed_decimal_digit_words.proofs.byte_words.first_fours.Goals as goal

pub returns : goal.returns
returns c =
    let below : c.from-2.result < 4294967296 = omega (arith, c.from-2.ensures, c.first_four-2.type_inv) in
    eight_more c.args.bytes.now c.split_at.result.0.now c.split_at.result.1.now c.from.result c.from-2.result c.requires c.split_at.ensures.front c.split_at.ensures.back below
    (ap (λ w. word_digits w 8) c.from.ensures ∙ c.first_four.ensures) (ap (λ w. word_digits w 8) c.from-2.ensures ∙ c.first_four-2.ensures)
