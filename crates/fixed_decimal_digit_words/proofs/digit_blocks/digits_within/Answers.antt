use Rattle.std.proofs.Common.{◌∙◌}
use Rattle.fixed_decimal_digit_words.proofs.ByteWordLemmas.{sixteen_within}
use Rattle.fixed_decimal_digit_words.proofs.digit_blocks.digits_within.Goals as goal

pub returns : goal.returns
returns c = c.digits_of_word.ensures ∙ c.first_eight.ensures ∙ sixteen_within c.args.bytes.now
