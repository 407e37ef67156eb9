use Rattle.std.proofs.Common.{ap, ◌∙◌}
use Rattle.fixed_decimal_digit_words.specs.Packed.{halves}
use Rattle.fixed_decimal_digit_words.proofs.ByteWordLemmas.{halves_high}
use Rattle.fixed_decimal_digit_words.proofs.byte_words.digits_of_word.Goals as goal

pub returns : goal.returns
returns c = c.halves_of.ensures ∙ ap halves c.to_be_bytes.ensures ∙ halves_high c.args.word
