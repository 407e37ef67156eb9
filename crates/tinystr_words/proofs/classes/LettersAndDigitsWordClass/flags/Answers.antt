use Rattle.std.proofs.Common.{arith, ◌∙◌}
use Rattle.std.specs.Prelude.{bit_or}
use Rattle.std.specs.Char.{is_ascii_alphabetic, is_ascii_alphanumeric, is_ascii_digit}
use Rattle.std.proofs.lemmas.Bool.Decides.{nat_tests}
use Rattle.tinystr_words.specs.Words.{word_bytes}
use Rattle.tinystr_words.proofs.FlagLaws.{flags_either}
use Rattle.tinystr_words.proofs.classes.LettersAndDigitsWordClass.flags.Goals as goal

pub returns : goal.returns
returns c =
    (λ i. bit_or (c.flags.ensures i) (c.flags-2.ensures i))
    ∙ flags_either is_ascii_alphabetic is_ascii_digit is_ascii_alphanumeric (λ b. grind (arith, nat_tests)) (word_bytes c.args.word) c.requires.ascii
