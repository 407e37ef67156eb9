use Rattle.std.proofs.Common.{◌∙◌}
use Rattle.std.specs.Prelude.{bit_or}
use Rattle.std.specs.Char.{is_ascii_alphabetic, is_ascii_lowercase, is_ascii_uppercase}
use Rattle.std.proofs.Math.Bool.{or_comm}
use Rattle.tinystr_words.specs.Words.{word_bytes}
use Rattle.tinystr_words.proofs.FlagLaws.{flags_either}
use Rattle.tinystr_words.proofs.classes.LettersWordClass.flags.Goals as goal

pub returns : goal.returns
returns c =
    (λ i. bit_or (c.flags.ensures i) (c.flags-2.ensures i))
    ∙ flags_either is_ascii_lowercase is_ascii_uppercase is_ascii_alphabetic
    (λ b. or_comm (is_ascii_lowercase b) (is_ascii_uppercase b)) (word_bytes c.args.word) c.requires.ascii
