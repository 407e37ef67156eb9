use Rattle.std.proofs.Common.{◌∙◌}
use Rattle.std.specs.Prelude.{bit_xor}
use Rattle.tinystr_words.specs.Words.{word_bytes}
use Rattle.tinystr_words.proofs.FlagLaws.{flags_between}
use Rattle.tinystr_words.proofs.flags.flags_within.Goals as goal

pub returns : goal.returns
returns c =
    (λ i. bit_xor (c.flags_from.ensures i) (c.flags_from-2.ensures i))
    ∙ flags_between c.args.low c.args.high (word_bytes c.args.word) c.requires.order c.requires.ascii
