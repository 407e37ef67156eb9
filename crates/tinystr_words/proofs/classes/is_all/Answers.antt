use Rattle.std.proofs.Common.{nat_eq, ◌∙◌}
use Rattle.tinystr_words.specs.Words.{word_bytes}
use Rattle.tinystr_words.proofs.FlagLaws.{all_flags}
use Rattle.tinystr_words.proofs.classes.is_all.Goals as goal

pub returns : goal.returns
returns g c =
    (λ i. nat_eq (c.flags.ensures i) (c.flags_from.ensures i))
    ∙ all_flags g.C.WordClass.test g.met.C.WordClass.no_nul (word_bytes c.args.word)
