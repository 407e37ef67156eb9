use Rattle.std.proofs.Common.{nat_eq, ap, ◌∙◌}
use Rattle.tinystr_words.specs.Words.{word_bytes}
use Rattle.tinystr_words.proofs.FlagLaws.{no_flags}
use Rattle.tinystr_words.proofs.classes.is_none.Goals as goal

pub returns : goal.returns
returns g c = ap (λ n. nat_eq n 0) c.flags.ensures ∙ no_flags g.C.WordClass.test (word_bytes c.args.word)
