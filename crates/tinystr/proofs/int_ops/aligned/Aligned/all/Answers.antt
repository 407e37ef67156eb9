use Rattle.std.proofs.Common.{ap, ◌∙◌}
use Rattle.std.specs.List.{list_all}
use Rattle.tinystr_words.specs.Words.{word_bytes}
use Rattle.tinystr.proofs.FormWords.{form_ascii, form_all}
use Rattle.tinystr.proofs.int_ops.aligned.Aligned.all.Goals as goal

pub is_all-requires : goal.is_all-requires
is_all-requires g c = record { ascii = form_ascii 8 (word_bytes c.self.inside.word) c.self.invariant.0 }

pub returns : goal.returns
returns g c =
    c.is_all.ensures ∙ form_all g.C.WordClass.test 8 (word_bytes c.self.inside.word) c.self.invariant.0
    ∙ ap (list_all g.C.WordClass.test) c.self.view_is
