use Rattle.std.proofs.Common.{ℕ, not, ap, ◌∙◌}
use Rattle.std.specs.List.{list_all}
use Rattle.tinystr_words.specs.Words.{word_bytes}
use Rattle.tinystr.proofs.FormWords.{form_ascii, form_none}
use Rattle.tinystr.proofs.int_ops.aligned.Aligned.none.Goals as goal

pub is_none-requires : goal.is_none-requires
is_none-requires g c = record { ascii = form_ascii 8 (word_bytes c.self.inside.word) c.self.invariant.0 }

pub returns : goal.returns
returns g c =
    let p = λ (b : ℕ). not (g.C.WordClass.test b) in
    c.is_none.ensures ∙ form_none p (ap not g.met.C.WordClass.no_nul) 8 (word_bytes c.self.inside.word) c.self.invariant.0
    ∙ ap (list_all p) c.self.view_is
