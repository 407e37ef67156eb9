use Rattle.std.proofs.Common.{refl, ap, ◌∙◌}
use Rattle.std.specs.List.{list_all}
use Rattle.tinystr_words.specs.Words.{or_nul}
use Rattle.tinystr.proofs.FormWords.{all_padded, all_or_nul}
use Rattle.tinystr.proofs.ascii.TinyAsciiStr.all.Goals as goal

pub returns : goal.returns
returns g c =
    c.all.ensures
    ∙ ap (list_all (or_nul g.C.WordClass.test)) c.all_bytes.ensures.value
    ∙ all_padded (or_nul g.C.WordClass.test) refl g.row.N c.args.self.now
    ∙ all_or_nul g.C.WordClass.test c.args.self.now c.all_bytes.ensures.small.ascii
