use Rattle.std.proofs.Common.{ℕ, not, ap, ◌∙◌}
use Rattle.std.specs.List.{list_all}
use Rattle.tinystr.proofs.FormWords.{all_padded}
use Rattle.tinystr.proofs.ascii.TinyAsciiStr.none.Goals as goal

pub returns : goal.returns
returns g c =
    let p = λ (b : ℕ). not (g.C.WordClass.test b) in
    c.none.ensures
    ∙ ap (list_all p) c.all_bytes.ensures.value
    ∙ all_padded p (ap not g.met.C.WordClass.no_nul) g.row.N c.args.self.now
