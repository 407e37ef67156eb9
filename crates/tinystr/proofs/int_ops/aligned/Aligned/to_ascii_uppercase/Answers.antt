use Rattle.std.proofs.Common.{◌≡◌, ℕ, List, rules, ap, subst, sym, ◌∙◌}
use Rattle.tinystr.specs.SmallText.{IsSmall}
use Rattle.tinystr.specs.Case.{uppercase}
use Rattle.tinystr.proofs.CaseLemmas.{IsSmall-uppercase}
use Rattle.tinystr.proofs.int_ops.aligned.Aligned.to_ascii_uppercase.Goals as goal

pub ascii_bytes-requires : goal.ascii_bytes-requires
ascii_bytes-requires g c =
    let same : c.to_ascii_uppercase.result ≡ uppercase c.args.self.now = c.to_ascii_uppercase.ensures ∙ ap uppercase c.text.ensures.value in
    let small : IsSmall g.row.M c.to_ascii_uppercase.result =
    subst (λ (t : List ℕ). IsSmall g.row.M t) (sym same) (IsSmall-uppercase g.row.M c.args.self.now c.text.ensures.small) in
    search rules
