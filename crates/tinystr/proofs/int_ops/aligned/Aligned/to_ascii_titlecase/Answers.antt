use Rattle.std.proofs.Common.{◌≡◌, ℕ, List, rules, ap, subst, sym, ◌∙◌}
use Rattle.tinystr.specs.SmallText.{IsSmall}
use Rattle.tinystr.specs.Case.{titlecase}
use Rattle.tinystr.proofs.CaseLemmas.{IsSmall-titlecase}
use Rattle.tinystr.proofs.int_ops.aligned.Aligned.to_ascii_titlecase.Goals as goal

pub ascii_bytes-requires : goal.ascii_bytes-requires
ascii_bytes-requires g c =
    let same : c.to_ascii_titlecase.result ≡ titlecase c.args.self.now = c.to_ascii_titlecase.ensures ∙ ap titlecase c.text.ensures.value in
    let small : IsSmall g.row.M c.to_ascii_titlecase.result =
    subst (λ (t : List ℕ). IsSmall g.row.M t) (sym same) (IsSmall-titlecase g.row.M c.args.self.now c.text.ensures.small) in
    search rules
