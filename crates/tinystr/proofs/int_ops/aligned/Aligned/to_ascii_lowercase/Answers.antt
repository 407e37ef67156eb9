use Rattle.std.proofs.Common.{◌≡◌, ℕ, List, rules, ap, subst, sym, ◌∙◌}
use Rattle.tinystr.specs.SmallText.{IsSmall}
use Rattle.tinystr.specs.Case.{lowercase}
use Rattle.tinystr.proofs.CaseLemmas.{IsSmall-lowercase}
use Rattle.tinystr.proofs.int_ops.aligned.Aligned.to_ascii_lowercase.Goals as goal

pub ascii_bytes-requires : goal.ascii_bytes-requires
ascii_bytes-requires g c =
    let same : c.to_ascii_lowercase.result ≡ lowercase c.args.self.now = c.to_ascii_lowercase.ensures ∙ ap lowercase c.text.ensures.value in
    let small : IsSmall g.row.M c.to_ascii_lowercase.result =
    subst (λ (t : List ℕ). IsSmall g.row.M t) (sym same) (IsSmall-lowercase g.row.M c.args.self.now c.text.ensures.small) in
    search rules
