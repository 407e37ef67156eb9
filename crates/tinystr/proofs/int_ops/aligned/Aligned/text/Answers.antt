use Rattle.std.proofs.Common.{ℕ, List, rules, ap, subst, sym, ◌∙◌}
use Rattle.tinystr_words.specs.Words.{word_bytes}
use Rattle.tinystr.specs.SmallText.{IsForm, IsSmall, text_of}
use Rattle.tinystr.proofs.int_ops.aligned.Aligned.text.Goals as goal

pub from_utf8_unchecked-requires : goal.from_utf8_unchecked-requires
unfolding word_bytes
from_utf8_unchecked-requires g c =
    let form : IsForm 8 c.to_le_bytes.result = subst (λ (bytes : List ℕ). IsForm 8 bytes) (sym c.to_le_bytes.ensures) c.self.invariant.0 in
    search rules

pub returns-clause-value : goal.returns-clause-value
unfolding word_bytes
returns-clause-value g c = c.from_utf8_unchecked.ensures ∙ ap text_of c.to_le_bytes.ensures ∙ c.self.view_is

pub returns-clause-small : goal.returns-clause-small
returns-clause-small g c = subst (λ (t : List ℕ). IsSmall g.row.M t) c.self.view_is c.self.invariant.1
