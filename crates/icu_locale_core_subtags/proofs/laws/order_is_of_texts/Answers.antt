use Rattle.std.proofs.Common.{sym, ap, ◌∙◌}
use Rattle.std.proofs.lemmas.Cmp.{tied_itself, nat_list_cmp_total}
use Rattle.icu_locale_core_grammar.specs.Collections.{text_cmp}
use Rattle.icu_locale_core_grammar.proofs.SetLemmas.{cmp_equal}
use Rattle.icu_locale_core_subtags.proofs.laws.order_is_of_texts.Goals as goal

pub returns-clause-ties : goal.returns-clause-ties
returns-clause-ties g c = (
  (λ e. cmp_equal c.args.one.now c.args.other.now (sym c.cmp.ensures ∙ e)),
  (λ e. c.cmp.ensures ∙ ap (text_cmp c.args.one.now) (sym e) ∙ tied_itself nat_list_cmp_total c.args.one.now),
)
