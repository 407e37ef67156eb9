use Rattle.std.proofs.Common.{sym, ◌∙◌, arith}
use Rattle.locale_numbers_parents.specs.Parents.{most_steps, parent_step, same_data_locale}
use Rattle.locale_numbers_parents.proofs.PairsLemmas.{meets_at_first, meets_further}
use Rattle.locale_numbers_parents.proofs.parents.Parents.leads_to.Goals as goal

pub loop-turn-init : goal.loop-turn-init
loop-turn-init c = meets_at_first (parent_step c.args.self.now) (λ x. same_data_locale x c.args.goal) (most_steps c.args.self.now) c.args.start

pub loop-turn-preserved : goal.loop-turn-preserved
loop-turn-preserved c =
    c.loop-turn.invariant
    ∙ meets_further (parent_step c.args.self.now) (λ x. same_data_locale x c.args.goal) _ _ _ _ (omega arith) (sym c.eq.ensures ∙ c.if-eq.false) (sym c.parent.ensures ∙ c.in-Some.is)
