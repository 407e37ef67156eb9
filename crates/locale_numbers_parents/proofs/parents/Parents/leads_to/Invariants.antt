use Rattle.std.proofs.Common.{◌≡◌, ◌-◌}
use Rattle.std.specs.List.{list_any}
use Rattle.icu_decimal_chains.specs.Chains.{chain}
use Rattle.locale_numbers_parents.specs.Parents.{leads_to, most_steps, parent_step, same_data_locale}
use Rattle.locale_numbers_parents.proofs.parents.Parents.leads_to.Given as goal

abbrev pub invariant-loop-turn : goal.invariant-loop-turn
invariant-loop-turn l =
    leads_to l.self l.fn.start l.goal
    ≡ list_any (λ x. same_data_locale x l.goal) (chain (parent_step l.self) (most_steps l.self - l._turn) l.current)
