use Rattle.std.proofs.Common.{◌≡◌, List, [], ◌∷◌, ◌++◌, None, sym, ap, ◌∙◌, subst}
use Rattle.indexmap.proofs.CallerLemmas.{insert_entry-new}
use Rattle.locale_numbers_parents.specs.Parents.{Entry, ClosesCycle, listed_parent, same_data_locale}
use Rattle.locale_numbers_parents.proofs.PairsLemmas.{none_from}
use Rattle.locale_numbers_parents.proofs.ParentsLemmas.{closes, stays_open, one_more}
use Rattle.locale_numbers_parents.proofs.parents.Parents.add.Goals as goal

pub returns-then-leads_to-clause-cycle : goal.returns-then-leads_to-clause-cycle
returns-then-leads_to-clause-cycle c is =
    let absent : listed_parent c.args.self.now c.args.locale ≡ None = sym (rw (none_from _ (sym c.is_some.ensures ∙ c.if-is_some.false)) at c.listed.ensures) in
    closes c.args.self.now c.args.locale c.args.parent absent c.leads_to.ensures.follows (sym c.leads_to.ensures.value ∙ c.if-leads_to.true)

pub invariant_of-self-2 : goal.invariant_of-self-2
invariant_of-self-2 c =
    let absent : listed_parent c.args.self.now c.args.locale ≡ None = sym (rw (none_from _ (sym c.is_some.ensures ∙ c.if-is_some.false)) at c.listed.ensures) in
    let inside : listed_parent c.self.inside.pairs.entries c.args.locale ≡ None = rw c.self.view_is absent in
    let away = stays_open c.args.self.now c.args.locale c.args.parent absent c.leads_to.ensures.follows (sym c.leads_to.ensures.value ∙ c.if-leads_to.false) in
    rw (c.in-Ok.ensures.entries ∙ insert_entry-new same_data_locale c.self.inside.pairs c.args.locale c.args.parent inside)
    (one_more c.self.inside.pairs.entries (c.args.locale, c.args.parent) c.self.invariant inside
    (subst (λ (entries : List Entry). ¬ (ClosesCycle entries (c.args.locale, c.args.parent))) (sym c.self.view_is) away))

pub returns-clause-value : goal.returns-clause-value
returns-clause-value c =
    let absent : listed_parent c.args.self.now c.args.locale ≡ None = sym (rw (none_from _ (sym c.is_some.ensures ∙ c.if-is_some.false)) at c.listed.ensures) in
    let inside : listed_parent c.self.inside.pairs.entries c.args.locale ≡ None = rw c.self.view_is absent in
    c.in-Ok.ensures.entries
    ∙ insert_entry-new same_data_locale c.self.inside.pairs c.args.locale c.args.parent inside
    ∙ ap (λ entries. entries ++ (c.args.locale, c.args.parent) ∷ []) c.self.view_is

pub returns-clause-open_ended : goal.returns-clause-open_ended
returns-clause-open_ended c =
    let absent : listed_parent c.args.self.now c.args.locale ≡ None = sym (rw (none_from _ (sym c.is_some.ensures ∙ c.if-is_some.false)) at c.listed.ensures) in
    stays_open c.args.self.now c.args.locale c.args.parent absent c.leads_to.ensures.follows (sym c.leads_to.ensures.value ∙ c.if-leads_to.false)
