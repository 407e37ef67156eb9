use Rattle.std.proofs.Common.{◌∙◌, ap, take}
use Rattle.std.specs.List.{list_any}
use Rattle.std.specs.BTreeMap.{is_at}
use Rattle.icu_locale_core_grammar.specs.Subtags.{same_text}
use Rattle.icu_locale_core_grammar.specs.Collections.{contains_text, text_cmp}
use Rattle.icu_locale_core_subtag_lists.specs.Growing.{few}
use Rattle.icu_locale_core_subtag_lists.proofs.GrowingLemmas.{found_in_few, found_in_front, found_after}
use Rattle.icu_locale_core_subtag_lists.proofs.growing_set.GrowingSet.contains.Goals as goal

pub returns-then-items-le-FEW : goal.returns-then-items-le-FEW
returns-then-items-le-FEW g c =
    let t = c.args.subtag.now in
    c.contains.ensures.value ∙ ap (list_any (λ u. same_text u t)) c.as_slice-items.ensures.value ∙ found_in_few t c.self.inside.items.items ∙ ap (contains_text t) c.self.view_is

pub returns-then-contains : goal.returns-then-contains
returns-then-contains g c =
    let t = c.args.subtag.now in
    found_in_front t c.self.inside.items.items c.self.inside.known.keys c.contains-else-items-le-FEW.result c.self.invariant.searched
    (c.contains-else-items-le-FEW.ensures.value ∙ ap (λ l. list_any (λ u. same_text u t) (take few l)) c.as_slice-items.ensures.value) c.if-contains.true
    ∙ ap (contains_text t) c.self.view_is

pub returns-else-contains : goal.returns-else-contains
returns-else-contains g c =
    let t = c.args.subtag.now in
    let known = c.self.inside.known.keys in
    found_after t c.self.inside.items.items known c.contains-else-items-le-FEW.result c.contains-else-contains.result c.self.invariant.searched
    (c.contains-else-items-le-FEW.ensures.value ∙ ap (λ l. list_any (λ u. same_text u t) (take few l)) c.as_slice-items.ensures.value) c.if-contains.false
    (c.contains-else-contains.ensures ∙ ap (λ u. list_any (is_at (text_cmp u)) known) c.to_tinystr.ensures)
    ∙ ap (contains_text t) c.self.view_is
