use Rattle.std.proofs.Common.{◌∙◌, ap, arith}
use Rattle.std.specs.BTreeSet.{insert_key}
use Rattle.icu_locale_core_grammar.specs.Collections.{contains_text, text_cmp}
use Rattle.icu_locale_core_subtag_lists.proofs.GrowingLemmas.{grown_few, grown_many}
use Rattle.icu_locale_core_subtag_lists.proofs.growing_set.GrowingSet.put.Goals as goal

pub invariant_of-self-then-count-lt-FEW : goal.invariant_of-self-then-count-lt-FEW
invariant_of-self-then-count-lt-FEW g c =
    rw c.in_ok-push.ensures.items
    (grown_few c.self.inside.items.items c.self.inside.known.keys c.args.subtag c.self.invariant c.subtags_are_words.ensures.accepted c.subtags_are_words.ensures.normal
    (ap (contains_text c.args.subtag) c.self.view_is ∙ c.requires) (omega (arith, c.len-count.ensures, c.if-count-lt-FEW.true)))

pub invariant_of-self-in-Ok : goal.invariant_of-self-in-Ok
invariant_of-self-in-Ok g c =
    rw c.in_ok-push.ensures.items
    (grown_many c.self.inside.items.items c.self.inside.known.keys c.args.subtag c.self.invariant c.subtags_are_words.ensures.accepted c.subtags_are_words.ensures.normal
    (ap (contains_text c.args.subtag) c.self.view_is ∙ c.requires) c.insert.new.self.keys (omega (arith, c.len-count.ensures, c.if-count-lt-FEW.false))
    (c.in-Ok.ensures.keys ∙ ap (insert_key text_cmp c.self.inside.known.keys) c.to_tinystr-text.ensures))
