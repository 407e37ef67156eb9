use Rattle.std.proofs.Common.{sym, subst, ap, ◌∙◌}
use Rattle.std.specs.List.{list_all}
use Rattle.icu_locale_core_langid.specs.Spelling.{IsVariantSet, stands_in}
use Rattle.icu_locale_core_langid.proofs.SeenLemmas.{set_front, set_rest, all_joined, not_all_joined}
use Rattle.icu_locale_core_langid.proofs.spelling.are_there.Goals as goal

pub are_among-requires-clause-set : goal.are_among-requires-clause-set
are_among-requires-clause-set c = set_front _ _ (subst IsVariantSet c.split_at.ensures.by_index.0 c.loop-rest.invariant.set)

pub loop-rest-preserved : goal.loop-rest-preserved
loop-rest-preserved c = record {
  set = set_rest _ _ (subst IsVariantSet c.split_at.ensures.by_index.0 c.loop-rest.invariant.set);
  same =
      sym (all_joined (stands_in c.args.pieces.now) c.split_at.result.0.now c.split_at.result.1.now (ap (λ l. list_all (stands_in l) c.split_at.result.0.now) (sym c.again.ensures) ∙ sym c.are_among.ensures ∙ c.if-not-are_among.false))
      ∙ ap (list_all (stands_in c.args.pieces.now)) (sym c.split_at.ensures.by_index.0) ∙ c.loop-rest.invariant.same;
}

pub returns-then-not-are_among : goal.returns-then-not-are_among
returns-then-not-are_among c =
    sym
    (sym c.loop-rest.invariant.same
    ∙ ap (list_all (stands_in c.args.pieces.now)) c.split_at.ensures.by_index.0
    ∙ not_all_joined (stands_in c.args.pieces.now) c.split_at.result.0.now c.split_at.result.1.now (ap (λ l. list_all (stands_in l) c.split_at.result.0.now) (sym c.again.ensures) ∙ sym c.are_among.ensures ∙ c.if-not-are_among.true))
