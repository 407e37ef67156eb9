use Rattle.std.proofs.Common.{false, true, subst, arith, ◌∙◌}
use Rattle.std.proofs.Math.ListN.{replicate, length-set, length-replicate}
use Rattle.icu_locale_core_langid.proofs.SeenLemmas.{AreSeen, none_seen, kept_seen, more_seen, marked_all, unmarked}
use Rattle.icu_locale_core_langid.proofs.spelling.are_among.Goals as goal

pub loop-piece-init : goal.loop-piece-init
loop-piece-init g c = record { room = length-replicate g.row.N false; seen = subst (AreSeen c.args.variants.now (replicate g.row.N false) c.into_iter-piece-iterator.result) c.into_iter-piece-iterator.ensures.into_iter_gives (none_seen c.args.variants.now (replicate g.row.N false) c.into_iter-piece-iterator.result (unmarked g.row.N)) }

pub loop-piece-preserved-in-Some-index_of : goal.loop-piece-preserved-in-Some-index_of
loop-piece-preserved-in-Some-index_of g c = record {
  room = length-set c.loop-piece.seen c.in-Some-index_of.index true ∙ c.loop-piece.invariant.room;
  seen =
      more_seen c.args.variants.now c.loop-piece.seen c.in-Some.piece.now c.next.new.self c.args.pieces c.in-Some-index_of.index c.requires.set.rises (omega (arith, c.loop-piece.invariant.room, c.requires.few)) c.in-Some-index_of.ensures
      (subst (λ l. AreSeen c.args.variants.now c.loop-piece.seen l c.args.pieces) c.in-Some.ensures.steps c.loop-piece.invariant.seen);
}

pub loop-piece-preserved : goal.loop-piece-preserved
loop-piece-preserved g c = record {
  room = c.loop-piece.invariant.room;
  seen =
      kept_seen c.args.variants.now c.loop-piece.seen c.in-Some.piece.now c.next.new.self c.args.pieces c.in_default.ensures
      (subst (λ l. AreSeen c.args.variants.now c.loop-piece.seen l c.args.pieces) c.in-Some.ensures.steps c.loop-piece.invariant.seen);
}

pub returns : goal.returns
returns g c =
    c.are_set.ensures
    ∙ marked_all c.args.variants.now c.loop-piece.seen c.args.pieces c.requires.set.each (omega (arith, c.loop-piece.invariant.room, c.requires.few))
    (subst (λ l. AreSeen c.args.variants.now c.loop-piece.seen l c.args.pieces) c.in-None.ensures.steps.0 c.loop-piece.invariant.seen)

pub shared_whole_as_front-are_set : goal.shared_whole_as_front-are_set
shared_whole_as_front-are_set g c = (c.requires.few, omega (arith, c.requires.held))
