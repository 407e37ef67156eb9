use Rattle.std.proofs.Common.{Some, option_map, sym, ap, true, false}
use Rattle.icu_locale_core_grammar.specs.TagStages.{has_none}
use Rattle.icu_locale_core_langid.specs.OneVariant.{parts_id, one_variant_after}
use Rattle.icu_locale_core_langid.proofs.SteppingLemmas.{one_more_taken}
use Rattle.icu_locale_core_langid.proofs.SingleFrontLemmas.{stops_at_piece, stops_at_end, front_answered}
use Rattle.icu_locale_core_langid.proofs.single.parser.read_front.Goals as goal

pub loop-piece-preserved : goal.loop-piece-preserved
loop-piece-preserved c =
    one_more_taken one_variant_after c.args.from c.loop-piece.piece-iterator c.next.new.self (option_map parts_id c.loop-piece.parts) (Some (parts_id c.in-Some-one_variant_step.next)) c.in-Some.piece.now
    c.loop-piece.invariant c.in-Some.ensures.steps c.in-Some-one_variant_step.ensures

pub returns-in-None-one_variant_step : goal.returns-in-None-one_variant_step
returns-in-None-one_variant_step c =
    let left = c.loop-piece.piece-iterator in
    let first = c.in-Some.ensures.steps in
    front_answered c.args.from left c.loop-piece.parts false c.front_of.result
    (stops_at_piece c.args.from left c.next.new.self (option_map parts_id c.loop-piece.parts) c.in-Some.piece.now c.loop-piece.invariant first c.in-None-one_variant_step.ensures) (sym (ap has_none first)) c.front_of.ensures

pub returns : goal.returns
returns c =
    let left = c.loop-piece.piece-iterator in
    let past = c.in-None.ensures.steps.0 in
    front_answered c.args.from left c.loop-piece.parts true c.front_of-2.result
    (stops_at_end c.args.from left (option_map parts_id c.loop-piece.parts) c.loop-piece.invariant past) (sym (ap has_none past)) c.front_of-2.ensures
