use Rattle.std.proofs.Common.{◌+◌}
use Rattle.icu_dimension_affixes.specs.UnitPlaces.{places}
use Rattle.icu_dimension_affixes.proofs.PlaceLemmas.{cut_once, cut_somewhere, cut_twice, memory_first, memory_second, places_first, places_second}
use Rattle.icu_dimension_affixes.proofs.affixes.UnitAffixes.try_new.Goals as goal

pub returns-in-Some-clause-once : goal.returns-in-Some-clause-once
returns-in-Some-clause-once c =
    cut_once c.of_cut.result (places c.args.before.now + places c.args.after.now) (places c.in-Some.first.now + (places c.in-Some.second.now + places c.args.after.now)) (places_first c.args.before.now c.in-Some.first.now c.in-Some.second.now c.args.after.now c.in-Some.ensures.some) c.of_cut.ensures.clear

pub returns-in-Some-clause-no_place : goal.returns-in-Some-clause-no_place
returns-in-Some-clause-no_place c =
    cut_somewhere c.of_cut.result (places c.args.before.now + places c.args.after.now) (places c.in-Some.first.now + (places c.in-Some.second.now + places c.args.after.now)) (places_first c.args.before.now c.in-Some.first.now c.in-Some.second.now c.args.after.now c.in-Some.ensures.some) c.of_cut.ensures.no_place

pub returns-in-Some-clause-twice : goal.returns-in-Some-clause-twice
returns-in-Some-clause-twice c =
    cut_twice c.of_cut.result (places c.args.before.now + places c.args.after.now) (places c.in-Some.first.now + (places c.in-Some.second.now + places c.args.after.now)) (places_first c.args.before.now c.in-Some.first.now c.in-Some.second.now c.args.after.now c.in-Some.ensures.some) c.of_cut.ensures.twice

pub returns-in-Some-clause-memory : goal.returns-in-Some-clause-memory
returns-in-Some-clause-memory c = memory_first c.of_cut.result c.args.before.now c.in-Some.first.now c.in-Some.second.now c.args.after.now c.in-Some.ensures.some c.of_cut.ensures.memory

pub returns-in-Some-split_at_place-clause-once : goal.returns-in-Some-split_at_place-clause-once
returns-in-Some-split_at_place-clause-once c =
    cut_once c.of_cut-in-Some-split_at_place.result (places c.args.before.now + places c.args.after.now) (places c.args.before.now + (places c.in-Some-split_at_place.second.now + places c.in-Some-split_at_place.third.now)) (places_second c.args.after.now c.args.before.now c.in-Some-split_at_place.second.now c.in-Some-split_at_place.third.now c.in-Some-split_at_place.ensures.some) c.of_cut-in-Some-split_at_place.ensures.clear

pub returns-in-Some-split_at_place-clause-no_place : goal.returns-in-Some-split_at_place-clause-no_place
returns-in-Some-split_at_place-clause-no_place c =
    cut_somewhere c.of_cut-in-Some-split_at_place.result (places c.args.before.now + places c.args.after.now) (places c.args.before.now + (places c.in-Some-split_at_place.second.now + places c.in-Some-split_at_place.third.now)) (places_second c.args.after.now c.args.before.now c.in-Some-split_at_place.second.now c.in-Some-split_at_place.third.now c.in-Some-split_at_place.ensures.some) c.of_cut-in-Some-split_at_place.ensures.no_place

pub returns-in-Some-split_at_place-clause-twice : goal.returns-in-Some-split_at_place-clause-twice
returns-in-Some-split_at_place-clause-twice c =
    cut_twice c.of_cut-in-Some-split_at_place.result (places c.args.before.now + places c.args.after.now) (places c.args.before.now + (places c.in-Some-split_at_place.second.now + places c.in-Some-split_at_place.third.now)) (places_second c.args.after.now c.args.before.now c.in-Some-split_at_place.second.now c.in-Some-split_at_place.third.now c.in-Some-split_at_place.ensures.some) c.of_cut-in-Some-split_at_place.ensures.twice

pub returns-in-Some-split_at_place-clause-memory : goal.returns-in-Some-split_at_place-clause-memory
returns-in-Some-split_at_place-clause-memory c = memory_second c.of_cut-in-Some-split_at_place.result c.args.after.now c.args.before.now c.in-Some-split_at_place.second.now c.in-Some-split_at_place.third.now c.in-Some-split_at_place.ensures.some c.of_cut-in-Some-split_at_place.ensures.memory
