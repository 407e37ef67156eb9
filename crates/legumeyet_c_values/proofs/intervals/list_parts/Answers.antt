use Rattle.std.proofs.Common.{rules, arith, map, ◌∙◌}
use Rattle.std.proofs.lemmas.List.{length-map, length-set}
use Rattle.legumeyet_c_values.specs.Parts.{listed_as}
use Rattle.legumeyet_c_values.proofs.ListingLemmas.{more_after, more_front, over_most}
use Rattle.legumeyet_c_values.proofs.intervals.list_parts.Goals as goal

pub loop-index-preserved : goal.loop-index-preserved
loop-index-preserved c =
    let i = c.loop-index in record {
      same = length-set i.intervals i.index c.interval_by.result ∙ i.invariant.same;
      front = more_front listed_as c.args.parts.now i.intervals i.index _ c.interval_by.result (search rules) (search rules) i.invariant.front c.interval_by.ensures;
      behind = more_after i.intervals c.args.intervals.now i.index c.interval_by.result i.invariant.behind;
    }

pub returns : goal.returns
returns c =
    let i = c.loop-index in
    over_most (map listed_as c.args.parts.now) c.args.intervals.now i.intervals i.index
    (omega (arith, c.min-count.ensures, i.auto.index-end, c.loop-index-test.false, length-map c.args.parts.now listed_as)) i.invariant.front i.invariant.behind
