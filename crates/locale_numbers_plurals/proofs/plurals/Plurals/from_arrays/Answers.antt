use Rattle.serde_json.specs.View.{items_view}
use Rattle.locale_numbers_tables.specs.Faults.{rules_faults}
use Rattle.locale_numbers_plurals.specs.Plurals.{ranges_faults}
use Rattle.locale_numbers_plurals.proofs.PluralsLemmas.{none_of_both, told_second}
use Rattle.locale_numbers_plurals.proofs.plurals.Plurals.from_arrays.Goals as goal

pub returns-in-Ok-clause-value : goal.returns-in-Ok-clause-value
returns-in-Ok-clause-value c =
    let a = c.args.arrays in
    record {
      sound = none_of_both (rules_faults (items_view a.ordinals.items)) (ranges_faults (items_view a.ranges.items)) c.in_ok-ordinals.ensures.sound c.in-Ok.ensures.sound;
      ordinals_are = c.in_ok-ordinals.ensures.value;
      ranges_are = c.in-Ok.ensures.value;
    }

pub returns-in-Err-clause-fault : goal.returns-in-Err-clause-fault
returns-in-Err-clause-fault c =
    let a = c.args.arrays in
    told_second (rules_faults (items_view a.ordinals.items)) (ranges_faults (items_view a.ranges.items)) c.in-Err.fault c.in_ok-ordinals.ensures.sound c.in-Err.ensures.fault
