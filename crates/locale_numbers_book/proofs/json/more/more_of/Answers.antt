use Rattle.serde_json.specs.View.{items_view}
use Rattle.locale_numbers_plurals.specs.Plurals.{plurals_fault}
use Rattle.locale_numbers_plurals.proofs.PluralsLemmas.{none_of_both, told_second}
use Rattle.locale_numbers_signs.specs.SignsEntries.{signs_faults}
use Rattle.locale_numbers_book.proofs.json.more.more_of.Goals as goal

pub returns-in-Ok-clause-sound : goal.returns-in-Ok-clause-sound
returns-in-Ok-clause-sound c =
    let a = c.args.arrays in
    none_of_both (plurals_fault (items_view a.plurals.ordinals.items) (items_view a.plurals.ranges.items)) (signs_faults (items_view a.signs.items)) c.in_ok-plurals.ensures.value.sound c.in-Ok.ensures.sound

pub returns-in-Err-clause-fault : goal.returns-in-Err-clause-fault
returns-in-Err-clause-fault c =
    let a = c.args.arrays in
    told_second (plurals_fault (items_view a.plurals.ordinals.items) (items_view a.plurals.ranges.items)) (signs_faults (items_view a.signs.items)) c.in-Err.fault c.in_ok-plurals.ensures.value.sound c.in-Err.ensures.fault
