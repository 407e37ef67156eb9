use Rattle.serde_json.specs.View.{items_view}
use Rattle.locale_numbers_tables.specs.Keys.{same_key}
use Rattle.locale_numbers_words.specs.Entries.{names_fault, names_key, names_said, units_fault, units_key, units_said}
use Rattle.locale_numbers_words.specs.Faults.{first_fault_after}
use Rattle.locale_numbers_words.proofs.FaultLemmas.{told_first}
use Rattle.locale_numbers_words.proofs.WordsLemmas.{sound_on, told_on}
use Rattle.locale_numbers_words.proofs.filling.fill_both.Goals as goal

pub returns-in-Ok-clause-sound : goal.returns-in-Ok-clause-sound
returns-in-Ok-clause-sound c =
    sound_on c.fill-in-Ok.result
    (first_fault_after same_key names_key names_said names_fault c.args.names.now.entries (items_view c.args.name_entries.items))
    (first_fault_after same_key units_key units_said units_fault c.args.units.now.entries (items_view c.args.unit_entries.items))
    c.in-Ok.ensures.sound c.fill-in-Ok.ensures.sound

pub returns-in-Ok-clause-fault : goal.returns-in-Ok-clause-fault
returns-in-Ok-clause-fault c =
    told_on c.fill-in-Ok.result
    (first_fault_after same_key names_key names_said names_fault c.args.names.now.entries (items_view c.args.name_entries.items))
    (first_fault_after same_key units_key units_said units_fault c.args.units.now.entries (items_view c.args.unit_entries.items))
    c.in-Ok.ensures.sound c.fill-in-Ok.ensures.fault

pub returns-in-Err-clause-fault : goal.returns-in-Err-clause-fault
returns-in-Err-clause-fault c =
    told_first
    (first_fault_after same_key names_key names_said names_fault c.args.names.now.entries (items_view c.args.name_entries.items))
    (first_fault_after same_key units_key units_said units_fault c.args.units.now.entries (items_view c.args.unit_entries.items))
    c.in-Err.fault c.in-Err.ensures.fault
