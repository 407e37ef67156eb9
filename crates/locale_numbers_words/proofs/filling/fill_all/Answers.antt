use Rattle.std.specs.Option.{option_or}
use Rattle.serde_json.specs.View.{items_view}
use Rattle.locale_numbers_tables.specs.Keys.{same_data_locale, same_key}
use Rattle.locale_numbers_words.specs.Entries.{locale_key, names_fault, names_key, names_said, patterns_fault, patterns_said, units_fault, units_key, units_said}
use Rattle.locale_numbers_words.specs.Faults.{first_fault_after}
use Rattle.locale_numbers_words.proofs.FaultLemmas.{told_first}
use Rattle.locale_numbers_words.proofs.WordsLemmas.{sound_on, told_on}
use Rattle.locale_numbers_words.proofs.filling.fill_all.Goals as goal

pub returns-in-Ok-clause-sound : goal.returns-in-Ok-clause-sound
returns-in-Ok-clause-sound c =
    let a = c.args.arrays in
    sound_on c.fill_both.result
    (first_fault_after same_data_locale locale_key patterns_said patterns_fault c.args.patterns.now.entries (items_view a.patterns.items))
    (option_or (first_fault_after same_key names_key names_said names_fault c.args.names.now.entries (items_view a.names.items))
    (first_fault_after same_key units_key units_said units_fault c.args.units.now.entries (items_view a.units.items)))
    c.in-Ok.ensures.sound c.fill_both.ensures.sound

pub returns-in-Ok-clause-fault : goal.returns-in-Ok-clause-fault
returns-in-Ok-clause-fault c =
    let a = c.args.arrays in
    told_on c.fill_both.result
    (first_fault_after same_data_locale locale_key patterns_said patterns_fault c.args.patterns.now.entries (items_view a.patterns.items))
    (option_or (first_fault_after same_key names_key names_said names_fault c.args.names.now.entries (items_view a.names.items))
    (first_fault_after same_key units_key units_said units_fault c.args.units.now.entries (items_view a.units.items)))
    c.in-Ok.ensures.sound c.fill_both.ensures.fault

pub returns-in-Err-clause-fault : goal.returns-in-Err-clause-fault
returns-in-Err-clause-fault c =
    let a = c.args.arrays in
    told_first
    (first_fault_after same_data_locale locale_key patterns_said patterns_fault c.args.patterns.now.entries (items_view a.patterns.items))
    (option_or (first_fault_after same_key names_key names_said names_fault c.args.names.now.entries (items_view a.names.items))
    (first_fault_after same_key units_key units_said units_fault c.args.units.now.entries (items_view a.units.items)))
    c.in-Err.fault c.in-Err.ensures.fault
