use Rattle.std.proofs.Common.{sym, ap, ◌∙◌, Some}
use Rattle.icu_locale_core.proofs.FaultyPieceLemmas.{stops_unaccepted}
use Rattle.locale_numbers_book.proofs.WantedLemmas.{asks_in, single_system}
use Rattle.locale_numbers_book.proofs.tag_reader.read_preferences.Goals as goal

pub preferences_in-requires : goal.preferences_in-requires
preferences_in-requires c = single_system _ _ c.in-Ok.ensures

pub returns-in-Ok-clause-value : goal.returns-in-Ok-clause-value
returns-in-Ok-clause-value c = ap Some c.preferences_in.ensures ∙ sym (asks_in c.args.tag.now _ c.in-Ok.ensures)

pub returns-in-Err-clause-single : goal.returns-in-Err-clause-single
returns-in-Err-clause-single c = λ m means. absurd (stops_unaccepted _ _ _ m c.in-Err.ensures.stops means)
