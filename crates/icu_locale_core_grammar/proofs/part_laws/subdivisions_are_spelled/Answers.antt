use Rattle.icu_locale_core_grammar.proofs.PreferenceLemmas.{subdivision_spells, spelled_subdivision}
use Rattle.icu_locale_core_grammar.proofs.part_laws.subdivisions_are_spelled.Goals as goal

pub returns : goal.returns
returns c = λ text s. (subdivision_spells text s, spelled_subdivision text s)
