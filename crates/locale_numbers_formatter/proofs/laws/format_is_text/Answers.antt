use Rattle.locale_numbers_formatter.proofs.ExactFormLemmas.{exact_texts, format_texts}
use Rattle.locale_numbers_formatter.specs.Laws.{FormatIsText}
use Rattle.locale_numbers_formatter.proofs.laws.format_is_text.Goals as goal

pub returns-clause-number : goal.returns-clause-number
returns-clause-number c =
    format_texts c.plain_is_layered.ensures.text c.plain_is_layered.ensures.parts c.compact_is_layered.ensures.text c.compact_is_layered.ensures.parts
    c.unit_is_layered.ensures.text c.unit_is_layered.ensures.parts c.scientific_is_layered.ensures.text c.scientific_is_layered.ensures.parts
    c.text_law.ensures.decimal c.text_law-2.ensures.text c.text_law-3.ensures

pub returns-clause-exact : goal.returns-clause-exact
returns-clause-exact c =
    let number : FormatIsText = format_texts c.plain_is_layered.ensures.text c.plain_is_layered.ensures.parts c.compact_is_layered.ensures.text c.compact_is_layered.ensures.parts
    c.unit_is_layered.ensures.text c.unit_is_layered.ensures.parts c.scientific_is_layered.ensures.text c.scientific_is_layered.ensures.parts
    c.text_law.ensures.decimal c.text_law-2.ensures.text c.text_law-3.ensures in
    exact_texts number c.compact_is_layered.ensures.exact c.compact_is_layered.ensures.exact_parts c.exact_texts_are_of_events.ensures
