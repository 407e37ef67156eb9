use Rattle.icu_locale_core_grammar.proofs.SingleReader.{single_answered}
use Rattle.icu_locale_core_grammar.proofs.SingleTags.{single_is_tag}
use Rattle.icu_locale_core_grammar.proofs.part_laws.single_tags_are_answered.Goals as goal

pub returns : goal.returns
returns c = record { answered = single_answered; tag = single_is_tag }
