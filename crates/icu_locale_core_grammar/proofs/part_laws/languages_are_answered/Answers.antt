use Rattle.icu_locale_core_grammar.proofs.LanguageFaults.{language_answered, language_front}
use Rattle.icu_locale_core_grammar.proofs.part_laws.languages_are_answered.Goals as goal

pub returns : goal.returns
returns c = record { whole = language_answered; front = language_front }
