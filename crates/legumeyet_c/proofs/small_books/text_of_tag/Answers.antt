use Rattle.std.proofs.Common.{Option, subst}
use Rattle.std.specs.Prelude.{IfErr, IfOk}
use Rattle.icu_locale_core.specs.TagPreferences.{Preferences}
use Rattle.locale_numbers.specs.Wanted.{wanted_of}
use Rattle.legumeyet_c.specs.SmallBooks.{IsTextPreferred, IsUnwanted}
use Rattle.legumeyet_c.proofs.SmallBookLemmas.{memory_unwanted}
use Rattle.legumeyet_c.proofs.small_books.text_of_tag.Goals as goal

pub returns-in-Ok-clause-value : goal.returns-in-Ok-clause-value
returns-in-Ok-clause-value c =
    subst (λ (m : Option Preferences). IfOk c.text_wanted.result (λ text. IsTextPreferred m c.args.texts.now c.args.asked.now text.items)) c.in-Ok.ensures.value c.text_wanted.ensures.value

pub returns-in-Ok-clause-fault : goal.returns-in-Ok-clause-fault
returns-in-Ok-clause-fault c = subst (λ (m : Option Preferences). IfErr c.text_wanted.result (IsUnwanted m)) c.in-Ok.ensures.value c.text_wanted.ensures.fault

pub returns-in-Err-clause-fault : goal.returns-in-Err-clause-fault
returns-in-Err-clause-fault c = memory_unwanted (wanted_of c.args.tag.now)
