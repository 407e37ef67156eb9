use Rattle.std.proofs.Common.{Option, Some, ap, subst, sym, ◌∙◌}
use Rattle.std.specs.Prelude.{option_map}
use Rattle.icu_locale_core.specs.DataText.{data_text}
use Rattle.locale_numbers.specs.Book.{BookTables}
use Rattle.writeable.proofs.AnnotatedTextLemmas.{text_of_bytes}
use Rattle.legumeyet_c_values.proofs.PuttingLemmas.{put_by}
use Rattle.legumeyet_c.specs.Locales.{SaysLocale}
use Rattle.legumeyet_c.proofs.locales.write_locale.Goals as goal

pub returns-in-Some-locale : goal.returns-in-Some-locale
returns-in-Some-locale c =
    put_by _ _ _ _ _
    (λ text is. subst (λ (o : Option BookTables). SaysLocale o c.args.index text) c.in-Some.ensures
    (ap (option_map data_text) (sym c.in-Some-locale.ensures) ∙ ap Some (sym (is ∙ text_of_bytes _))))
    (λ error none. absurd none)
    c.put.ensures
