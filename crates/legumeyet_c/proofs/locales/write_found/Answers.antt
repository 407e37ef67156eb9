use Rattle.std.proofs.Common.{Option, Result, Ok, Some, ap, subst, sym, ◌∙◌}
use Rattle.std.specs.Result.{result_map_both}
use Rattle.icu_locale_core.specs.DataText.{data_text}
use Rattle.icu_locale_core.specs.TagPreferences.{DataLocaleMeaning}
use Rattle.locale_numbers.specs.Book.{BookTables}
use Rattle.locale_numbers.specs.FoundLocale.{locale_for}
use Rattle.locale_numbers.specs.declared.FormatterError.{FormatterError}
use Rattle.writeable.proofs.AnnotatedTextLemmas.{text_of_bytes}
use Rattle.legumeyet_c_values.proofs.PuttingLemmas.{put_by, put_refused}
use Rattle.legumeyet_c_values.specs.declared.CallError.{CallError}
use Rattle.legumeyet_c.specs.Locales.{IsFoundLocaleFault, SaysFoundLocale}
use Rattle.legumeyet_c.specs.Opening.{IsTagFault}
use Rattle.legumeyet_c.proofs.locales.write_found.Goals as goal

pub returns-in-Ok : goal.returns-in-Ok
returns-in-Ok c =
    put_by _ _ _ _ _
    (λ text is. subst (λ (o : Option BookTables). SaysFoundLocale o c.args.tag.now text) c.in-Some.ensures
    (ap (λ (r : Result DataLocaleMeaning FormatterError). result_map_both data_text (λ error. error) r) c.in-Ok.ensures.value ∙ ap Ok (sym (is ∙ text_of_bytes _))))
    (λ error none. absurd none)
    c.put.ensures

pub returns-in-Err : goal.returns-in-Err
returns-in-Err c =
    put_refused _ _ _ _ c.in-Err.error
    (λ small. subst (λ (e : CallError). IsTagFault (locale_for c.in-Some.book.now c.args.tag.now) c.args.tag.now e) small c.in-Err.ensures.fault)
    (subst (λ (o : Option BookTables). IsFoundLocaleFault o c.args.tag.now c.in-Err.error) c.in-Some.ensures c.in-Err.ensures.fault)
