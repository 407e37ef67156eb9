use Rattle.icu_locale_core_langid.specs.LanguageText.{language_text}
use Rattle.icu_locale_core_langid.proofs.CountingLemmas.{counted_all, counted_short}
use Rattle.icu_locale_core_langid.proofs.writing.text_length.Goals as goal

pub returns-in-Ok : goal.returns-in-Ok
returns-in-Ok c =
    let text = language_text c.args.id.now in
    counted_all c.new-sink.result c.write_to.new.sink text c.count.result c.new-sink.ensures c.in-Ok.ensures.ok c.count.ensures c.count.type_inv

pub returns-in-Err : goal.returns-in-Err
returns-in-Err c = counted_short c.new-sink.result c.write_to.new.sink (language_text c.args.id.now) c.new-sink.ensures c.in-Err.ensures.begun
