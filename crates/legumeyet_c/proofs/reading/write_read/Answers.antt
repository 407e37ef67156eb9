use Rattle.std.proofs.Common.{◌∙◌, subst, Option}
use Rattle.writeable.proofs.AnnotatedTextLemmas.{text_of_bytes}
use Rattle.legumeyet_c_values.proofs.PuttingLemmas.{put_by, put_refused}
use Rattle.legumeyet_c.specs.HeldFormats.{HeldFormat}
use Rattle.legumeyet_c.specs.Reading.{IsReadFault, ReadsBack}
use Rattle.legumeyet_c.proofs.ReadingLemmas.{unread_other}
use Rattle.legumeyet_c.proofs.reading.write_read.Goals as goal

pub returns-in-Ok : goal.returns-in-Ok
returns-in-Ok g c =
    put_by _ _ _ _ _
    (λ text is. record {
      value = c.in-Ok.value;
      reads = subst (λ (t : Option HeldFormat). ReadsBack g.R.FormatReading.reading t c.args.text.now c.in-Ok.value) c.in-Some.ensures c.in-Ok.ensures.value;
      is = is ∙ text_of_bytes _;
    })
    (λ error none. absurd none)
    c.put.ensures

pub returns-in-Err : goal.returns-in-Err
returns-in-Err g c =
    put_refused _ _ _ _ _ (unread_other g.R.FormatReading.reading g.R.FormatReading.allocates _ c.args.text.now c.in-Err.error c.in-Err.ensures.fault)
    (subst (λ (t : Option HeldFormat). IsReadFault g.R.FormatReading.reading g.R.FormatReading.allocates t c.args.text.now c.in-Err.error) c.in-Some.ensures c.in-Err.ensures.fault)
