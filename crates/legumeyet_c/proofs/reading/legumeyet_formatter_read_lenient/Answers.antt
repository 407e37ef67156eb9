use Rattle.std.proofs.Common.{rules, w32, ap, ◌∙◌}
use Rattle.std.proofs.lemmas.Int.{to_z-of_z}
use mir.Val.{SFits}
use Rattle.legumeyet_c.specs.HeldFormats.{TypedReadAllocates}
use Rattle.legumeyet_c.specs.Kinds.{format_in}
use Rattle.legumeyet_c.specs.Reading.{typed_reading}
use Rattle.legumeyet_c.proofs.ReadingLemmas.{read_open}
use Rattle.legumeyet_c.proofs.reading.legumeyet_formatter_read_lenient.Goals as goal

pub returns-clause-told : goal.returns-clause-told
returns-clause-told c =
    let fits : SFits w32 c.status_of.result = search rules in
    record {
      outcome = c.write_read.result;
      number = to_z-of_z w32 c.status_of.result fits ∙ c.status_of.ensures;
      held = read_open typed_reading TypedReadAllocates c.args.text.now _ _ _ _ _ (ap format_in (c.content.ensures.value ∙ c.ready_after.ensures)) c.write_read.ensures;
    }
