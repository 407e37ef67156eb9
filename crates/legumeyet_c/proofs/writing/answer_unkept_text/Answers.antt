use Rattle.std.proofs.Common.{rules, w32, ◌∙◌}
use Rattle.std.proofs.lemmas.Int.{to_z-of_z}
use mir.Val.{SFits}
use Rattle.legumeyet_c.specs.Kinds.{format_in}
use Rattle.legumeyet_c.specs.Opened.{opened}
use Rattle.legumeyet_c.specs.Writing.{asked_of}
use Rattle.legumeyet_c.proofs.DirectLemmas.{words_put}
use Rattle.legumeyet_c.proofs.writing.answer_unkept_text.Goals as goal

pub returns-in-Some : goal.returns-in-Some
returns-in-Some c =
    let fits : SFits w32 c.status_of.result = search rules in
    record {
      outcome = c.put_spelled_category.result;
      number = to_z-of_z w32 c.status_of.result fits ∙ c.status_of.ensures;
      held = words_put c.in-Some.rules.now (asked_of (format_in (opened c.args.content)) c.args.words.now) c.args.text.now _ _ _ _ _ c.in-Some.ensures c.put_spelled_category.ensures;
    }
