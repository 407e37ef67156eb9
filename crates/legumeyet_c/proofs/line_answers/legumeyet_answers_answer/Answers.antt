use Rattle.std.proofs.Common.{rules, w32, ◌∙◌}
use Rattle.std.proofs.lemmas.Int.{to_z-of_z}
use mir.Val.{SFits}
use Rattle.legumeyet_c.proofs.line_answers.legumeyet_answers_answer.Goals as goal

pub returns-clause-told : goal.returns-clause-told
returns-clause-told c =
    let fits : SFits w32 c.status_of.result = search rules in
    record { outcome = c.answer_after.result; number = to_z-of_z w32 c.status_of.result fits ∙ c.status_of.ensures; held = c.answer_after.ensures.told }
