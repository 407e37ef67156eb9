use Rattle.std.proofs.Common.{rules, w32, List, Option, ap, subst, ◌∙◌}
use Rattle.std.proofs.lemmas.Int.{to_z-of_z}
use mir.Val.{SFits}
use Rattle.legumeyet_c_values.specs.Putting.{IsPut}
use Rattle.legumeyet_c.specs.HeldFormats.{HeldFormat}
use Rattle.legumeyet_c.specs.Kinds.{format_in}
use Rattle.legumeyet_c.specs.Telling.{IsFactFault, SaysFact}
use Rattle.legumeyet_c.proofs.telling.legumeyet_formatter_tell.Goals as goal

pub returns-clause-told : goal.returns-clause-told
returns-clause-told c =
    let fits : SFits w32 c.status_of.result = search rules in
    record {
      outcome = c.write_fact.result;
      number = to_z-of_z w32 c.status_of.result fits ∙ c.status_of.ensures;
      held = subst (λ (o : Option HeldFormat). IsPut (SaysFact o c.args.fact) (IsFactFault o c.args.fact) c.args.out.now c.write_fact.new.out c.args.length.now c.write_fact.new.length c.write_fact.result)
          (ap format_in c.content.ensures.value) c.write_fact.ensures;
    }
