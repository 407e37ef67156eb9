use Rattle.std.proofs.Common.{rules, w32, Err, refl, ◌∙◌}
use Rattle.std.proofs.lemmas.Int.{to_z-of_z}
use mir.Val.{SFits}
use Rattle.writeable.proofs.AnnotatedTextLemmas.{text_of_bytes}
use Rattle.legumeyet_c_values.specs.declared.CallError.TheVariants.{UnknownOption}
use Rattle.legumeyet_c_values.proofs.PuttingLemmas.{put_by, put_refused}
use Rattle.legumeyet_c.proofs.information.legumeyet_error_text.Goals as goal

pub returns-in-Some : goal.returns-in-Some
returns-in-Some c =
    let fits : SFits w32 c.status_of.result = search rules in
    let error = to_z-of_z w32 c.args.error c.ranges.error in
    record {
      outcome = c.put.result;
      number = to_z-of_z w32 c.status_of.result fits ∙ c.status_of.ensures;
      held = put_by _ _ _ _ _
          (λ text is. record { error = c.in-Some.error; is_number = simp error at c.in-Some.ensures.value; is_text = is ∙ text_of_bytes _ ∙ c.text.ensures })
          (λ error none. absurd none)
          c.put.ensures;
    }

pub returns-in-None : goal.returns-in-None
returns-in-None c =
    let fits : SFits w32 c.number.result = search rules in
    let error = to_z-of_z w32 c.args.error c.ranges.error in
    let none = simp error at c.in-None.ensures.none in
    record {
      outcome = Err UnknownOption;
      number = to_z-of_z w32 c.number.result fits ∙ c.number.ensures;
      held = put_refused _ _ _ _ _ (λ same. absurd (cc same)) (none refl);
    }
