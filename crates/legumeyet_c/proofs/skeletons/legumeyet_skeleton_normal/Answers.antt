use Rattle.std.proofs.Common.{rules, w32, Err, ◌∙◌}
use Rattle.std.proofs.lemmas.Int.{to_z-of_z}
use mir.Val.{SFits}
use Rattle.writeable.proofs.AnnotatedTextLemmas.{text_of_bytes}
use Rattle.legumeyet_c_values.specs.declared.CallError.TheVariants.{Skeleton}
use Rattle.legumeyet_c_values.proofs.PuttingLemmas.{put_by, put_refused}
use Rattle.legumeyet_c.proofs.skeletons.legumeyet_skeleton_normal.Goals as goal

pub returns-in-Ok-clause-told : goal.returns-in-Ok-clause-told
returns-in-Ok-clause-told c =
    let fits : SFits w32 c.status_of.result = search rules in
    record {
      outcome = c.put.result;
      number = to_z-of_z w32 c.status_of.result fits ∙ c.status_of.ensures;
      held = put_by _ _ _ _ _
          (λ text is. record { skeleton = c.in-Ok.skeleton; reads = search rules; is = is ∙ text_of_bytes _ })
          (λ error none. absurd none)
          c.put.ensures;
    }

pub returns-in-Err-clause-told : goal.returns-in-Err-clause-told
returns-in-Err-clause-told c =
    let fits : SFits w32 c.number.result = search rules in
    record {
      outcome = Err (Skeleton c.in-Err.error);
      number = to_z-of_z w32 c.number.result fits ∙ c.number.ensures;
      held = put_refused _ _ _ _ _ (λ same. absurd (cc same)) (record { fault = c.in-Err.error; refused = search rules; told = search rules });
    }
