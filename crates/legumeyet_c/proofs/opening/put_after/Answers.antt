use Rattle.std.proofs.Common.{refl, ap, ◌∙◌, Option, Some}
use Rattle.legumeyet_c.specs.Kinds.{is_kept}
use Rattle.legumeyet_c.specs.declared.content.Content.{Content}
use Rattle.legumeyet_c.proofs.opening.put_after.Goals as goal

pub returns-in-Ok : goal.returns-in-Ok
returns-in-Ok g c = record {
  opened = λ ok. (c.args.held, refl, ap (λ (o : Option Content). g.T.ContentKind.open_in o) (c.put.ensures ∙ ap Some c.in-Ok.ensures.ok) ∙ c.into_content.ensures.held);
  unkept = λ ok. ap is_kept (c.put.ensures ∙ ap Some c.in-Ok.ensures.ok) ∙ c.into_content.ensures.unkept;
  cause = tt;
  same = tt;
}
