use Rattle.std.proofs.Common.{◌∙◌}
use Rattle.writeable.proofs.AnnotatedTextLemmas.{text_of_bytes}
use Rattle.legumeyet_c_values.proofs.PuttingLemmas.{put_by}
use Rattle.legumeyet_c_values.proofs.facts.put_count.Goals as goal

pub returns : goal.returns
returns c = put_by _ _ _ _ _ (λ text is. is ∙ text_of_bytes _ ∙ c.format.ensures.text) (λ error none. absurd none) c.put.ensures
