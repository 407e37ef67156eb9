use Rattle.std.proofs.Common.{map, ◌++◌, ◌∙◌, refl, sym, ap}
use Rattle.std.proofs.lemmas.List.{map_push, length-map}
use Rattle.writeable.specs.HeldParts.{HeldParts}
use Rattle.writeable.specs.ListedParts.{interval_of, open_interval}
use Rattle.writeable.specs.PartName.{name_of}
use Rattle.writeable.proofs.HeldLemmas.{holds_opening}
use Rattle.writeable.proofs.HeldPartsLemmas.{open_at}
use Rattle.writeable.proofs.ListedPartsLemmas.{holds_same, refused_opening}
use Rattle.writeable.proofs.parts_sink.PartsSinkSink.open_part.Goals as goal

-- one more part is open
pub returns-in-Ok-clause-ok : goal.returns-in-Ok-clause-ok
returns-in-Ok-clause-ok c = λ before is.
    let start = c.len.ensures ∙ c.self.inside.text.bytes.ok.0 in
    let place = c.len-2.ensures ∙ c.self.inside.parts.ok.0 ∙ sym (length-map c.self.inside.parts.items interval_of) in
    let pushed = ap (map open_interval) c.in-Ok.ensures.items ∙ map_push open_interval c.self.inside.open_parts.items _
    ∙ (λ i. map open_interval c.self.inside.open_parts.items ++ open_at (start i) (place i) (name_of c.args.part)) in
    holds_opening _ _ before (name_of c.args.part) (ap (λ (s : HeldParts). s.held) c.self.view_is ∙ is) refl refl pushed

-- nothing changed
pub returns-in-Err-clause-begun : goal.returns-in-Err-clause-begun
returns-in-Err-clause-begun c = refused_opening _ _ (name_of c.args.part) (λ before is.
    holds_same _ _ before (ap (λ (s : HeldParts). s.held) c.self.view_is ∙ is) refl refl (ap (map open_interval) c.in-Err.ensures.items))
