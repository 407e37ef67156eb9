use Rattle.std.proofs.Common.{◌≡◌, ◌++◌, ◌∙◌, ap, option_map, sym}
use Rattle.writeable.specs.AnnotatedText.{bytes, without_parts}
use Rattle.writeable.specs.Taking.{begun_first, begun_then, on_err}
use Rattle.icu_decimal_plain.specs.Affixes.{events_with_sign}
use Rattle.icu_decimal_plain.specs.HeldAffixes.{part_name, texts_of}
use Rattle.icu_decimal_plain.proofs.TextLemmas.{with_sign}
use Rattle.icu_decimal_plain.proofs.formatted_sign.FormattedSignWriteable.write_text.Goals as goal

pub returns-in_err-write_text-clause-begun : goal.returns-in_err-write_text-clause-begun
returns-in_err-write_text-clause-begun g c =
    let affixes = c.in-Some.affixes in
    let es = g.T.Writeable.events c.self.inside.value in
    let is : without_parts (events_with_sign g.T.Writeable.events c.args.self.now) ≡ bytes affixes.prefix.now ++ (without_parts es ++ bytes affixes.suffix.now) =
    ap (λ s. without_parts (events_with_sign g.T.Writeable.events s)) (sym c.self.view_is)
    ∙ ap (λ a. without_parts (events_with_sign g.T.Writeable.events (record { value = c.self.inside.value; affixes = option_map texts_of a }))) c.in-Some.is
    ∙ with_sign (part_name affixes.part) affixes.prefix.now affixes.suffix.now es in
    on_err c.from_residual-in_err-write_text.result
    (rw is (begun_then g.S.Sink.takes g.S.Sink.lacks_room g.S.Sink.refused g.met.S.Sink.joins _ _ _ (bytes affixes.prefix.now) (without_parts es ++ bytes affixes.suffix.now) c.in_ok-write_str.ensures.ok c.in_ok-write_str.ensures.refused
    (begun_first g.S.Sink.takes g.S.Sink.lacks_room g.met.S.Sink.lacks_more _ (without_parts es) (bytes affixes.suffix.now) _ c.in_err-write_text.ensures.begun)))

pub returns-clause-begun : goal.returns-clause-begun
returns-clause-begun g c =
    let affixes = c.in-Some.affixes in
    let es = g.T.Writeable.events c.self.inside.value in
    let is : without_parts (events_with_sign g.T.Writeable.events c.args.self.now) ≡ bytes affixes.prefix.now ++ (without_parts es ++ bytes affixes.suffix.now) =
    ap (λ s. without_parts (events_with_sign g.T.Writeable.events s)) (sym c.self.view_is)
    ∙ ap (λ a. without_parts (events_with_sign g.T.Writeable.events (record { value = c.self.inside.value; affixes = option_map texts_of a }))) c.in-Some.is
    ∙ with_sign (part_name affixes.part) affixes.prefix.now affixes.suffix.now es in
    rw is (g.met.S.Sink.stops_in_second _ _ _ _ (bytes affixes.prefix.now) (without_parts es ++ bytes affixes.suffix.now) c.in_ok-write_str.ensures.ok c.in_ok-write_str.ensures.refused
    (g.met.S.Sink.stops_in_second _ _ _ _ (without_parts es) (bytes affixes.suffix.now) c.in_ok-write_text.ensures.ok c.in_ok-write_text.ensures.refused c.write_str-2.ensures.begun))
