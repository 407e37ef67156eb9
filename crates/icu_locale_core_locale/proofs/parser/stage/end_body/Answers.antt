use Rattle.std.proofs.Common.{◌++◌, ◌∷◌, [], sym, ap, ◌∙◌}
use Rattle.std.specs.Option.{option_map}
use Rattle.std.proofs.lemmas.List.{map-append}
use Rattle.icu_locale_core_extensions.specs.BodyView.{body_key, part_view}
use Rattle.icu_locale_core_extensions.specs.ExtensionsValue.{ExtensionsValue}
use Rattle.icu_locale_core_locale.specs.StageView.{singletons}
use Rattle.icu_locale_core_locale.proofs.parser.stage.end_body.Goals as goal

pub returns-clause-ended : goal.returns-clause-ended
returns-clause-ended c = λ is.
    let key = body_key c.args.body in
    let has_key = rw c.in-Some.is at c.in_ok-part.ensures.key in
    record {
      part = part_view c.in-Some.part;
      ends = sym c.in_ok-part.ensures.part ∙ ap (option_map part_view) c.in-Some.is;
      come = ap singletons c.in_ok-push.ensures.ok ∙ map-append (λ b. b ∷ []) c.args.seen.now (c.key_of-key.result ∷ [])
          ∙ ap (λ k. singletons c.args.seen.now ++ k ∷ []) c.key_of-key.ensures;
      put = ap (λ (e : ExtensionsValue). e.blocks) (c.in_ok-put_part.ensures.ok key has_key);
    }
