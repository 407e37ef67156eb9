use Rattle.std.proofs.Common.{[], None, ap, ◌∙◌}
use Rattle.icu_locale_core_langid.specs.Parts.{with_parts}
use Rattle.icu_locale_core_langid.proofs.SteppingLemmas.{stops_in_front}
use Rattle.icu_locale_core_langid.proofs.parser.read_front.Goals as goal

pub returns-clause-stops : goal.returns-clause-stops
returns-clause-stops c =
    stops_in_front c.args.from c.in-Some.behind c.in_ok-rest.rest c.in-Some.first.now _ c.put_pieces.new.id c.in-Some.ensures c.in-Ok.ensures.0
    (c.from_language-id.ensures ∙ ap (λ language. with_parts language None None []) c.in-Ok.ensures.1) c.in_ok-rest.ensures.stops
