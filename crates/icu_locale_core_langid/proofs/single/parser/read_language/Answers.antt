use Rattle.std.proofs.Common.{sym, ◌∙◌}
use Rattle.icu_locale_core_langid.specs.OneVariant.{parts_id}
use Rattle.icu_locale_core_langid.proofs.SingleFrontLemmas.{rest_refused}
use Rattle.icu_locale_core_langid.proofs.single.parser.read_language.Goals as goal

pub returns-else-whole : goal.returns-else-whole
returns-else-whole c =
    let front = c.in_ok-parts.ensures in
    rest_refused c.args.from (parts_id c.in_ok-parts.parts) front.0 front.1 (sym front.2 ∙ c.if-whole.false)
