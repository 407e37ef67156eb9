use Rattle.icu_locale_core_keywords_fields.proofs.ReadingLemmas.{read_lower}
use Rattle.icu_locale_core_keywords_fields.proofs.headed.read_key.Goals as goal

pub returns : goal.returns
returns g c =
    read_lower g.K.SubtagRule.accepts g.K.SubtagRule.normal _ c.args.piece.now c.try_from_utf8.result _ g.met.K.EntryKind.keys.lowers c.ok.ensures.value c.try_from_utf8.ensures
