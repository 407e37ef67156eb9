use Rattle.std.proofs.Common.{◌≡◌, true, sym, ◌∙◌, rules}
use Rattle.tinystr.specs.SmallText.{IsSmall}
use Rattle.icu_locale_core_subtags.specs.RuleLaws.{small_from_rule}
use Rattle.icu_locale_core_subtags.proofs.subtag_of.SubtagOf.try_from_utf8.Goals as goal

pub of_text-requires : goal.of_text-requires
of_text-requires g c =
    let accepted : g.R.SubtagRule.accepts c.args.code_units.now ≡ true = sym c.accepts.ensures ∙ c.if-not-accepts.false in
    let small : IsSmall g.row.N c.args.code_units.now = small_from_rule g.R.SubtagRule.laws c.args.code_units.now accepted in
    search rules
