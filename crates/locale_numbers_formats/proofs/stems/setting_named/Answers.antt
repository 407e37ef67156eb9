use Rattle.std.proofs.Common.{Option, ap, ◌∙◌}
use Rattle.locale_numbers_formats.specs.Stems.{or_marked, or_slashed}
use Rattle.locale_numbers_formats.specs.declared.stems.Setting.{Setting}
use Rattle.locale_numbers_formats.proofs.stems.setting_named.Goals as goal

pub returns-in-Some : goal.returns-in-Some
returns-in-Some c = ap (λ (o : Option Setting). or_marked o c.args.word.now) c.in-Some.ensures

pub returns-in-Some-marked : goal.returns-in-Some-marked
returns-in-Some-marked c =
    ap (λ (o : Option Setting). or_slashed o c.args.word.now) c.in-Some-marked.ensures
    ∙ ap (λ (o : Option Setting). or_marked o c.args.word.now) c.in-None.ensures

pub returns-in-None-marked : goal.returns-in-None-marked
returns-in-None-marked c =
    c.slashed.ensures
    ∙ ap (λ (o : Option Setting). or_slashed o c.args.word.now) c.in-None-marked.ensures
    ∙ ap (λ (o : Option Setting). or_marked o c.args.word.now) c.in-None.ensures
