use Rattle.std.proofs.Common.{◌∙◌}
use Rattle.legumeyet_c.specs.Telling.{told_by}
use Rattle.legumeyet_c.proofs.TellingLemmas.{put_told, told, told_same}
use Rattle.legumeyet_c.proofs.telling.put_fact_of.Goals as goal

pub returns : goal.returns
returns c =
    put_told _ (told_by c.args.lent.now) c.args.fact _ _ _ _ _
    (told_same c.args.lent.now c.get-formatter.result.now c.symbols.result.now c.digits.result.now c.fractions.result _ c.get-formatter.ensures c.symbols.ensures c.digits.ensures c.fractions.ensures c.rules.ensures)
    c.put_fact.ensures
