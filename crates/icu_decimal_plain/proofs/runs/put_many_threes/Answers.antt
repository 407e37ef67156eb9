use Rattle.std.proofs.Common.{◌≡◌, [], ◌∷◌, ◌++◌, ◌∙◌, ap, arith, replicate, sym, take}
use Rattle.icu_decimal_plain.specs.LaterGroups.{groups_ahead}
use Rattle.icu_decimal_plain.specs.Runs.{run_text}
use Rattle.icu_decimal_plain.proofs.runs.put_many_threes.Goals as goal

pub returns-clause-text : goal.returns-clause-text
returns-clause-text g c =
    let sixteen : c.args.groups ≡ 16 = grind (arith, c.if-groups-ne16.false) in
    c.set_block.ensures
    ∙ ap (λ text. take c.args.len c.args.waiting.now ++ text)
    (c.sixteen_threes-text.ensures ∙ ap (λ n. groups_ahead (c.args.separator ∷ []) (run_text c.args.nought) (replicate n 3) c.args.digits.now) (sym sixteen))
