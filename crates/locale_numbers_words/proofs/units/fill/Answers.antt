use Rattle.std.proofs.Common.{◌≡◌, ◌∷◌, ◌++◌, Some, Err, ap, ◌∙◌, option_map}
use Rattle.std.specs.Vec.Iter.{into_iter_items}
use Rattle.locale_numbers_words.specs.Entries.{UnitList, all_named}
use Rattle.locale_numbers_words.proofs.UnitsLemmas.{IsLeft, units_added, units_once, units_twice}
use Rattle.locale_numbers_words.proofs.units.fill.Goals as goal

pub loop-name-preserved : goal.loop-name-preserved
loop-name-preserved c =
    let rest = into_iter_items c.next.new.self in
    let done = c.loop-name.map.entries in
    let texts = c.in-Some.words in
    let name = c.in-Some-name.name in
    let step : into_iter_items c.loop-name.name-iterator ≡ (c.in-Some.name, texts) ∷ rest = c.in-Some.ensures.steps.0 in
    let left : IsLeft c.args.units.items done ((Some name, texts) ∷ rest) =
    c.loop-name.invariant.all ∙ ap (λ xs. option_map (λ (more : UnitList). done ++ more) (all_named xs)) (step ∙ ap (λ o. (o, texts) ∷ rest) c.in-Some-name.is) in
    record {
      all = units_added c.args.units.items rest done c.add.new.table.entries name texts left c.in-Ok.ensures.added;
      once = units_once done c.add.new.table.entries name texts c.in-Ok.ensures.added c.in-Ok.ensures.fresh c.loop-name.invariant.once;
    }

pub returns-in-Err-Duplicate : goal.returns-in-Err-Duplicate
returns-in-Err-Duplicate c =
    let rest = into_iter_items c.next.new.self in
    let done = c.loop-name.map.entries in
    let texts = c.in-Some.words in
    let name = c.in-Some-name.name in
    let step : into_iter_items c.loop-name.name-iterator ≡ (c.in-Some.name, texts) ∷ rest = c.in-Some.ensures.steps.0 in
    let left : IsLeft c.args.units.items done ((Some name, texts) ∷ rest) =
    c.loop-name.invariant.all ∙ ap (λ xs. option_map (λ (more : UnitList). done ++ more) (all_named xs)) (step ∙ ap (λ o. (o, texts) ∷ rest) c.in-Some-name.is) in
    units_twice c.args.units.items rest done name texts left (c.in-Err-Duplicate.ensures.duplicate (ap Err c.in-Err-Duplicate.field-0-is))
