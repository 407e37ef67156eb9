use Rattle.std.proofs.Common.{ap, ◌∙◌, ◌≡◌}
use Rattle.locale_numbers.specs.FoundRules.{rules_held}
use Rattle.legumeyet_c_values.specs.Numbers.{spelled}
use Rattle.locale_numbers_formatter.specs.FormatText.{FormatTables}
use Rattle.legumeyet_c.specs.Worded.{IsRange, IsRangeFault}
use Rattle.legumeyet_c.specs.Writing.{AreEndsRefused, Asked, GivesEnds, asked_for}
use Rattle.legumeyet_c.proofs.AskedLemmas.{range_unworded}
use Rattle.legumeyet_c.proofs.RangeLemmas.{lent_ends, lent_refused, range_put, range_refused}
use Rattle.legumeyet_c.proofs.ranges.write_range.Goals as goal

pub returns-in_default : goal.returns-in_default
returns-in_default c =
    let first = spelled c.args.first.now in
    let second = spelled c.args.second.now in
    range_unworded IsRange IsRangeFault (GivesEnds first second) (AreEndsRefused first second) c.args.asked.now _ _
    (c.in_default.ensures ∙ ap (λ (a : Asked). a.wording.plurals) c.asked.view_is)

pub returns-in-Ok : goal.returns-in-Ok
returns-in-Ok c =
    let first = spelled c.args.first.now in
    let second = spelled c.args.second.now in
    let lent : Asked = asked_for c.asked.inside.lent c.asked.inside.options in
    let is : lent ≡ c.args.asked.now = c.asked.view_is in
    range_put first second c.args.asked.now (rules_held c.in-Some.plurals) (c.in-Some.ensures ∙ ap (λ (a : Asked). a.wording.plurals) is)
    c.get.result.now (c.give_ends.new.start, c.give_ends.new.end) _ _ _ _ _ (c.get.ensures ∙ ap (λ (a : Asked). a.wording.tables) is)
    (lent_ends first second lent c.args.asked.now (c.give_ends.new.start, c.give_ends.new.end) is c.in-Ok.ensures.value) c.put_range.ensures

pub returns : goal.returns
returns c =
    let first = spelled c.args.first.now in
    let second = spelled c.args.second.now in
    let lent : Asked = asked_for c.asked.inside.lent c.asked.inside.options in
    let is : lent ≡ c.args.asked.now = c.asked.view_is in
    range_refused first second c.args.asked.now (rules_held c.in-Some.plurals) (c.in-Some.ensures ∙ ap (λ (a : Asked). a.wording.plurals) is)
    _ _ c.in-Err.error (lent_refused first second lent c.args.asked.now c.in-Err.error is c.in-Err.ensures.fault)
