use Rattle.std.proofs.Common.{◌≡◌, ◌∷◌, ◌++◌, rules}
use Rattle.fixed_decimal.specs.PlainText.{MarksExponent}
use Rattle.fixed_decimal.proofs.ScientificTextLemmas.{no_marks, no_small_mark, second_mark}
use Rattle.fixed_decimal.proofs.scientific.split_scientific.Goals as goal

pub returns-in_default-clause-none : goal.returns-in_default-clause-none
returns-in_default-clause-none c =
    no_marks c.args.text.now c.split_mark.result.0.now c.split_mark.result.1.now c.split_mark.ensures.whole c.split_mark.ensures.plain (search rules)

pub returns-then-mark-ne101-clause-none : goal.returns-then-mark-ne101-clause-none
returns-then-mark-ne101-clause-none c =
    let whole : c.args.text.now ≡ c.split_mark.result.0.now ++ (c.in-Some.mark.now ∷ c.in-Some.behind.now) = search rules in
    let marks : MarksExponent c.in-Some.mark.now = search rules in
    no_small_mark c.args.text.now c.split_mark.result.0.now c.in-Some.behind.now c.in-Some.mark.now whole c.split_mark.ensures.plain marks (search rules)

pub returns-then-not-is_empty-clause-none : goal.returns-then-not-is_empty-clause-none
returns-then-not-is_empty-clause-none c =
    let whole : c.args.text.now ≡ c.split_mark.result.0.now ++ (c.in-Some.mark.now ∷ c.in-Some.behind.now) = search rules in
    let marks : MarksExponent c.in-Some.mark.now = search rules in
    second_mark c.args.text.now c.split_mark.result.0.now c.in-Some.behind.now c.split_mark-2.result.0.now c.split_mark-2.result.1.now c.in-Some.mark.now whole c.split_mark.ensures.plain marks
    c.split_mark-2.ensures.whole c.split_mark-2.ensures.plain c.split_mark-2.ensures.rest (search rules)
