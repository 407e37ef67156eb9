use Rattle.std.proofs.Common.{◌≡◌, ◌∷◌, ◌++◌, rules}
use Rattle.fixed_decimal.specs.PlainText.{MarksExponent}
use Rattle.fixed_decimal.proofs.CompactTextLemmas.{other_mark, no_compact_exponent}
use Rattle.fixed_decimal.proofs.compact.split_compact.Goals as goal

pub returns-then-mark-ne99-clause-none : goal.returns-then-mark-ne99-clause-none
returns-then-mark-ne99-clause-none c =
    let whole : c.args.text.now ≡ c.split_mark.result.0.now ++ (c.in-Some.mark.now ∷ c.in-Some.exponent.now) = search rules in
    let marks : MarksExponent c.in-Some.mark.now = search rules in
    other_mark c.args.text.now c.split_mark.result.0.now c.in-Some.exponent.now c.in-Some.mark.now whole c.split_mark.ensures.plain marks (search rules)

pub returns-then-not-is_compact_exponent-clause-none :
    goal.returns-then-not-is_compact_exponent-clause-none
returns-then-not-is_compact_exponent-clause-none c =
    let whole : c.args.text.now ≡ c.split_mark.result.0.now ++ (c.in-Some.mark.now ∷ c.in-Some.exponent.now) = search rules in
    let marks : MarksExponent c.in-Some.mark.now = search rules in
    no_compact_exponent c.args.text.now c.split_mark.result.0.now c.in-Some.exponent.now c.in-Some.mark.now whole c.split_mark.ensures.plain marks (search rules)
