use Rattle.std.proofs.Common.{◌≡◌, ◌∙◌, Err, ap, sym, rules}
use Rattle.fixed_decimal_signed.specs.declared.ParseError.TheVariants.{Syntax, Memory}
use Rattle.fixed_decimal.specs.ScientificText.{SpellsScientific}
use Rattle.fixed_decimal.proofs.ScientificTextLemmas.{left_refused, right_refused, right_long}
use Rattle.fixed_decimal.proofs.scientific.ScientificDecimal.try_from_utf8.Goals as goal

pub returns-in-Err-clause-syntax : goal.returns-in-Err-clause-syntax
returns-in-Err-clause-syntax c = λ e.
    let spells : SpellsScientific c.args.code_units.now c.in-Some.left.now c.in-Some.right.now = search rules in
    let same : c.refused_by.result ≡ Syntax = cc in
    left_refused c.args.code_units.now c.in-Some.left.now c.in-Some.right.now c.in-Err.refused spells
    (λ f. c.in-Err.ensures.syntax (ap Err f)) (λ f. c.in-Err.ensures.limit (ap Err f)) (sym c.refused_by.ensures ∙ same)

pub returns-in-Err-try_from_utf8-clause-syntax :
    goal.returns-in-Err-try_from_utf8-clause-syntax
returns-in-Err-try_from_utf8-clause-syntax c = λ e.
    let spells : SpellsScientific c.args.code_units.now c.in-Some.left.now c.in-Some.right.now = search rules in
    let same : c.refused_by-in-Err-try_from_utf8.result ≡ Syntax = cc in
    right_refused c.args.code_units.now c.in-Some.left.now c.in-Some.right.now c.in-Err-try_from_utf8.refused spells
    (λ f. c.in-Err-try_from_utf8.ensures.syntax (ap Err f)) (λ f. c.in-Err-try_from_utf8.ensures.limit (ap Err f)) (sym c.refused_by-in-Err-try_from_utf8.ensures ∙ same)

pub returns-in-Err-try_from_utf8-clause-memory :
    goal.returns-in-Err-try_from_utf8-clause-memory
returns-in-Err-try_from_utf8-clause-memory c = λ e.
    let spells : SpellsScientific c.args.code_units.now c.in-Some.left.now c.in-Some.right.now = search rules in
    let same : c.refused_by-in-Err-try_from_utf8.result ≡ Memory = cc in
    right_long c.args.code_units.now c.in-Some.left.now c.in-Some.right.now c.in-Err-try_from_utf8.refused spells
    (λ f. c.in-Err-try_from_utf8.ensures.memory (ap Err f)) (sym c.refused_by-in-Err-try_from_utf8.ensures ∙ same)
