use Rattle.std.proofs.Common.{arith, rules, ◌≡◌, ◌≢◌, ℤ, List, [], Ok, Some, None, ap, sym, ◌∙◌}
use Rattle.std.proofs.lemmas.List.{nil_from_length}
use Rattle.locale_numbers_formats.specs.declared.NumberOptions.{NumberOptions}
use Rattle.legumeyet_c.specs.HeldFormats.{Wording}
use Rattle.legumeyet_c.specs.Writing.{Asked, asked_for, asked_given}
use Rattle.legumeyet_c.proofs.AskedLemmas.{asked_by_own, asked_by_words}
use Rattle.legumeyet_c.proofs.asking.asked_in.Goals as goal

pub returns-then-is_empty : goal.returns-then-is_empty
returns-then-is_empty c =
    let none : c.args.words.now ≡ [] = nil_from_length c.args.words.now (grind (arith, c.if-is_empty.ensures)) in
    ap (λ (w : Wording). Ok (asked_for w c.options.result.now)) c.lent.ensures
    ∙ ap (λ (o : NumberOptions). Ok (asked_for c.args.held.now.wording o)) c.options.ensures
    ∙ asked_by_own c.args.held.now c.args.words.now none

pub returns-in-Some : goal.returns-in-Some
returns-in-Some c =
    let some : c.args.words.now ≢ [] = search rules in
    ap (λ (a : Asked). Ok a) c.asked_given.ensures
    ∙ ap (λ (w : Wording). Ok (asked_given w c.in-Some.options)) c.lent-in-Some.ensures
    ∙ asked_by_words c.args.held.now c.args.words.now (Some c.in-Some.options) some c.in-Some.ensures

pub returns-in-None : goal.returns-in-None
returns-in-None c =
    let some : c.args.words.now ≢ [] = search rules in
    asked_by_words c.args.held.now c.args.words.now None some c.in-None.ensures
