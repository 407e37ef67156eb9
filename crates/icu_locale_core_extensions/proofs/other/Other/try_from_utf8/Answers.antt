use Rattle.std.proofs.Common.{refl, inr}
use Rattle.std.proofs.lemmas.Result.{IfErr-weaker, IfOk-weaker}
use Rattle.icu_locale_core_grammar.specs.Subtags.{is_other, is_other_piece}
use Rattle.icu_locale_core_grammar.specs.Pieces.{pieces}
use Rattle.icu_locale_core_extensions.proofs.AllocationLemmas.{begins_body}
use Rattle.icu_locale_core_extensions.proofs.OpeningLemmas.{read_other, opened_other, refused_other}
use Rattle.icu_locale_core_extensions.proofs.other.Other.try_from_utf8.Goals as goal

pub returns-in-Some-clause-value : goal.returns-in-Some-clause-value
returns-in-Some-clause-value c = IfOk-weaker c.read_body.result _ _ (λ o a. read_other c.args.code_units.now c.in-Some.opened.0 c.in-Some.opened.1 o c.in-Some.ensures a) c.read_body.ensures.value

pub returns-in-Some-clause-fault : goal.returns-in-Some-clause-fault
returns-in-Some-clause-fault c = IfErr-weaker c.read_body.result _ _ (λ e f. refused_other c.args.code_units.now c.in-Some.opened.0 c.in-Some.opened.1 e c.in-Some.ensures f) c.read_body.ensures.fault

pub returns-in-None-clause-fault : goal.returns-in-None-clause-fault
returns-in-None-clause-fault c = inr (refl, λ o r. let opening = opened_other c.args.code_units.now o r in c.in-None.ensures o.0 opening.0 opening.1)

pub returns-in-Some-clause-room : goal.returns-in-Some-clause-room
returns-in-Some-clause-room c = λ none.
    let opens = c.in-Some.ensures in
    c.read_body.ensures.room (begins_body is_other is_other_piece (pieces c.args.code_units.now) c.in-Some.opened.1 opens.first opens.parts opens.is none)
