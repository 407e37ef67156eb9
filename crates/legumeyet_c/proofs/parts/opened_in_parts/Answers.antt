use Rattle.std.proofs.Common.{◌≡◌, Result, IfOk, IfErr, Ok, Err, ap, inl, subst, ◌∙◌}
use Rattle.legumeyet_c_values.specs.Numbers.{spelled}
use Rattle.legumeyet_c_values.specs.Parts.{held_text}
use Rattle.legumeyet_c_values.specs.declared.CallError.{CallError}
use Rattle.legumeyet_c.specs.Kinds.{format_in}
use Rattle.legumeyet_c.specs.Opened.{opened}
use Rattle.legumeyet_c.specs.Worded.{IsInPartsFault, IsTextInParts}
use Rattle.legumeyet_c.specs.Writing.{Asked, GivesNumber, IsNumberRefused, IsWritingFault, Writes, asked_for, asked_of}
use Rattle.legumeyet_c.proofs.AskedLemmas.{fails_given, gives_number, refuses_number, says_given}
use Rattle.legumeyet_c.proofs.parts.opened_in_parts.Goals as goal

pub returns-in-Ok-clause-value : goal.returns-in-Ok-clause-value
returns-in-Ok-clause-value c =
    let number = spelled c.args.number.now in
    let asked : Asked = asked_for c.asked-2.inside.lent c.asked-2.inside.options in
    let is : Ok asked ≡ asked_of (format_in (opened c.args.content)) c.args.words.now = ap (λ (a : Asked). Ok a) c.asked-2.view_is ∙ c.in_ok-asked.ensures in
    subst (λ (a : Result Asked CallError). IfOk c.text_in_parts.result (λ sink. Writes IsTextInParts (GivesNumber number) a (held_text sink))) is
    (says_given IsTextInParts (GivesNumber number) held_text asked c.assign_changed.new.number c.text_in_parts.result
    (gives_number number asked c.fractions-fractions.result c.assign_changed.new.number c.fractions-fractions.ensures c.in-Ok.ensures.value) c.text_in_parts.ensures.value)

pub returns-in-Ok-clause-fault : goal.returns-in-Ok-clause-fault
returns-in-Ok-clause-fault c =
    let number = spelled c.args.number.now in
    let asked : Asked = asked_for c.asked-2.inside.lent c.asked-2.inside.options in
    let is : Ok asked ≡ asked_of (format_in (opened c.args.content)) c.args.words.now = ap (λ (a : Asked). Ok a) c.asked-2.view_is ∙ c.in_ok-asked.ensures in
    subst (λ (a : Result Asked CallError). IfErr c.text_in_parts.result (λ error. IsWritingFault IsInPartsFault (GivesNumber number) (IsNumberRefused number) a error)) is
    (fails_given IsInPartsFault (GivesNumber number) (IsNumberRefused number) asked c.assign_changed.new.number c.text_in_parts.result
    (gives_number number asked c.fractions-fractions.result c.assign_changed.new.number c.fractions-fractions.ensures c.in-Ok.ensures.value) c.text_in_parts.ensures.fault)

pub returns-clause-fault : goal.returns-clause-fault
returns-clause-fault c =
    let number = spelled c.args.number.now in
    let asked : Asked = asked_for c.asked-2.inside.lent c.asked-2.inside.options in
    let is : Ok asked ≡ asked_of (format_in (opened c.args.content)) c.args.words.now = ap (λ (a : Asked). Ok a) c.asked-2.view_is ∙ c.in_ok-asked.ensures in
    subst (λ (a : Result Asked CallError). IsWritingFault IsInPartsFault (GivesNumber number) (IsNumberRefused number) a c.in-Err.error) is
    (inl (refuses_number number asked c.fractions-fractions.result c.in-Err.error c.fractions-fractions.ensures c.in-Err.ensures.fault))
