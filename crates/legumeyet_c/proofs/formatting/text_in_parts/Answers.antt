use Rattle.std.proofs.Common.{None, Some}
use Rattle.locale_numbers.specs.FoundRules.{rules_held}
use Rattle.legumeyet_c_values.specs.Parts.{held_text}
use Rattle.legumeyet_c.specs.Worded.{IsInPartsBy, IsInPartsFaultBy}
use Rattle.legumeyet_c.proofs.WordedLemmas.{err_wording, ok_wording}
use Rattle.legumeyet_c.proofs.formatting.text_in_parts.Goals as goal

pub returns-in-Some-clause-value : goal.returns-in-Some-clause-value
returns-in-Some-clause-value c =
    ok_wording (λ p f sink. IsInPartsBy p f c.args.value.now (held_text sink)) c.args.lent.now c.get.result.now (Some (rules_held c.in-Some.plurals)) c.category_in_parts.result
    c.get.ensures c.in-Some.ensures c.category_in_parts.ensures.value

pub returns-in-Some-clause-fault : goal.returns-in-Some-clause-fault
returns-in-Some-clause-fault c =
    err_wording (λ p f error. IsInPartsFaultBy p f c.args.value.now error) c.args.lent.now c.get.result.now (Some (rules_held c.in-Some.plurals)) c.category_in_parts.result
    c.get.ensures c.in-Some.ensures c.category_in_parts.ensures.fault

pub returns-in-None-clause-value : goal.returns-in-None-clause-value
returns-in-None-clause-value c =
    ok_wording (λ p f sink. IsInPartsBy p f c.args.value.now (held_text sink)) c.args.lent.now c.get-in-None.result.now None c.number_in_parts.result
    c.get-in-None.ensures c.in-None.ensures c.number_in_parts.ensures.value

pub returns-in-None-clause-fault : goal.returns-in-None-clause-fault
returns-in-None-clause-fault c =
    err_wording (λ p f error. IsInPartsFaultBy p f c.args.value.now error) c.args.lent.now c.get-in-None.result.now None c.number_in_parts.result
    c.get-in-None.ensures c.in-None.ensures c.number_in_parts.ensures.fault
