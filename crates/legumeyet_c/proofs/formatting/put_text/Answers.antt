use Rattle.std.proofs.Common.{None, Some}
use Rattle.locale_numbers.specs.FoundRules.{rules_held}
use Rattle.legumeyet_c.specs.Worded.{IsTextBy, IsTextFaultBy}
use Rattle.legumeyet_c.proofs.WordedLemmas.{put_wording}
use Rattle.legumeyet_c.proofs.formatting.put_text.Goals as goal

pub returns-in-Some : goal.returns-in-Some
returns-in-Some c =
    let value = c.args.value.now in
    put_wording (λ p f text. IsTextBy p f value text) (λ p f error. IsTextFaultBy p f value error) c.args.lent.now c.get.result.now (Some (rules_held c.in-Some.plurals)) _ _ _ _ _
    c.get.ensures c.in-Some.ensures c.put_category.ensures

pub returns-in-None : goal.returns-in-None
returns-in-None c =
    let value = c.args.value.now in
    put_wording (λ p f text. IsTextBy p f value text) (λ p f error. IsTextFaultBy p f value error) c.args.lent.now c.get-in-None.result.now None _ _ _ _ _
    c.get-in-None.ensures c.in-None.ensures c.put_number.ensures
