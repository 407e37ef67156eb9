use Rattle.std.proofs.Common.{None, Some}
use Rattle.locale_numbers.specs.FoundRules.{rules_held}
use Rattle.legumeyet_c.specs.Formatted.{IsExactFault}
use Rattle.legumeyet_c.specs.Worded.{IsFormBy}
use Rattle.legumeyet_c.proofs.WordedLemmas.{put_wording}
use Rattle.legumeyet_c.proofs.formatting.put_form.Goals as goal

pub returns-in-Some : goal.returns-in-Some
returns-in-Some c =
    let form = c.args.form.now in
    put_wording (λ p f text. IsFormBy p f form text) (λ p f error. IsExactFault f form error) c.args.lent.now c.get.result.now (Some (rules_held c.in-Some.plurals)) _ _ _ _ _
    c.get.ensures c.in-Some.ensures c.put_form_category.ensures

pub returns-in-None : goal.returns-in-None
returns-in-None c =
    let form = c.args.form.now in
    put_wording (λ p f text. IsFormBy p f form text) (λ p f error. IsExactFault f form error) c.args.lent.now c.get-in-None.result.now None _ _ _ _ _
    c.get-in-None.ensures c.in-None.ensures c.put_form_text.ensures
