use Rattle.std.proofs.Common.{Ok, ap, sym, ◌∙◌}
use Rattle.std.proofs.lemmas.Result.{IfOk-weaker}
use Rattle.legumeyet_options.proofs.SayingLemmas.{form_said}
use Rattle.legumeyet_options.proofs.saying.say_form.Goals as goal

pub returns-in-Ok-clause-said : goal.returns-in-Ok-clause-said
returns-in-Ok-clause-said c =
    IfOk-weaker c.held.result _ _
    (λ sink held. form_said c.args.formatter.now c.args.form.now _ (λ beyond. let refused = c.in-Ok.ensures.range.1 beyond in cc) c.in-Ok.ensures.parts ∙ ap Ok (sym held))
    c.held.ensures.held
