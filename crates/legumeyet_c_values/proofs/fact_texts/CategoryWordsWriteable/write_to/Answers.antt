use Rattle.std.proofs.Common.{List, OnErr, OnOk, subst, sym, ◌∙◌}
use Rattle.icu_plurals.specs.ListedRules.{categories_of}
use Rattle.writeable.specs.AnnotatedText.{Event}
use Rattle.writeable.specs.Taking.{HasBegun}
use Rattle.legumeyet_c_values.proofs.FactLemmas.{all_categories}
use Rattle.legumeyet_c_values.proofs.fact_texts.CategoryWordsWriteable.write_to.Goals as goal

pub returns-in-Some-clause-ok : goal.returns-in-Some-clause-ok
returns-in-Some-clause-ok g c =
    let all = all_categories (categories_of c.args.self.now.rules.now) c.in-Some.first c.next.new.self (sym c.categories-categories.ensures ∙ c.in-Some.ensures.steps) in
    subst (λ (es : List Event). OnOk c.write_first.result (g.S.Sink.takes c.args.sink.now es c.write_first.new.sink)) all c.write_first.ensures.ok

pub returns-in-Some-clause-begun : goal.returns-in-Some-clause-begun
returns-in-Some-clause-begun g c =
    let all = all_categories (categories_of c.args.self.now.rules.now) c.in-Some.first c.next.new.self (sym c.categories-categories.ensures ∙ c.in-Some.ensures.steps) in
    subst (λ (es : List Event). OnErr c.write_first.result (HasBegun g.S.Sink.takes g.S.Sink.lacks_room c.args.sink.now es c.write_first.new.sink)) all c.write_first.ensures.begun
