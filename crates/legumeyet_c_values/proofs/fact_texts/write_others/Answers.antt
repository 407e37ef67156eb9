use Rattle.std.proofs.Common.{rules, [], ◌∷◌, ◌++◌, List, ap, subst, ◌∙◌}
use Rattle.std.specs.Prelude.{flat_map}
use Rattle.icu_plurals.specs.Categories.{word}
use Rattle.icu_plurals.specs.declared.PluralCategory.{PluralCategory}
use Rattle.writeable.specs.AnnotatedText.{Event, bytes}
use Rattle.writeable.specs.Taking.{IsWriting, on_err}
use Rattle.writeable.proofs.AnnotatedTextLemmas.{no_bytes}
use Rattle.writeable.proofs.WritingLemmas.{writing_ends, writing_goes_on, writing_stops}
use Rattle.legumeyet_c_values.specs.Facts.{blank, spaced}
use Rattle.legumeyet_c_values.proofs.FactLemmas.{next_category}
use Rattle.legumeyet_c_values.proofs.fact_texts.write_others.Goals as goal

pub category-preserved : goal.category-preserved
category-preserved g c =
    let left = ap (λ (l : List PluralCategory). bytes (flat_map spaced l)) c.in-Some.ensures.steps ∙ next_category c.in-Some.category c.next.new.self in
    record {
      next = search rules;
      finite = search rules;
      writing = writing_goes_on g.S.Sink.takes g.S.Sink.refused g.met.S.Sink.joins _ _ _ _ (bytes (blank ∷ []) ++ bytes (word c.in-Some.category)) _
          (subst (λ (es : List Event). IsWriting g.S.Sink.takes g.S.Sink.refused c.args.sink.now (bytes (flat_map spaced c.args.categories)) c.category.sink es) left c.category.invariant.writing)
          c.in_ok-write_spaced.ensures.ok c.in_ok-write_spaced.ensures.refused;
    }

pub returns-in_err-write_spaced-clause-begun : goal.returns-in_err-write_spaced-clause-begun
returns-in_err-write_spaced-clause-begun g c =
    let left = ap (λ (l : List PluralCategory). bytes (flat_map spaced l)) c.in-Some.ensures.steps ∙ next_category c.in-Some.category c.next.new.self in
    on_err c.from_residual.result
    (writing_stops g.S.Sink.takes g.S.Sink.refused g.met.S.Sink.joins g.S.Sink.lacks_room g.met.S.Sink.lacks_more _ _ _ _ (bytes (blank ∷ []) ++ bytes (word c.in-Some.category)) _
    (subst (λ (es : List Event). IsWriting g.S.Sink.takes g.S.Sink.refused c.args.sink.now (bytes (flat_map spaced c.args.categories)) c.category.sink es) left c.category.invariant.writing)
    c.in_err-write_spaced.ensures.begun)

pub returns-clause-ok : goal.returns-clause-ok
returns-clause-ok g c =
    let left = ap (λ (l : List PluralCategory). bytes (flat_map spaced l)) c.in_default.ensures.steps.0 ∙ no_bytes in
    writing_ends g.S.Sink.takes g.S.Sink.refused _ _ _
    (subst (λ (es : List Event). IsWriting g.S.Sink.takes g.S.Sink.refused c.args.sink.now (bytes (flat_map spaced c.args.categories)) c.category.sink es) left c.category.invariant.writing)
