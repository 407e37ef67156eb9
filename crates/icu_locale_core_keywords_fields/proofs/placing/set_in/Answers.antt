use Rattle.std.proofs.Common.{sym, refl, ap, ◌∙◌, subst}
use Rattle.std.proofs.Math.ListN.{set}
use Rattle.std.specs.Prelude.{Some, is_some}
use Rattle.icu_locale_core_keywords_fields.specs.Places.{IsFoundAt, IsMissingAt}
use Rattle.icu_locale_core_keywords_fields.proofs.PlaceLemmas.{value_taken, set_replaced, value_missing, set_inserted}
use Rattle.icu_locale_core_keywords_fields.proofs.placing.set_in.Goals as goal

pub returns-in-Ok-clause-ok : goal.returns-in-Ok-clause-ok
returns-in-Ok-clause-ok g c =
    let found = subst (λ l. IsFoundAt c.args.key l c.in-Ok.place) c.as_slice.ensures.value c.in-Ok.ensures in
    set_replaced _ _ _ _ _ refl found c.index_mut.result.now c.index_mut.ensures.value c.args.value
    (ap (λ w. set c.args.entries.now.items c.in-Ok.place (c.index_mut.result.now.0, w)) c.replace.ensures.after)

pub returns-in-Ok-clause-old : goal.returns-in-Ok-clause-old
returns-in-Ok-clause-old g c =
    let found = subst (λ l. IsFoundAt c.args.key l c.in-Ok.place) c.as_slice.ensures.value c.in-Ok.ensures in
    ap (λ w. Some w) c.replace.ensures.value ∙ value_taken _ _ _ _ refl found c.index_mut.result.now c.index_mut.ensures.value

pub returns-in_default-clause-there : goal.returns-in_default-clause-there
returns-in_default-clause-there g c =
    let missing = subst (λ l. IsMissingAt c.args.key l c.in-Err.place) c.as_slice.ensures.value c.in-Err.ensures in
    λ there. let none = ap is_some (value_missing _ _ _ missing) in cc

pub returns-in-Ok-insert-clause-ok : goal.returns-in-Ok-insert-clause-ok
returns-in-Ok-insert-clause-ok g c =
    let missing = subst (λ l. IsMissingAt c.args.key l c.in-Err.place) c.as_slice.ensures.value c.in-Err.ensures in
    set_inserted _ _ _ _ _ refl missing _ c.in-Ok-insert.ensures.items

pub returns-in-Ok-insert-clause-old : goal.returns-in-Ok-insert-clause-old
returns-in-Ok-insert-clause-old g c =
    let missing = subst (λ l. IsMissingAt c.args.key l c.in-Err.place) c.as_slice.ensures.value c.in-Err.ensures in sym (value_missing _ _ _ missing)
