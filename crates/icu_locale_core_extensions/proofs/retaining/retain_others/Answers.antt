use Rattle.std.proofs.Common.{of_calls, arith, Bool, true, false, subst}
use Rattle.icu_locale_core_keywords_fields.proofs.RetainLemmas.{retaining_begins, retaining_keeps, retaining_drops}
use Rattle.icu_locale_core_extensions.specs.declared.extension_type.ExtensionType.{ExtensionType}
use Rattle.icu_locale_core_extensions.proofs.retaining.retain_others.Goals as goal

pub loop-place-init : goal.loop-place-init
loop-place-init g c = record { callable = c.requires; retaining = retaining_begins _ _ _ }

pub loop-place-preserved-then-keep : goal.loop-place-preserved-then-keep
loop-place-preserved-then-keep g c =
    let answered = subst (λ (b : Bool). goal.F-step g c.loop-place.keep c.get_ext.result b c.keep.new.self) c.if-keep.true c.keep.ensures in
    let asked = subst (λ (t : ExtensionType). goal.F-step g c.loop-place.keep t true c.keep.new.self) c.get_ext.ensures answered in
    record { callable = search of_calls; retaining = retaining_keeps _ _ _ _ _ _ _ c.index.result.now c.loop-place.invariant.retaining (omega arith) c.index.ensures asked }

pub loop-place-preserved : goal.loop-place-preserved
loop-place-preserved g c =
    let answered = subst (λ (b : Bool). goal.F-step g c.loop-place.keep c.get_ext.result b c.keep.new.self) c.if-keep.false c.keep.ensures in
    let asked = subst (λ (t : ExtensionType). goal.F-step g c.loop-place.keep t false c.keep.new.self) c.get_ext.ensures answered in
    record { callable = search of_calls; retaining = retaining_drops _ _ _ _ _ _ _ c.index.result.now c.loop-place.invariant.retaining (omega arith) c.index.ensures _ c.remove.ensures.items asked }
