use Rattle.std.proofs.Common.{sym}
use Rattle.icu_locale_core_langid.proofs.OneVariantSteps.{one_script, one_region, one_new_variant, one_refused}
use Rattle.icu_locale_core_langid.proofs.one_variant.parts_after.Goals as goal

pub returns-in-Some : goal.returns-in-Some
returns-in-Some c =
    let parts = c.args.parts.now in
    sym (one_script parts.0 parts.1 parts.2 parts.3 c.args.piece.now c.in-Some.script c.in-Some.ensures)

pub returns-in-Some-next_region : goal.returns-in-Some-next_region
returns-in-Some-next_region c =
    let parts = c.args.parts.now in
    sym (one_region parts.0 parts.1 parts.2 parts.3 c.args.piece.now c.in-Some-next_region.region c.in-None.ensures c.in-Some-next_region.ensures)

pub returns-in-Some-next_variant : goal.returns-in-Some-next_variant
returns-in-Some-next_variant c =
    let parts = c.args.parts.now in
    sym (one_new_variant parts.0 parts.1 parts.2 parts.3 c.args.piece.now c.in-Some-next_variant.variant c.in-None.ensures c.in-None-next_region.ensures c.in-Some-next_variant.ensures)

pub returns-in-None-next_variant : goal.returns-in-None-next_variant
returns-in-None-next_variant c =
    let parts = c.args.parts.now in
    sym (one_refused parts.0 parts.1 parts.2 parts.3 c.args.piece.now c.in-None.ensures c.in-None-next_region.ensures c.in-None-next_variant.ensures)
