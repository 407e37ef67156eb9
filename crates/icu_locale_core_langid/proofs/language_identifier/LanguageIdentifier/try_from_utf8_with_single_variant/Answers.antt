use Rattle.std.proofs.Common.{Some, option_map, sym, ap}
use Rattle.icu_locale_core_grammar.specs.Pieces.{pieces}
use Rattle.icu_locale_core_langid.specs.OneVariant.{parts_id, one_variant_after}
use Rattle.icu_locale_core_langid.proofs.SteppingLemmas.{one_more_taken}
use Rattle.icu_locale_core_langid.proofs.OneVariantReader.{loop_refused, loop_read, loop_cut}
use Rattle.icu_locale_core_langid.proofs.language_identifier.LanguageIdentifier.try_from_utf8_with_single_variant.Goals as goal

pub loop-piece-preserved : goal.loop-piece-preserved
loop-piece-preserved c =
    one_more_taken one_variant_after (pieces c.args.code_units.now) c.loop-piece.piece-iterator c.next.new.self (option_map parts_id c.loop-piece.parts) (Some (parts_id c.in-Some-one_variant_step.next)) c.in-Some.piece.now
    c.loop-piece.invariant c.in-Some.ensures.steps c.in-Some-one_variant_step.ensures

pub returns-in-None-one_variant_step : goal.returns-in-None-one_variant_step
returns-in-None-one_variant_step c =
    loop_refused (pieces c.args.code_units.now) c.loop-piece.piece-iterator c.next.new.self (option_map parts_id c.loop-piece.parts) c.in-Some.piece.now c.fault_of.result
    c.loop-piece.invariant c.in-Some.ensures.steps (sym c.in-None-one_variant_step.ensures) c.fault_of.ensures

pub returns-in-Some-parts : goal.returns-in-Some-parts
returns-in-Some-parts c =
    loop_read (pieces c.args.code_units.now) c.loop-piece.piece-iterator (option_map parts_id c.loop-piece.parts) (parts_id c.in-Some-parts.parts)
    c.loop-piece.invariant c.in-None.ensures.steps.0 (ap (option_map parts_id) c.in-Some-parts.is)

pub returns-in-None-parts : goal.returns-in-None-parts
returns-in-None-parts c =
    loop_cut (pieces c.args.code_units.now) c.loop-piece.piece-iterator (option_map parts_id c.loop-piece.parts)
    c.loop-piece.invariant c.in-None.ensures.steps.0 (ap (option_map parts_id) c.in-None-parts.is)
