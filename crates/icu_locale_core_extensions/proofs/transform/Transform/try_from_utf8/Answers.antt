use Rattle.std.proofs.Common.{◌≡◌, Err, ap}
use Rattle.icu_locale_core_grammar.specs.declared.error.ParseError.TheVariants.{Memory}
use Rattle.icu_locale_core_grammar.specs.Pieces.{pieces}
use Rattle.icu_locale_core_grammar.specs.Subtags.{is_transform}
use Rattle.icu_locale_core_grammar.proofs.BodyReaders.{transform_reader}
use Rattle.icu_locale_core_extensions.proofs.HeadedLemmas.{found_meant, refused_unmeant}
use Rattle.icu_locale_core_extensions.proofs.transform.Transform.try_from_utf8.Goals as goal

pub returns-in-Ok-clause-value : goal.returns-in-Ok-clause-value
returns-in-Ok-clause-value c = rw c.settled_language.ensures (found_meant transform_reader is_transform (pieces c.args.code_units.now) _ c.in-Ok.ensures.value)

pub returns-in-Err-clause-fault : goal.returns-in-Err-clause-fault
returns-in-Err-clause-fault c = refused_unmeant transform_reader is_transform (pieces c.args.code_units.now) _ c.in-Err.ensures.fault

pub returns-in-Err-clause-room : goal.returns-in-Err-clause-room
returns-in-Err-clause-room c = λ none memory.
    let fault : c.in-Err.fault ≡ Memory = cc in
    c.in-Err.ensures.room none (ap Err fault)
