use Rattle.std.proofs.Common.{None}
use Rattle.icu_decimal_lenient.specs.Folding.{folded_symbols}
use Rattle.icu_decimal_lenient.specs.LenientReading.{lenient_reading, trimmed_fold}
use Rattle.icu_dimension_lenient.proofs.AgreementSteps.{refused_after}
use Rattle.icu_dimension_words.specs.LenientWords.{folded_ways}
use Rattle.icu_dimension_words.proofs.typed.read_typed.Goals as goal

pub returns-in-Err-clause-reading : goal.returns-in-Err-clause-reading
returns-in-Err-clause-reading c =
    let one = lenient_reading c.args.kept.now c.args.text.now in
    let rest = folded_ways (folded_symbols c.args.kept.now) c.args.words.now (trimmed_fold c.args.kept.now c.args.text.now) in
    refused_after c.in-Err.error None one rest (c.in-Err.ensures.reading one rest c.read_without_native.ensures.reading)
