use Rattle.std.proofs.Common.{subst}
use Rattle.icu_dimension_words.specs.WordsReading.{AreWordTexts}
use Rattle.icu_dimension_words.specs.LenientWords.{LenientWords}
use Rattle.icu_dimension_words.proofs.NativeWordLemmas.{answered_typed, native_allocates}
use Rattle.icu_dimension_words.proofs.lenient_reader.LenientWordReader.read.Goals as goal

pub returns-clause-memory : goal.returns-clause-memory
returns-clause-memory c = λ refused.
    native_allocates c.args.self.now c.args.text.now (subst (λ (a : LenientWords). AreWordTexts a.settings) c.self.view_is c.self.invariant.texts) (c.read_in_native.ensures.memory refused)

pub returns-clause-value : goal.returns-clause-value
returns-clause-value c =
    answered_typed c.args.self.now c.args.text.now c.read_in_native.result (subst (λ (a : LenientWords). AreWordTexts a.settings) c.self.view_is c.self.invariant.texts) c.read_in_native.ensures.reading
