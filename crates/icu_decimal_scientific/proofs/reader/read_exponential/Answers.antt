use Rattle.std.proofs.Common.{◌≡◌, Err, ap, rules}
use Rattle.icu_decimal_reading.specs.declared.error.ReadError.TheVariants.{Memory, NotWritten}
use Rattle.icu_decimal_scientific.specs.HeldTables.{settings_of}
use Rattle.icu_decimal_scientific.specs.ReadingSteps.{IsOnlySplit}
use Rattle.icu_decimal_scientific.proofs.ReaderLemmas.{back_many, back_missing, front_many, front_missing, split_missing}
use Rattle.icu_decimal_scientific.proofs.ScientificReadingLemmas.{tests_of}
use Rattle.icu_decimal_scientific.proofs.reader.read_exponential.Goals as goal

pub returns-in_default-clause-not_written : goal.returns-in_default-clause-not_written
returns-in_default-clause-not_written c =
    λ refused. split_missing (settings_of c.args.tables.now) c.args.text.now c.are_texts.ensures c.requires c.in_default.ensures.none

pub read_unsigned-requires : goal.read_unsigned-requires
read_unsigned-requires c = let tests = tests_of (settings_of c.args.tables.now) c.requires in tests.tables

pub read_whole-requires : goal.read_whole-requires
read_whole-requires c = let tests = tests_of (settings_of c.args.tables.now) c.requires in tests.exponents

pub returns-in-Err-clause-not_written : goal.returns-in-Err-clause-not_written
returns-in-Err-clause-not_written c = λ refused.
    let split : IsOnlySplit (settings_of c.args.tables.now).separator c.args.text.now c.in-Some.front.now c.in-Some.back.now = search rules in
    let same : c.in-Err.error ≡ NotWritten = cc in
    front_missing (settings_of c.args.tables.now) c.args.text.now c.in-Some.front.now c.in-Some.back.now c.are_texts.ensures c.requires split (c.in-Err.ensures.not_written (ap Err same))

pub returns-in-Err-clause-memory : goal.returns-in-Err-clause-memory
returns-in-Err-clause-memory c = λ refused.
    let split : IsOnlySplit (settings_of c.args.tables.now).separator c.args.text.now c.in-Some.front.now c.in-Some.back.now = search rules in
    let same : c.in-Err.error ≡ Memory = cc in
    front_many (settings_of c.args.tables.now) c.args.text.now c.in-Some.front.now c.in-Some.back.now split (c.in-Err.ensures.memory (ap Err same))

pub returns-in-Err-read_whole-clause-not_written : goal.returns-in-Err-read_whole-clause-not_written
returns-in-Err-read_whole-clause-not_written c = λ refused.
    let split : IsOnlySplit (settings_of c.args.tables.now).separator c.args.text.now c.in-Some.front.now c.in-Some.back.now = search rules in
    let same : c.in-Err-read_whole.error ≡ NotWritten = cc in
    back_missing (settings_of c.args.tables.now) c.args.text.now c.in-Some.front.now c.in-Some.back.now c.are_texts.ensures c.requires split (c.in-Err-read_whole.ensures.not_written (ap Err same))

pub returns-in-Err-read_whole-clause-memory : goal.returns-in-Err-read_whole-clause-memory
returns-in-Err-read_whole-clause-memory c = λ refused.
    let split : IsOnlySplit (settings_of c.args.tables.now).separator c.args.text.now c.in-Some.front.now c.in-Some.back.now = search rules in
    let same : c.in-Err-read_whole.error ≡ Memory = cc in
    back_many (settings_of c.args.tables.now) c.args.text.now c.in-Some.front.now c.in-Some.back.now split (c.in-Err-read_whole.ensures.memory (ap Err same))
