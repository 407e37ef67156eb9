use Rattle.std.proofs.Common.{◌≡◌, Err, ap}
use Rattle.icu_decimal_reading.specs.declared.error.ReadError.TheVariants.{NotWritten}
use Rattle.icu_dimension_words.specs.HeldWords.{settings_of}
use Rattle.icu_dimension_words.proofs.AgreementLemmas.{readable_tables}
use Rattle.icu_dimension_words.proofs.ReaderLemmas.{none_of_all}
use Rattle.icu_dimension_words.proofs.tables.WordTables.read_readable.Goals as goal

pub read_of-requires : goal.read_of-requires
read_of-requires c = readable_tables (settings_of c.args.self.now) c.requires

pub read_of-requires-2 : goal.read_of-requires-2
read_of-requires-2 c = readable_tables (settings_of c.args.self.now) c.requires

pub read_of-requires-3 : goal.read_of-requires-3
read_of-requires-3 c = readable_tables (settings_of c.args.self.now) c.requires

pub read_of-requires-4 : goal.read_of-requires-4
read_of-requires-4 c = readable_tables (settings_of c.args.self.now) c.requires

pub read_of-requires-5 : goal.read_of-requires-5
read_of-requires-5 c = readable_tables (settings_of c.args.self.now) c.requires

pub read_of-requires-6 : goal.read_of-requires-6
read_of-requires-6 c = readable_tables (settings_of c.args.self.now) c.requires

pub returns-clause-not_written : goal.returns-clause-not_written
returns-clause-not_written c =
    let zero : c.in-Err-NotWritten.field-0 ≡ NotWritten = cc in
    let one : c.in-Err-NotWritten-read_of.field-0 ≡ NotWritten = cc in
    let two : c.in-Err-NotWritten-read_of-2.field-0 ≡ NotWritten = cc in
    let few : c.in-Err-NotWritten-read_of-3.field-0 ≡ NotWritten = cc in
    let many : c.in-Err-NotWritten-read_of-4.field-0 ≡ NotWritten = cc in
    λ refused. none_of_all (settings_of c.args.self.now) c.args.text.now
    (c.in-Err-NotWritten.ensures.not_written (ap Err zero))
    (c.in-Err-NotWritten-read_of.ensures.not_written (ap Err one))
    (c.in-Err-NotWritten-read_of-2.ensures.not_written (ap Err two))
    (c.in-Err-NotWritten-read_of-3.ensures.not_written (ap Err few))
    (c.in-Err-NotWritten-read_of-4.ensures.not_written (ap Err many))
    (c.read_of-6.ensures.not_written refused)
