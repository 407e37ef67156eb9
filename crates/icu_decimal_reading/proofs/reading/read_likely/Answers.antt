use Rattle.std.proofs.Common.{◌≡◌, rules, subst}
use Rattle.fixed_decimal.specs.Number.{IsNumber}
use Rattle.icu_decimal_plain.specs.BorrowedTables.{borrowed_tables}
use Rattle.icu_decimal_reading.proofs.LawLemmas.{likely_reading}
use Rattle.icu_decimal_reading.proofs.reading.read_likely.Goals as goal

pub returns-then-is_written_so : goal.returns-then-is_written_so
returns-then-is_written_so c =
    let same : c.deref.result.now ≡ c.assign_likely.new.number.absolute = search rules in
    likely_reading (borrowed_tables c.args.tables.now) c.args.text.now c.assign_likely.new.number c.requires.tables c.requires.readable c.utf8.text
    (subst IsNumber same c.magnitude_range-range.ensures.number) (search rules)
