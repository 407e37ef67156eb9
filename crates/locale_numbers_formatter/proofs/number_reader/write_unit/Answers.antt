use Rattle.std.proofs.Common.{List, OnErr, OnOk, subst}
use Rattle.icu_decimal.specs.BorrowedTables.{borrowed_tables}
use Rattle.writeable.specs.AnnotatedText.{Event}
use Rattle.writeable.specs.Taking.{HasBegun}
use Rattle.locale_numbers_formatter.proofs.JoinedUnitLemmas.{number_viewed, pair_viewed}
use Rattle.locale_numbers_formatter.proofs.ReadBackLemmas.{joined_text_is}
use Rattle.locale_numbers_formatter.proofs.number_reader.write_unit.Goals as goal

pub returns-clause-ok : goal.returns-clause-ok
returns-clause-ok g c =
    subst (λ (es : List Event). OnOk c.write_between.result (g.S.Sink.takes c.args.sink.now es c.write_between.new.sink))
    (joined_text_is c.args.reader.now c.args.value.now (borrowed_tables c.args.decimals.now) _ _ c.requires.same
    (number_viewed _ _ (borrowed_tables c.args.decimals.now) c.value.view_is c.format_unsigned-number.ensures)
    (pair_viewed c.args.reader.now _ _ c.value.view_is c.affixes.ensures))
    c.write_between.ensures.ok

pub returns-clause-begun : goal.returns-clause-begun
returns-clause-begun g c =
    subst (λ (es : List Event). OnErr c.write_between.result (HasBegun g.S.Sink.takes g.S.Sink.lacks_room c.args.sink.now es c.write_between.new.sink))
    (joined_text_is c.args.reader.now c.args.value.now (borrowed_tables c.args.decimals.now) _ _ c.requires.same
    (number_viewed _ _ (borrowed_tables c.args.decimals.now) c.value.view_is c.format_unsigned-number.ensures)
    (pair_viewed c.args.reader.now _ _ c.value.view_is c.affixes.ensures))
    c.write_between.ensures.begun
