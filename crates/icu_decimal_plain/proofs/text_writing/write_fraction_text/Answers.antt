use Rattle.std.proofs.Common.{◌≡◌, ◌∙◌, ap, arith}
use Rattle.std.proofs.lemmas.Result.{on_ok_weaker}
use Rattle.writeable.specs.Taking.{begun_first, on_err}
use Rattle.icu_decimal_plain.specs.BorrowedTables.{borrowed_tables}
use Rattle.icu_decimal_plain.proofs.PlainTextLemmas.{text_some}
use Rattle.icu_decimal_plain.proofs.text_writing.write_fraction_text.Goals as goal

pub returns-in_err-write_str-clause-begun : goal.returns-in_err-write_str-clause-begun
returns-in_err-write_str-clause-begun g c =
    let t = borrowed_tables c.args.tables.now in
    let v = c.args.number.now in
    let written : c.decimal_separator.result.now ≡ t.symbols.strings.decimal_separator = c.decimal_separator.ensures ∙ ap (λ s. s.decimal_separator) c.deref.ensures in
    let length = c.fraction_len.ensures.value in
    let shown = c.if-fraction_len-eq0.false in
    let whole = text_some t v c.decimal_separator.result.now (omega (arith, length, shown)) written in
    on_err c.from_residual.result
    (rw whole (begun_first g.S.Sink.takes g.S.Sink.lacks_room g.met.S.Sink.lacks_more _ _ _ _ c.in_err-write_str.ensures.begun))

pub returns-clause-ok : goal.returns-clause-ok
returns-clause-ok g c =
    let t = borrowed_tables c.args.tables.now in
    let v = c.args.number.now in
    let written : c.decimal_separator.result.now ≡ t.symbols.strings.decimal_separator = c.decimal_separator.ensures ∙ ap (λ s. s.decimal_separator) c.deref.ensures in
    let length = c.fraction_len.ensures.value in
    let shown = c.if-fraction_len-eq0.false in
    let whole = text_some t v c.decimal_separator.result.now (omega (arith, length, shown)) written in
    rw whole
    (on_ok_weaker c.write_fraction_digits.result (λ taken. g.met.S.Sink.joins _ _ _ _ _ c.in_ok-write_str.ensures.ok c.in_ok-write_str.ensures.refused taken) c.write_fraction_digits.ensures.ok)

pub returns-clause-begun : goal.returns-clause-begun
returns-clause-begun g c =
    let t = borrowed_tables c.args.tables.now in
    let v = c.args.number.now in
    let written : c.decimal_separator.result.now ≡ t.symbols.strings.decimal_separator = c.decimal_separator.ensures ∙ ap (λ s. s.decimal_separator) c.deref.ensures in
    let length = c.fraction_len.ensures.value in
    let shown = c.if-fraction_len-eq0.false in
    let whole = text_some t v c.decimal_separator.result.now (omega (arith, length, shown)) written in
    rw whole (g.met.S.Sink.stops_in_second _ _ _ _ _ _ c.in_ok-write_str.ensures.ok c.in_ok-write_str.ensures.refused c.write_fraction_digits.ensures.begun)
