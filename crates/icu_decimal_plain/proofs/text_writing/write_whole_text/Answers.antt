use Rattle.std.proofs.Common.{◌≡◌, ◌+◌, ◌-◌, ◌∙◌, ap, arith, drop, refl, subst, sym}
use Rattle.std.specs.Int.Digits.{AllBelowBase}
use Rattle.std.proofs.lemmas.Result.{on_ok_weaker}
use Rattle.writeable.specs.Taking.{begun_first, on_err}
use Rattle.fixed_decimal.proofs.DigitsLemmas.{below_drop}
use Rattle.icu_decimal_grouping.specs.Grouper.{group_sizes}
use Rattle.icu_decimal_plain.specs.BorrowedTables.{borrowed_tables}
use Rattle.icu_decimal_plain.proofs.PlainTextLemmas.{tens_down, text_groups}
use Rattle.icu_decimal_plain.proofs.text_writing.write_whole_text.Goals as goal

pub returns-in_err-write_run-clause-begun : goal.returns-in_err-write_run-clause-begun
returns-in_err-write_run-clause-begun g c =
    let t = borrowed_tables c.args.tables.now in
    let v = c.args.number.now in
    let digits = c.highest.result + 1 in
    let ds = c.whole_digits-digits.result in
    let size = c.unwrap_or-first.result in
    let cut : c.of-sizes.result ≡ group_sizes t.strategy t.symbols.grouping_sizes digits = rw (← c.symbols.view_is) c.of-sizes.ensures in
    let whole = text_groups t v digits size c.of-sizes.result c.next.new.self ds (drop size ds) t.symbols.strings.grouping_separator c.next.result (omega (arith, c.highest.ensures.value)) cut c.next.ensures.steps c.unwrap_or-first.ensures c.whole_digits-digits.ensures refl refl in
    on_err c.from_residual.result
    (rw whole (begun_first g.S.Sink.takes g.S.Sink.lacks_room g.met.S.Sink.lacks_more _ _ _ _ c.in_err-write_run.ensures.begun))

pub write_run-requires-clause-tens : goal.write_run-requires-clause-tens
write_run-requires-clause-tens g c =
    let v = c.args.number.now in
    subst (AllBelowBase 10) (sym c.whole_digits-digits.ensures) (tens_down v.count 32768 (v.high - 32767))

pub write_groups-requires-clause-tens : goal.write_groups-requires-clause-tens
write_groups-requires-clause-tens g c =
    let v = c.args.number.now in
    let shown = tens_down v.count 32768 (v.high - 32767) in
    subst (AllBelowBase 10) (sym c.in_ok-write_run.ensures.digits)
    (below_drop c.unwrap_or-first.result c.whole_digits-digits.result (subst (AllBelowBase 10) (sym c.whole_digits-digits.ensures) shown))

pub returns-clause-ok : goal.returns-clause-ok
returns-clause-ok g c =
    let t = borrowed_tables c.args.tables.now in
    let v = c.args.number.now in
    let digits = c.highest.result + 1 in
    let ds = c.whole_digits-digits.result in
    let size = c.unwrap_or-first.result in
    let cut : c.of-sizes.result ≡ group_sizes t.strategy t.symbols.grouping_sizes digits = rw (← c.symbols.view_is) c.of-sizes.ensures in
    let written : c.grouping_separator.result.now ≡ t.symbols.strings.grouping_separator = c.grouping_separator.ensures ∙ ap (λ s. s.grouping_separator) c.deref.ensures in
    let whole = text_groups t v digits size c.of-sizes.result c.next.new.self ds c.write_run.new.digits c.grouping_separator.result.now c.next.result (omega (arith, c.highest.ensures.value)) cut c.next.ensures.steps c.unwrap_or-first.ensures c.whole_digits-digits.ensures c.in_ok-write_run.ensures.digits written in
    rw whole
    (on_ok_weaker c.write_groups.result (λ taken. g.met.S.Sink.joins _ _ _ _ _ c.in_ok-write_run.ensures.ok c.in_ok-write_run.ensures.refused taken) c.write_groups.ensures.ok)

pub returns-clause-begun : goal.returns-clause-begun
returns-clause-begun g c =
    let t = borrowed_tables c.args.tables.now in
    let v = c.args.number.now in
    let digits = c.highest.result + 1 in
    let ds = c.whole_digits-digits.result in
    let size = c.unwrap_or-first.result in
    let cut : c.of-sizes.result ≡ group_sizes t.strategy t.symbols.grouping_sizes digits = rw (← c.symbols.view_is) c.of-sizes.ensures in
    let written : c.grouping_separator.result.now ≡ t.symbols.strings.grouping_separator = c.grouping_separator.ensures ∙ ap (λ s. s.grouping_separator) c.deref.ensures in
    let whole = text_groups t v digits size c.of-sizes.result c.next.new.self ds c.write_run.new.digits c.grouping_separator.result.now c.next.result (omega (arith, c.highest.ensures.value)) cut c.next.ensures.steps c.unwrap_or-first.ensures c.whole_digits-digits.ensures c.in_ok-write_run.ensures.digits written in
    rw whole (g.met.S.Sink.stops_in_second _ _ _ _ _ _ c.in_ok-write_run.ensures.ok c.in_ok-write_run.ensures.refused c.write_groups.ensures.begun)
