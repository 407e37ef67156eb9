use Rattle.std.proofs.Common.{List, subst}
use Rattle.writeable.specs.AnnotatedText.{Event}
use Rattle.writeable.specs.Taking.{HasBegun, on_err}
use Rattle.icu_decimal_compact_value.specs.Entries.{Rises}
use Rattle.icu_decimal_compact_value.specs.Significand.{Shows}
use Rattle.icu_decimal.specs.HeldCompact.{compact_tables_of}
use Rattle.icu_decimal.proofs.WritingLemmas.{shown_events, shown_value_is}
use Rattle.icu_decimal.proofs.compact_formatter.CompactDecimalFormatter.write_shown.Goals as goal

pub returns-in_err-write_to-clause-significand : goal.returns-in_err-write_to-clause-significand
returns-in_err-write_to-clause-significand g c =
    let under = c.show_absolute-under.result in
    shown_value_is (compact_tables_of c.args.self.now) c.args.value.now c.show_absolute-under.new.value under.exponent under.entry c.show_absolute-under.ensures.sign
    (subst (λ xs. Shows xs c.args.value.now.absolute (record { significand = c.show_absolute-under.new.value.absolute; exponent = under.exponent; entry = under.entry })) c.entries.ensures.value c.show_absolute-under.ensures.value)

pub returns-in_err-write_to-clause-begun : goal.returns-in_err-write_to-clause-begun
returns-in_err-write_to-clause-begun g c =
    let t = compact_tables_of c.args.self.now in
    let under = c.show_absolute-under.result in
    on_err c.from_residual.result
    (subst (λ (es : List Event). HasBegun g.S.Sink.takes g.S.Sink.lacks_room c.args.sink.now es c.write_to.new.sink)
    (shown_events t c.args.value.now c.show_absolute-under.new.value under.exponent under.entry c.show_absolute-under.ensures.sign
    (subst (λ xs. Shows xs c.args.value.now.absolute (record { significand = c.show_absolute-under.new.value.absolute; exponent = under.exponent; entry = under.entry })) c.entries.ensures.value c.show_absolute-under.ensures.value)
    (subst (λ xs. Rises 0 xs) c.entries.ensures.value c.entries.ensures.rising) _ _ _ _ _ _ c.value.view_is c.symbols.ensures c.format_unsigned-number.ensures c.pattern_at-pattern.ensures c.in_pattern-shown.ensures c.new.ensures)
    c.in_err-write_to.ensures.begun)

pub returns-clause-significand : goal.returns-clause-significand
returns-clause-significand g c =
    let under = c.show_absolute-under.result in
    shown_value_is (compact_tables_of c.args.self.now) c.args.value.now c.show_absolute-under.new.value under.exponent under.entry c.show_absolute-under.ensures.sign
    (subst (λ xs. Shows xs c.args.value.now.absolute (record { significand = c.show_absolute-under.new.value.absolute; exponent = under.exponent; entry = under.entry })) c.entries.ensures.value c.show_absolute-under.ensures.value)

pub returns-clause-ok : goal.returns-clause-ok
returns-clause-ok g c =
    let t = compact_tables_of c.args.self.now in
    let under = c.show_absolute-under.result in
    subst (λ (es : List Event). g.S.Sink.takes c.args.sink.now es c.write_to.new.sink)
    (shown_events t c.args.value.now c.show_absolute-under.new.value under.exponent under.entry c.show_absolute-under.ensures.sign
    (subst (λ xs. Shows xs c.args.value.now.absolute (record { significand = c.show_absolute-under.new.value.absolute; exponent = under.exponent; entry = under.entry })) c.entries.ensures.value c.show_absolute-under.ensures.value)
    (subst (λ xs. Rises 0 xs) c.entries.ensures.value c.entries.ensures.rising) _ _ _ _ _ _ c.value.view_is c.symbols.ensures c.format_unsigned-number.ensures c.pattern_at-pattern.ensures c.in_pattern-shown.ensures c.new.ensures)
    c.in_ok-write_to.ensures.ok
