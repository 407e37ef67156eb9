use Rattle.std.proofs.Common.{◌≡◌, ap, subst, inr, ◌∙◌}
use Rattle.fixed_decimal.specs.Number.{Number}
use Rattle.fixed_decimal.specs.Range.{IsLong}
use Rattle.icu_decimal.specs.Affixes.{WithSign}
use Rattle.icu_decimal.specs.CompactText.{CompactNumber}
use Rattle.icu_decimal.specs.HeldCompact.{compact_tables_of}
use Rattle.writeable.specs.Taking.{on_err}
use Rattle.locale_numbers_formatter.specs.FormatText.{compact_tables, shown_by}
use Rattle.locale_numbers_formatter.proofs.number_formatter.show_compact.Goals as goal

pub returns-in_err-significand-clause-room : goal.returns-in_err-significand-clause-room
returns-in_err-significand-clause-room c =
    let f = compact_tables (compact_tables_of c.args.formatter.now) in
    let shown : c.significand.result.now ≡ (shown_by f c.args.value.now).significand.absolute =
    c.significand.ensures
    ∙ ap (λ (n : CompactNumber). n.plain.number) c.value-shown.ensures
    ∙ ap (λ (s : WithSign CompactNumber). s.value.plain.number) c.in_ok-text.ensures.value in
    on_err c.from_residual-in_err-significand.result (inr (subst (λ (n : Number). IsLong n.count) shown c.in_err-significand.ensures.room))
