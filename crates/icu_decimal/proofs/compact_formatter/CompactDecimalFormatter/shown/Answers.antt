use Rattle.std.proofs.Common.{◌∙◌, ap, subst}
use Rattle.icu_decimal.specs.HeldTables.{tables_of}
use Rattle.icu_decimal_compact_value.specs.Entries.{Rises}
use Rattle.icu_decimal_compact_value.specs.Significand.{Shows}
use Rattle.icu_decimal.specs.HeldCompact.{compact_tables_of}
use Rattle.icu_decimal.proofs.ShownLemmas.{made_of, shown_is}
use Rattle.icu_decimal.proofs.compact_formatter.CompactDecimalFormatter.shown.Goals as goal

pub returns-clause-value : goal.returns-clause-value
returns-clause-value c =
    let t = compact_tables_of c.args.self.now in
    c.new.ensures
    ∙ ap (λ p. record { plain = record { number = c.shown.inside.significand; tables = tables_of c.args.self.now.plain }; exponent = c.shown.inside.exponent; pattern = p })
    c.pattern_at-pattern.ensures
    ∙ ap (λ s. made_of t s) c.shown.view_is
    ∙ shown_is t c.args.number.now c.in_ok-shown.shown
    (subst (λ xs. Rises 0 xs) c.entries.ensures.value c.entries.ensures.rising)
    (subst (λ xs. Shows xs c.args.number.now c.in_ok-shown.shown) c.entries.ensures.value c.in_ok-shown.ensures.value)
