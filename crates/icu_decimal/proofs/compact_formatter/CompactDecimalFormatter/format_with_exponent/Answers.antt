use Rattle.std.proofs.Common.{◌≡◌, ◌∙◌, Some, ap, subst, sym}
use Rattle.fixed_decimal.specs.Number.{Number}
use Rattle.fixed_decimal.specs.SignedValue.{SignedValue}
use Rattle.icu_decimal_compact_value.specs.Choice.{entry_of, exact_entry}
use Rattle.icu_decimal_compact_value.specs.Entries.{Rises}
use Rattle.icu_decimal.specs.HeldCompact.{compact_tables_of}
use Rattle.icu_decimal.proofs.ExactLemmas.{exact_is}
use Rattle.icu_decimal.proofs.compact_formatter.CompactDecimalFormatter.format_with_exponent.Goals as goal

pub returns-in-Ok-clause-value : goal.returns-in-Ok-clause-value
returns-in-Ok-clause-value c =
    let t = compact_tables_of c.args.self.now in
    exact_is t c.args.significand.now c.args.exponent c.in-Ok.entry
    (subst (λ xs. Rises 0 xs) c.entries.ensures.value c.entries.ensures.rising)
    (subst (λ n. exact_entry 32768 t.patterns.entries n c.args.exponent ≡ Some (entry_of t.patterns.entries c.in-Ok.entry)) (ap (λ (s : SignedValue Number). s.absolute.count) c.significand.view_is)
    (subst (λ xs. exact_entry 32768 xs c.significand.inside.absolute.count c.args.exponent ≡ Some (entry_of xs c.in-Ok.entry)) c.entries.ensures.value c.in-Ok.ensures.value))
    ∙ ap (λ s. Some s) (sym c.written_at.ensures)
