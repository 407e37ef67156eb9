use Rattle.std.proofs.Common.{◌∙◌, subst, sym}
use Rattle.icu_decimal_compact_value.specs.Entries.{Rises}
use Rattle.icu_decimal.specs.HeldCompact.{compact_tables_of}
use Rattle.icu_decimal.proofs.ExactLemmas.{under_is}
use Rattle.icu_decimal.proofs.compact_formatter.CompactDecimalFormatter.format_under.Goals as goal

pub returns : goal.returns
returns c =
    c.written_at.ensures
    ∙ sym (under_is (compact_tables_of c.args.self.now) c.args.significand.now c.args.entry
    (subst (λ xs. Rises 0 xs) c.entries-rising.ensures.value c.entries-rising.ensures.rising))
