use Rattle.std.proofs.Common.{◌≡◌, IfOk, IfSome, Some, ap, sym, subst, ◌∙◌}
use Rattle.fixed_decimal.specs.Number.{Number}
use Rattle.fixed_decimal.specs.SignedValue.{SignedValue}
use Rattle.icu_decimal.specs.Operands.{Operands, operands_of}
use Rattle.locale_numbers_formatter.specs.FormatText.{FormatTables, shown_by}
use Rattle.locale_numbers_formatter.specs.HeldFormats.{format_of}
use Rattle.locale_numbers_formatter.specs.ShownOperands.{shown_operands}
use Rattle.locale_numbers_formatter.proofs.ShownOperandsLemmas.{ShowsAsItIs, kind_shows}
use Rattle.locale_numbers_formatter.proofs.number_formatter.NumberFormatter.plural_operands.Goals as goal

pub returns-in-Compact-clause-operands : goal.returns-in-Compact-clause-operands
returns-in-Compact-clause-operands c =
    c.compact_operands.ensures.operands
    ∙ ap (λ (f : FormatTables). shown_operands f c.args.value.now) (ap format_of (sym c.in-Compact.is) ∙ c.self.view_is)

pub returns-in-Compact-clause-value : goal.returns-in-Compact-clause-value
returns-in-Compact-clause-value c =
    subst (λ (f : FormatTables). IfSome c.compact_operands.result (λ operands. c.compact_operands.new.value ≡ (shown_by f c.args.value.now).significand))
    (ap format_of (sym c.in-Compact.is) ∙ c.self.view_is) c.compact_operands.ensures.value

pub returns-in-CompactDigits-clause-operands : goal.returns-in-CompactDigits-clause-operands
returns-in-CompactDigits-clause-operands c =
    subst (λ (f : FormatTables). IfOk c.digits_operands.result (λ seen. seen ≡ shown_operands f c.args.value.now))
    (ap format_of (sym c.in-CompactDigits.is) ∙ c.self.view_is) c.digits_operands.ensures.operands

pub returns-in-CompactDigits-clause-value : goal.returns-in-CompactDigits-clause-value
returns-in-CompactDigits-clause-value c =
    subst (λ (f : FormatTables). IfOk c.digits_operands.result (λ seen. IfSome seen (λ operands. c.digits_operands.new.value ≡ (shown_by f c.args.value.now).significand)))
    (ap format_of (sym c.in-CompactDigits.is) ∙ c.self.view_is) c.digits_operands.ensures.value

pub returns-in-Scientific-clause-operands : goal.returns-in-Scientific-clause-operands
returns-in-Scientific-clause-operands c =
    subst (λ (f : FormatTables). IfOk c.scientific_operands.result (λ seen. seen ≡ shown_operands f c.args.value.now))
    (ap format_of (sym c.in-Scientific.is) ∙ c.self.view_is) c.scientific_operands.ensures.operands

pub returns-in-Scientific-clause-value : goal.returns-in-Scientific-clause-value
returns-in-Scientific-clause-value c =
    subst (λ (f : FormatTables). IfOk c.scientific_operands.result (λ seen. IfSome seen (λ operands. c.scientific_operands.new.value ≡ (shown_by f c.args.value.now).significand)))
    (ap format_of (sym c.in-Scientific.is) ∙ c.self.view_is) c.scientific_operands.ensures.value

pub returns-in-Plain-clause-operands : goal.returns-in-Plain-clause-operands
returns-in-Plain-clause-operands c =
    let shows : ShowsAsItIs c.args.self.now = subst ShowsAsItIs c.self.view_is (kind_shows c.self.inside.kind c.in-Plain.is) in
    ap (λ (o : Operands). Some o) (c.from_significand_and_exponent.ensures ∙ ap (λ (v : SignedValue Number). operands_of v.absolute 0) c.value.view_is)
    ∙ sym (shows.operands c.args.value.now)

pub returns-in-Plain-clause-value : goal.returns-in-Plain-clause-value
returns-in-Plain-clause-value c =
    let shows : ShowsAsItIs c.args.self.now = subst ShowsAsItIs c.self.view_is (kind_shows c.self.inside.kind c.in-Plain.is) in
    sym (shows.value c.args.value.now)
