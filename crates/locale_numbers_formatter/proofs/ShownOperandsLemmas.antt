-- The operands of a decimal that became what is shown for it, and where one is shown.
use Rattle.std.proofs.Common.{◌≡◌, ℕ, ◌∙◌, ap, Bool, cond, Option, None, Some, true, false, nat_lt, ◌⊎◌, inl, inr, refl, subst, sym}
use Rattle.std.proofs.lemmas.Bool.{lt-ltb, ltb-true}
use Rattle.fixed_decimal.specs.Number.{Number}
use Rattle.fixed_decimal.specs.Rounding.{count_limit}
use Rattle.fixed_decimal.specs.SignedValue.{SignedValue}
use Rattle.icu_decimal.specs.CompactTables.{CompactTables}
use Rattle.icu_decimal.specs.Operands.{Operands, operands_of}
use Rattle.icu_decimal.specs.ShownChoice.{CanShow, shown_under}
use Rattle.icu_decimal.specs.Significand.{Shows}
use Rattle.icu_decimal.proofs.WritingLemmas.{shown_value_is}
use Rattle.icu_decimal.specs.HeldTables.{tables_of}
use Rattle.icu_decimal.specs.PlainText.{Tables}
use Rattle.icu_decimal.specs.declared.formatter.DecimalFormatter.{DecimalFormatter}
use Rattle.icu_dimension.specs.HeldFormatters.{code_of, currency_settings_of, settings_of_percent, sign_of}
use Rattle.icu_dimension.specs.declared.currency.CurrencyFormatter.{CurrencyFormatter}
use Rattle.icu_dimension.specs.declared.percent.PercentFormatter.{PercentFormatter}
use Rattle.locale_numbers_formatter.specs.FormatText.{FormatTables, UnitFormat, compact_tables, plain_tables, shown_by, unit_tables}
use Rattle.locale_numbers_formatter.specs.HeldFormats.{currency_format, format_of, percent_format}
use Rattle.locale_numbers_formatter.specs.declared.number_formatter.FormatterKind.{FormatterKind}
use Rattle.locale_numbers_formatter.specs.declared.number_formatter.FormatterKind.TheVariants as kind
use Rattle.locale_numbers_formatter.specs.ShownOperands.{is_shown, shown_operands, value_operands, value_seen}

module _ (t : CompactTables) (d new : SignedValue Number) (x : ℕ) (entry : Option ℕ) (same : new.sign ≡ d.sign) (shows : Shows t.patterns.entries d.absolute (record { significand = new.absolute; exponent = x; entry = entry })) where
  pub significand_is : new ≡ (shown_by (compact_tables t) d).significand
  significand_is = shown_value_is t d new x entry same shows

  pub operands_are : (inside : SignedValue Number) (o : Operands) → inside ≡ new → o ≡ operands_of inside.absolute x → o ≡ value_operands (value_seen (compact_tables t) d)
  operands_are inside o viewed is =
      let exponent : x ≡ (value_seen (compact_tables t) d).exponent = sym (ap (λ c. c.exponent) shows.choice) in
      is ∙ ap (λ (v : SignedValue Number). operands_of v.absolute x) (viewed ∙ significand_is)
      ∙ ap (operands_of (value_seen (compact_tables t) d).significand.absolute) exponent

-- the test of a decimal
can_test : (t : CompactTables) (d : SignedValue Number) → CanShow t.patterns.entries d.absolute.count → is_shown (compact_tables t) d ≡ true
can_test t d can = lt-ltb (shown_under 32768 t.patterns.entries d.absolute.count) count_limit can.below

cannot_test : (t : CompactTables) (d : SignedValue Number) → (CanShow t.patterns.entries d.absolute.count → ⊥) → is_shown (compact_tables t) d ≡ false
cannot_test t d never = at (nat_lt (shown_under 32768 t.patterns.entries d.absolute.count) count_limit) refl
  where
    at : (b : Bool) → nat_lt (shown_under 32768 t.patterns.entries d.absolute.count) count_limit ≡ b → b ≡ false
    at true is = absurd (never (record { below = ltb-true (shown_under 32768 t.patterns.entries d.absolute.count) count_limit is }))
    at false is = refl

-- what is seen, and that nothing is
pub some_seen : (t : CompactTables) (d : SignedValue Number) (o : Operands) → CanShow t.patterns.entries d.absolute.count → o ≡ value_operands (value_seen (compact_tables t) d) → Some o ≡ shown_operands (compact_tables t) d
some_seen t d o can is = ap Some is ∙ sym (ap (λ b. cond b (Some (value_operands (value_seen (compact_tables t) d))) None) (can_test t d can))

pub none_seen : (t : CompactTables) (d : SignedValue Number) → (CanShow t.patterns.entries d.absolute.count → ⊥) → None ≡ shown_operands (compact_tables t) d
none_seen t d never = sym (ap (λ b. cond b (Some (value_operands (value_seen (compact_tables t) d))) None) (cannot_test t d never))

-- ---- formats without compact patterns

-- a format that shows each number as it is
pub record ShowsAsItIs (f : FormatTables) : Type 0 where
  pub operands : (d : SignedValue Number) → shown_operands f d ≡ Some (operands_of d.absolute 0)
  pub value : (d : SignedValue Number) → (shown_by f d).significand ≡ d

plain_shows : (t : Tables) → ShowsAsItIs (plain_tables t)
plain_shows t = record { operands = λ d. refl; value = λ d. refl }

unit_shows : (u : UnitFormat) → ShowsAsItIs (unit_tables u)
unit_shows u = record { operands = λ d. refl; value = λ d. refl }

-- as that of each formatter but a compact one
pub kind_shows : (k : FormatterKind) → ((x : DecimalFormatter) × (k ≡ kind.Plain x)) ⊎ (((x : PercentFormatter) × (k ≡ kind.Percent x)) ⊎ ((x : CurrencyFormatter) × (k ≡ kind.Currency x))) → ShowsAsItIs (format_of k)
kind_shows k (inl is) = subst (λ k. ShowsAsItIs (format_of k)) (sym is.1) (plain_shows (tables_of is.0))
kind_shows k (inr (inl is)) = subst (λ k. ShowsAsItIs (format_of k)) (sym is.1) (unit_shows (percent_format (sign_of is.0) (settings_of_percent is.0)))
kind_shows k (inr (inr is)) = subst (λ k. ShowsAsItIs (format_of k)) (sym is.1) (unit_shows (currency_format (code_of is.0) (currency_settings_of is.0)))
