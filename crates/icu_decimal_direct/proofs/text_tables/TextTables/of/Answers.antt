use Rattle.std.proofs.Common.{rules}
use Rattle.icu_decimal_direct.proofs.TextLemmas.{ascii_run}
use Rattle.icu_decimal_direct.proofs.text_tables.TextTables.of.Goals as goal

pub invariant_of-result : goal.invariant_of-result
invariant_of-result c = record {
  held = record {
    run = ascii_run c.args.digits.now (search rules);
    group = search rules;
    decimal = search rules;
    prefix = search rules;
    suffix = search rules;
    plus_prefix = search rules;
    plus_suffix = search rules;
    short_group = c.if-direct-gt4.false;
    short_decimal = c.if-direct-gt4-2.false;
    short_prefix = c.if-direct-gt4-3.false;
    short_suffix = c.if-direct-gt4-4.false;
    short_plus_prefix = c.if-direct-gt4-5.false;
    short_plus_suffix = c.if-direct-gt4-6.false;
    utf8_group = ∣ c.grouping_separator.utf8 ∣₁;
    utf8_decimal = ∣ c.decimal_separator.utf8 ∣₁;
    utf8_prefix = ∣ c.minus_sign_prefix.utf8 ∣₁;
    utf8_suffix = ∣ c.minus_sign_suffix.utf8 ∣₁;
    utf8_plus_prefix = ∣ c.plus_sign_prefix.utf8 ∣₁;
    utf8_plus_suffix = ∣ c.plus_sign_suffix.utf8 ∣₁;
    groups = search rules;
  };
}
