use Rattle.std.proofs.Common.{◌∙◌, ap, sym}
use Rattle.icu_dimension.specs.HeldFormatters.{code_of, currency_settings_of}
use Rattle.icu_dimension.specs.UnitText.{unit_decimal_events}
use Rattle.locale_numbers_formatter.specs.HeldFormats.{currency_format}
use Rattle.locale_numbers_formatter.proofs.number_formatter.format_amount.Goals as goal

pub returns : goal.returns
returns c =
    ap unit_decimal_events c.format.ensures
    ∙ sym (c.unit_is_layered.ensures.parts (currency_format (code_of c.args.formatter.now) (currency_settings_of c.args.formatter.now)) c.args.value.now)
