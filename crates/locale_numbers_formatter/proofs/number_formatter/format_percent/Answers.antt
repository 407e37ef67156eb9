use Rattle.std.proofs.Common.{◌∙◌, ap, sym}
use Rattle.icu_dimension.specs.HeldFormatters.{settings_of_percent, sign_of}
use Rattle.icu_dimension.specs.UnitText.{unit_decimal_events}
use Rattle.locale_numbers_formatter.specs.HeldFormats.{percent_format}
use Rattle.locale_numbers_formatter.proofs.number_formatter.format_percent.Goals as goal

pub returns : goal.returns
returns c =
    ap unit_decimal_events c.format.ensures
    ∙ sym (c.unit_is_layered.ensures.parts (percent_format (sign_of c.args.formatter.now) (settings_of_percent c.args.formatter.now)) c.args.value.now)
