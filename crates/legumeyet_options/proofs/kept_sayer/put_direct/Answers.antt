use Rattle.std.proofs.Common.{ap, ◌∙◌}
use Rattle.icu_decimal_direct.specs.TextDigits.{number_spelled}
use Rattle.icu_decimal_direct.specs.TextTables.{text_tables}
use Rattle.legumeyet_options.specs.Sayings.{saying, text_said}
use Rattle.legumeyet_options.proofs.KeptSayerLemmas.{direct_said}
use Rattle.legumeyet_options.proofs.kept_sayer.put_direct.Goals as goal

pub returns-in-Ok-clause-said : goal.returns-in-Ok-clause-said
returns-in-Ok-clause-said c = (
  _,
  ap (λ sayer. text_said (saying sayer c.args._text.now)) c.requires.known
      ∙ direct_said c.format_is_text.ensures.number c.plain_is_layered.ensures.text (text_tables c.args.texts.now) c.args._text.now
      (number_spelled c.args.digits.now) c.requires.reads,
  c.in-Ok.ensures.text,
)
