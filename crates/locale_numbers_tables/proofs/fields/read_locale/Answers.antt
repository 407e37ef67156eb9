use Rattle.std.proofs.Common.{sym}
use Rattle.icu_locale_core.specs.Pieces.{pieces}
use Rattle.locale_numbers_tables.proofs.TagLemmas.{one_variant_read}
use Rattle.locale_numbers_tables.proofs.fields.read_locale.Goals as goal

pub returns-in-Ok-clause-value : goal.returns-in-Ok-clause-value
returns-in-Ok-clause-value c = rw (← c.as_bytes.ensures.value, c.locale_of.ensures) (sym (one_variant_read (pieces c.as_bytes.result.now) c.in-Ok.parts c.in-Ok.ensures))
