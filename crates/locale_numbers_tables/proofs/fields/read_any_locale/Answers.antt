use Rattle.std.proofs.Common.{sym}
use Rattle.icu_locale_core.specs.Pieces.{pieces}
use Rattle.locale_numbers_tables.proofs.TagLemmas.{data_read, data_faulty, other_one}
use Rattle.locale_numbers_tables.proofs.fields.read_any_locale.Goals as goal

pub returns-in-Ok-clause-value : goal.returns-in-Ok-clause-value
returns-in-Ok-clause-value c = rw (← c.as_bytes.ensures.value) (sym (data_read (pieces c.as_bytes.result.now) c.in-Ok.locale c.in-Ok.ensures.value))

pub returns-in_default : goal.returns-in_default
returns-in_default c = record {
  value = rw (← c.as_bytes.ensures.value) (sym (data_faulty (pieces c.as_bytes.result.now) c.in-Err.fault (other_one c.in-Err.ensures.fault c.in_default.not-Memory)));
  room = tt;
}
