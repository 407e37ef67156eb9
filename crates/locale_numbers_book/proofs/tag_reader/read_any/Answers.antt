use Rattle.std.proofs.Common.{sym, ap, ◌∙◌, Some}
use Rattle.locale_numbers_tables.proofs.TagLemmas.{other_one}
use Rattle.locale_numbers_book.proofs.WantedLemmas.{asks_of, asks_nothing}
use Rattle.locale_numbers_book.proofs.tag_reader.read_any.Goals as goal

pub returns-in-Ok-clause-value : goal.returns-in-Ok-clause-value
returns-in-Ok-clause-value c = ap Some c.from.ensures ∙ sym (asks_of c.args.tag.now c.in-Ok.locale c.in-Ok.ensures.value)

pub returns-in_default : goal.returns-in_default
returns-in_default c = record {
  value = sym (asks_nothing c.args.tag.now c.in-Err.fault (other_one c.in-Err.ensures.fault c.in_default.not-Memory));
  room = tt;
}
