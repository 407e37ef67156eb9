use Rattle.icu_locale_core_grammar.proofs.PartPlain.{language_is_plain, attributes_are_plain, unicode_is_plain, transform_is_plain, other_is_plain, own_is_plain, keywords_are_plain, fields_are_plain, value_is_plain}
use Rattle.icu_locale_core_grammar.proofs.PlainPieces.{pieces-joined}
use Rattle.icu_locale_core_grammar.proofs.part_laws.parts_are_plain.Goals as goal

pub returns : goal.returns
returns c = record {
  language = language_is_plain;
  attributes = attributes_are_plain;
  unicode = unicode_is_plain;
  transform = transform_is_plain;
  other = other_is_plain;
  own = own_is_plain;
  keywords = keywords_are_plain;
  fields = fields_are_plain;
  value = value_is_plain;
  text = pieces-joined;
}
