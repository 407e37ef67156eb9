-- The pieces of each part are letters and digits, and each part in normal form reads back as it is printed.
use Rattle.std.proofs.Common.{◌≡◌, true, false, List, [], ◌∷◌, ◌++◌, Some, map, refl}
use Rattle.std.specs.Prelude.{if◌then◌else◌}
use Rattle.icu_locale_core_grammar.specs.Subtags.{Text, is_plain, is_value, is_key, is_field_key, is_other_piece, is_private_piece, is_true, lower}
use Rattle.icu_locale_core_grammar.specs.NormalText.{shown_entry}
use Rattle.icu_locale_core_grammar.specs.TagStages.{language_after, inner_ends, attributes_after, attributes_end, other_after}
use Rattle.icu_locale_core_grammar.specs.LanguagePart.{MeansLanguage}
use Rattle.icu_locale_core_grammar.specs.Meaning.{MeansAttributes, MeansUnicode, MeansTransform, MeansOther}
use Rattle.icu_locale_core_grammar.specs.PartReaders.{MeansOwn, MeansKeywords, MeansFields, MeansValue, nothing_after, nothing_ends, value_after, own_after}
use Rattle.icu_locale_core_grammar.specs.PartLaws.{TakesPlain, UnicodeReadsBack, TransformReadsBack, PrivateReadsBack, KeywordsReadBack, FieldsReadBack, ValueReadsBack}
use Rattle.icu_locale_core_grammar.proofs.PlainSubtags.{characters_plain, key_plain, field_key_plain}
use Rattle.icu_locale_core_grammar.proofs.PlainPieces.{passed, language_takes, headed_takes, attributes_take, plain_read}
use Rattle.icu_locale_core_grammar.proofs.LanguageReader.{language_reader}
use Rattle.icu_locale_core_grammar.proofs.BodyReaders.{attributes_reader, unicode_reader, transform_reader, other_reader}
use Rattle.icu_locale_core_grammar.proofs.PartReaders.{keywords_reader, fields_reader, value_reader, own_reader}
use Rattle.icu_locale_core_grammar.proofs.NormalBodies.{pieces_pass, pieces_stay, values_pass, values_stay, entries_are, entries_keyed, unicode_means, transform_means}

pub language_is_plain : TakesPlain MeansLanguage
language_is_plain = plain_read language_reader language_takes

pub attributes_are_plain : TakesPlain MeansAttributes
attributes_are_plain = plain_read attributes_reader attributes_take

pub unicode_is_plain : TakesPlain MeansUnicode
unicode_is_plain = plain_read unicode_reader (headed_takes attributes_after attributes_end is_key false attributes_take key_plain)

pub transform_is_plain : TakesPlain MeansTransform
transform_is_plain = plain_read transform_reader (headed_takes language_after inner_ends is_field_key true language_takes field_key_plain)

other_takes : (own : List Text) (p : Text) (t : List Text) → other_after own p ≡ Some t → is_plain p ≡ true
other_takes own p t e = characters_plain 2 8 p (passed (is_other_piece p) (own ++ lower p ∷ []) t e)

pub other_is_plain : TakesPlain MeansOther
other_is_plain = plain_read other_reader other_takes

own_takes : (own : List Text) (p : Text) (t : List Text) → own_after own p ≡ Some t → is_plain p ≡ true
own_takes own p t e = characters_plain 1 8 p (passed (is_private_piece p) (own ++ lower p ∷ []) t e)

pub own_is_plain : TakesPlain MeansOwn
own_is_plain = plain_read own_reader own_takes

value_takes : (vs : List Text) (p : Text) (t : List Text) → value_after vs p ≡ Some t → is_plain p ≡ true
value_takes vs p t e = characters_plain 3 8 p (passed (is_value p) (if is_true p then vs else vs ++ lower p ∷ []) t e)

pub value_is_plain : TakesPlain MeansValue
value_is_plain = plain_read value_reader value_takes

nothing_takes : (s : Unit {0}) (p : Text) (t : Unit {0}) → nothing_after s p ≡ Some t → is_plain p ≡ true
nothing_takes s p t e = cc

pub keywords_are_plain : TakesPlain MeansKeywords
keywords_are_plain = plain_read keywords_reader (headed_takes nothing_after nothing_ends is_key false nothing_takes key_plain)

pub fields_are_plain : TakesPlain MeansFields
fields_are_plain = plain_read fields_reader (headed_takes nothing_after nothing_ends is_field_key true nothing_takes field_key_plain)

-- ---- printed and read

pub unicode_back : UnicodeReadsBack
unicode_back u n filled = record { singleton = _; body = _; parts = refl; is = refl; filled = filled; meant = unicode_means u n }

pub transform_back : TransformReadsBack
transform_back t n filled = record { singleton = _; body = _; parts = refl; is = refl; filled = filled; meant = transform_means t n }

pub private_back : PrivateReadsBack
private_back own n filled = record { singleton = _; body = own; parts = refl; is = refl; filled = filled; meant = record { each = pieces_pass is_private_piece own n; meant = pieces_stay is_private_piece own n } }

pub keywords_back : KeywordsReadBack
keywords_back es n = record { entries = map (shown_entry false) es; parts = refl; each = entries_are is_key false es n.each; keyed = entries_keyed is_key false es n }

pub fields_back : FieldsReadBack
fields_back es n = record { entries = map (shown_entry true) es; parts = refl; each = entries_are is_field_key true es n.each; keyed = entries_keyed is_field_key true es n }

pub value_back : ValueReadsBack
value_back vs each = record { each = values_pass vs each; meant = values_stay vs each }
