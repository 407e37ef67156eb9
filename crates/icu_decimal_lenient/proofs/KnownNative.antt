-- Values from outside that a wrong definition of native digits does not survive: the samples of docs/reading.md.
use Rattle.std.proofs.Common.{◌≡◌, false, [], ◌∷◌, None, Some, refl}
use Rattle.std.specs.Prelude.{codes}
use Rattle.std.specs.Str.{chars, encode_utf8_all, trim_start, trim_end}
use Rattle.fixed_decimal.specs.declared.Sign.TheVariants.{None as NoSign, Negative}
use Rattle.icu_decimal_symbols.specs.Symbols.{english_strings}
use Rattle.icu_decimal_plain.specs.PlainText.{Tables}
use lib.Utf8.{encode}
use Rattle.icu_decimal_reading.specs.DecimalOfText.{not_written}
use Rattle.icu_decimal_lenient.specs.Folding.{fold_of}
use Rattle.icu_decimal_lenient.specs.LenientReading.{lenient_reading}
use Rattle.icu_decimal_lenient.specs.Native.{arabic_text, native_text, native_zeros, system_of}
use Rattle.icu_decimal_lenient.specs.TypedReading.{arabic_reading, takes_arabic, typed_by_both, typed_reading}
use Rattle.icu_decimal_lenient.proofs.KnownLenient.{english, latin, number, with_strings}
use Rattle.icu_decimal_lenient.proofs.KnownLocales.{egyptian, french, german, hindi, khmer, persian}
use Rattle.icu_decimal_lenient.proofs.TypedLemmas.{arabic_is_read}

-- ---- digits

devanagari : native_text (encode_utf8_all (0x967 ∷ 0x2C ∷ 0x968 ∷ 0x969 ∷ 0x96A ∷ 0x2E ∷ 0x96B ∷ [])) ≡ Some (codes "1,234.5")
unfolding system_of native_zeros chars encode
devanagari = refl

persian_digits : native_text (encode_utf8_all (0x6F1 ∷ 0x6F9 ∷ [])) ≡ Some (codes "19")
unfolding system_of native_zeros chars encode
persian_digits = refl

mathematical : native_text (encode_utf8_all (0x1D7CE ∷ 0x1D7D7 ∷ [])) ≡ Some (codes "09")
unfolding system_of native_zeros chars encode
mathematical = refl

two_mathematical : native_text (encode_utf8_all (0x1D7CE ∷ 0x1D7D9 ∷ [])) ≡ None
unfolding system_of native_zeros chars encode
two_mathematical = refl

before_zero : native_text (encode_utf8_all (0x966 ∷ 0x96F ∷ 0x964 ∷ [])) ≡ Some (encode_utf8_all (0x30 ∷ 0x39 ∷ 0x964 ∷ []))
unfolding system_of native_zeros chars encode
before_zero = refl

ascii : native_text (codes "123") ≡ None
unfolding system_of native_zeros chars encode
ascii = refl

no_digits : native_text (codes "-.") ≡ None
unfolding system_of native_zeros chars encode
no_digits = refl

with_ascii : native_text (encode_utf8_all (0x31 ∷ 0x968 ∷ 0x33 ∷ [])) ≡ None
unfolding system_of native_zeros chars encode
with_ascii = refl

two_systems : native_text (encode_utf8_all (0x967 ∷ 0x662 ∷ [])) ≡ None
unfolding system_of native_zeros chars encode
two_systems = refl

no_digit : native_text (encode_utf8_all (0xB2 ∷ 0xBD ∷ 0x2163 ∷ 0x4E00 ∷ [])) ≡ None
unfolding system_of native_zeros chars encode
no_digit = refl

-- ---- read

-- `ar`, whose usual digits are Latin: U+200E before the signs

abbrev arabic : Tables
arabic = with_strings latin (record english_strings { minus_sign_prefix = encode_utf8_all (0x200E ∷ 0x2D ∷ []); plus_sign_prefix = encode_utf8_all (0x200E ∷ 0x2B ∷ []) })

in_hindi : typed_reading hindi (encode_utf8_all (0x967 ∷ 0x968 ∷ 0x969 ∷ [])) ≡ number NoSign 123 3 0
unfolding fold_of system_of native_zeros chars trim_start trim_end encode
in_hindi = refl

hindi_groups : typed_reading hindi (encode_utf8_all (0x967 ∷ 0x2C ∷ 0x968 ∷ 0x969 ∷ 0x96A ∷ 0x2E ∷ 0x96B ∷ [])) ≡ number NoSign 12345 4 1
unfolding fold_of system_of native_zeros chars trim_start trim_end encode
hindi_groups = refl

hindi_mixture : typed_reading hindi (encode_utf8_all (0x31 ∷ 0x968 ∷ 0x33 ∷ [])) ≡ not_written
unfolding fold_of system_of native_zeros chars trim_start trim_end encode
hindi_mixture = refl

in_thai : typed_reading english (encode_utf8_all (0xE51 ∷ 0xE52 ∷ 0xE53 ∷ [])) ≡ number NoSign 123 3 0
unfolding fold_of system_of native_zeros chars trim_start trim_end encode
in_thai = refl

in_arabic : typed_reading arabic (encode_utf8_all (0x664 ∷ 0x665 ∷ 0x666 ∷ [])) ≡ number NoSign 456 3 0
unfolding fold_of system_of native_zeros chars trim_start trim_end encode
in_arabic = refl

arabic_own_separators : typed_reading arabic (encode_utf8_all (0x661 ∷ 0x2C ∷ 0x662 ∷ 0x663 ∷ 0x664 ∷ 0x2E ∷ 0x665 ∷ [])) ≡ number NoSign 12345 4 1
unfolding fold_of system_of native_zeros chars trim_start trim_end encode
arabic_own_separators = refl

in_urdu : typed_reading arabic (encode_utf8_all (0x6F4 ∷ 0x6F5 ∷ 0x6F6 ∷ [])) ≡ number NoSign 456 3 0
unfolding fold_of system_of native_zeros chars trim_start trim_end encode
in_urdu = refl

negative : typed_reading arabic (encode_utf8_all (0x2D ∷ 0x664 ∷ [])) ≡ number Negative 4 1 0
unfolding fold_of system_of native_zeros chars trim_start trim_end encode
negative = refl

arabic_in_persian : typed_reading persian (encode_utf8_all (0x664 ∷ 0x665 ∷ 0x666 ∷ [])) ≡ number NoSign 456 3 0
unfolding fold_of system_of native_zeros chars trim_start trim_end encode
arabic_in_persian = refl

devanagari_in_french : typed_reading french (encode_utf8_all (0x967 ∷ 0x20 ∷ 0x968 ∷ 0x969 ∷ 0x96A ∷ 0x2C ∷ 0x96B ∷ [])) ≡ number NoSign 12345 4 1
unfolding fold_of system_of native_zeros chars trim_start trim_end encode
devanagari_in_french = refl

full_width : typed_reading english (encode_utf8_all (0xFF11 ∷ 0xFF12 ∷ 0xFF13 ∷ [])) ≡ number NoSign 123 3 0
unfolding fold_of system_of native_zeros chars trim_start trim_end encode
full_width = refl

hindi_in_egyptian : typed_reading egyptian (encode_utf8_all (0x967 ∷ 0x66B ∷ 0x96B ∷ [])) ≡ number NoSign 15 1 1
unfolding fold_of system_of native_zeros chars trim_start trim_end encode
hindi_in_egyptian = refl

-- with the separators of Arabic digits: in steps, since the definition on these whole computes for too long
arabic_separators_spelled : arabic_text (encode_utf8_all (0x661 ∷ 0x66C ∷ 0x662 ∷ 0x663 ∷ 0x664 ∷ 0x66B ∷ 0x665 ∷ [])) ≡ Some (encode_utf8_all (0x31 ∷ 0x66C ∷ 0x32 ∷ 0x33 ∷ 0x34 ∷ 0x66B ∷ 0x35 ∷ []))
unfolding system_of native_zeros chars encode
arabic_separators_spelled = refl

arabic_separators_as_it_is : lenient_reading arabic (encode_utf8_all (0x661 ∷ 0x66C ∷ 0x662 ∷ 0x663 ∷ 0x664 ∷ 0x66B ∷ 0x665 ∷ [])) ≡ not_written
unfolding fold_of system_of native_zeros chars trim_start trim_end encode
arabic_separators_as_it_is = refl

arabic_separators_in_ascii : lenient_reading arabic (encode_utf8_all (0x31 ∷ 0x66C ∷ 0x32 ∷ 0x33 ∷ 0x34 ∷ 0x66B ∷ 0x35 ∷ [])) ≡ not_written
unfolding fold_of system_of native_zeros chars trim_start trim_end encode
arabic_separators_in_ascii = refl

arabic_separators_read : arabic_reading arabic (encode_utf8_all (0x31 ∷ 0x66C ∷ 0x32 ∷ 0x33 ∷ 0x34 ∷ 0x66B ∷ 0x35 ∷ [])) ≡ number NoSign 12345 4 1
unfolding fold_of system_of native_zeros chars trim_start trim_end encode
arabic_separators_read = refl

arabic_separators : typed_reading arabic (encode_utf8_all (0x661 ∷ 0x66C ∷ 0x662 ∷ 0x663 ∷ 0x664 ∷ 0x66B ∷ 0x665 ∷ [])) ≡ number NoSign 12345 4 1
arabic_separators = arabic_is_read arabic (encode_utf8_all (0x661 ∷ 0x66C ∷ 0x662 ∷ 0x663 ∷ 0x664 ∷ 0x66B ∷ 0x665 ∷ [])) (encode_utf8_all (0x31 ∷ 0x66C ∷ 0x32 ∷ 0x33 ∷ 0x34 ∷ 0x66B ∷ 0x35 ∷ [])) _ arabic_separators_spelled arabic_separators_as_it_is arabic_separators_in_ascii arabic_separators_read

arabic_in_german_spelled : arabic_text (encode_utf8_all (0x661 ∷ 0x66B ∷ 0x665 ∷ [])) ≡ Some (encode_utf8_all (0x31 ∷ 0x66B ∷ 0x35 ∷ []))
unfolding system_of native_zeros chars encode
arabic_in_german_spelled = refl

arabic_in_german_as_it_is : lenient_reading german (encode_utf8_all (0x661 ∷ 0x66B ∷ 0x665 ∷ [])) ≡ not_written
unfolding fold_of system_of native_zeros chars trim_start trim_end encode
arabic_in_german_as_it_is = refl

arabic_in_german_in_ascii : lenient_reading german (encode_utf8_all (0x31 ∷ 0x66B ∷ 0x35 ∷ [])) ≡ not_written
unfolding fold_of system_of native_zeros chars trim_start trim_end encode
arabic_in_german_in_ascii = refl

arabic_in_german_read : arabic_reading german (encode_utf8_all (0x31 ∷ 0x66B ∷ 0x35 ∷ [])) ≡ number NoSign 15 1 1
unfolding fold_of system_of native_zeros chars trim_start trim_end encode
arabic_in_german_read = refl

arabic_in_german : typed_reading german (encode_utf8_all (0x661 ∷ 0x66B ∷ 0x665 ∷ [])) ≡ number NoSign 15 1 1
arabic_in_german = arabic_is_read german (encode_utf8_all (0x661 ∷ 0x66B ∷ 0x665 ∷ [])) (encode_utf8_all (0x31 ∷ 0x66B ∷ 0x35 ∷ [])) _ arabic_in_german_spelled arabic_in_german_as_it_is arabic_in_german_in_ascii arabic_in_german_read

-- separators of two systems: neither the tables nor those with the separators of Arabic digits read it, one after another here, since all at once computes for too long
mixture : arabic_text (encode_utf8_all (0x661 ∷ 0x66C ∷ 0x662 ∷ 0x663 ∷ 0x664 ∷ 0x2E ∷ 0x665 ∷ [])) ≡ Some (encode_utf8_all (0x31 ∷ 0x66C ∷ 0x32 ∷ 0x33 ∷ 0x34 ∷ 0x2E ∷ 0x35 ∷ []))
unfolding system_of native_zeros chars encode
mixture = refl

mixture_own : lenient_reading arabic (encode_utf8_all (0x31 ∷ 0x66C ∷ 0x32 ∷ 0x33 ∷ 0x34 ∷ 0x2E ∷ 0x35 ∷ [])) ≡ not_written
unfolding fold_of system_of native_zeros chars trim_start trim_end encode
mixture_own = refl

mixture_arabic : arabic_reading arabic (encode_utf8_all (0x31 ∷ 0x66C ∷ 0x32 ∷ 0x33 ∷ 0x34 ∷ 0x2E ∷ 0x35 ∷ [])) ≡ not_written
unfolding fold_of system_of native_zeros chars trim_start trim_end encode
mixture_arabic = refl

-- the separators of Arabic digits are those of the tables already
egyptian_takes : takes_arabic egyptian ≡ false
unfolding fold_of chars encode
egyptian_takes = refl

-- with second tables, in the separators of which the digits are others
by_both : typed_by_both khmer english (encode_utf8_all (0x967 ∷ 0x968 ∷ [])) ≡ number NoSign 12 2 0
unfolding fold_of system_of native_zeros chars trim_start trim_end encode
by_both = refl

ambiguous : typed_by_both khmer english (encode_utf8_all (0x967 ∷ 0x2C ∷ 0x968 ∷ 0x969 ∷ 0x96A ∷ [])) ≡ not_written
unfolding fold_of system_of native_zeros chars trim_start trim_end encode
ambiguous = refl
