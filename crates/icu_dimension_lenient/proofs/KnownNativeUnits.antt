-- Values from outside that a wrong definition of native digits with a unit does not survive: the table of docs/units.md, "Lenient reading".
use Rattle.std.proofs.Common.{◌≡◌, ℕ, List, [], ◌∷◌, ◌++◌, None, Some, refl, ap, ◌∙◌}
use Rattle.std.specs.Prelude.{codes}
use Rattle.std.specs.Str.{chars, encode_utf8_all, trim_start, trim_end}
use Rattle.fixed_decimal.specs.declared.Sign.TheVariants.{None as NoSign}
use lib.Utf8.{encode}
use Rattle.icu_decimal_reading.specs.DecimalOfText.{not_written}
use Rattle.icu_decimal_lenient.specs.Folding.{fold_of, folded_symbols}
use Rattle.icu_decimal_lenient.specs.LenientReading.{lenient_reading, or_else}
use Rattle.icu_decimal_lenient.specs.Native.{arabic_text, native_text, native_zeros, system_of}
use Rattle.icu_decimal_lenient.specs.TypedReading.{arabic_tables}
use Rattle.icu_decimal_lenient.proofs.KnownLenient.{english, number}
use Rattle.icu_dimension_lenient.specs.Agreement.{agreed_reading}
use Rattle.icu_dimension_lenient.specs.LenientUnits.{folded_ways, typed_unit_reading}
use Rattle.icu_dimension_lenient.specs.NativeUnits.{lenient_unit_reading, native_unit_reading}
use Rattle.icu_dimension_lenient.specs.UnitReadings.{unit_reading}
use Rattle.icu_dimension_lenient.proofs.KnownUnits.{after_space, euro, euros}
use Rattle.icu_dimension_lenient.proofs.NativeUnitLemmas.{native_is_ascii}

-- 5 in the digits of Devanagari, with a space and the unit: in steps, since the definition on it whole computes for too long

abbrev devanagari : List ℕ
devanagari = encode_utf8_all (0x96B ∷ 0x20 ∷ 0x20AC ∷ [])

abbrev in_ascii : List ℕ
in_ascii = codes "5 " ++ euro

spelled : native_text devanagari ≡ Some in_ascii
unfolding system_of native_zeros chars encode
spelled = refl

as_it_is : lenient_unit_reading euros devanagari ≡ not_written
unfolding fold_of chars trim_start trim_end encode
as_it_is = refl

not_exact : unit_reading euros.reader in_ascii ≡ not_written
unfolding fold_of chars trim_start trim_end encode
not_exact = refl

not_plain : lenient_reading english in_ascii ≡ not_written
unfolding fold_of chars trim_start trim_end encode
not_plain = refl

read_in_ascii : lenient_unit_reading euros in_ascii ≡ number NoSign 5 1 0
unfolding fold_of chars trim_start trim_end encode
read_in_ascii =
    ap (λ r. or_else r (typed_unit_reading english euros.folded in_ascii)) not_exact
    ∙ ap (λ r. agreed_reading (r ∷ folded_ways (folded_symbols english) euros.folded in_ascii)) not_plain
    ∙ after_space

in_devanagari : native_unit_reading euros devanagari ≡ number NoSign 5 1 0
in_devanagari = native_is_ascii euros devanagari in_ascii _ spelled as_it_is read_in_ascii

-- 4.5 in Arabic digits, with their separator

arabic_spelled : arabic_text (encode_utf8_all (0x664 ∷ 0x66B ∷ 0x665 ∷ 0x20 ∷ 0x20AC ∷ [])) ≡ Some (encode_utf8_all (0x34 ∷ 0x66B ∷ 0x35 ∷ 0x20 ∷ 0x20AC ∷ []))
unfolding system_of native_zeros chars encode
arabic_spelled = refl

arabic_read : agreed_reading (folded_ways (folded_symbols (arabic_tables english)) euros.folded (encode_utf8_all (0x34 ∷ 0x66B ∷ 0x35 ∷ 0x20 ∷ 0x20AC ∷ []))) ≡ number NoSign 45 1 1
unfolding fold_of chars trim_start trim_end encode
arabic_read = refl

-- digits of two systems

mixture : native_text (encode_utf8_all (0x31 ∷ 0x968 ∷ 0x33 ∷ 0x20AC ∷ [])) ≡ None
unfolding system_of native_zeros chars encode
mixture = refl
