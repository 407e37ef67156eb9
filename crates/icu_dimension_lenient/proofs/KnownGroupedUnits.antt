-- Values from outside that a wrong definition does not survive: the ends of folded affixes, and texts of other groupings; docs/units.md, "Lenient reading".
use Rattle.std.proofs.Common.{◌≡◌, true, false, [], ◌∷◌, ◌++◌, None, refl}
use Rattle.std.specs.Prelude.{codes}
use Rattle.std.specs.Str.{chars, trim_end, trim_start}
use Rattle.fixed_decimal.specs.declared.Sign.TheVariants.{None as NoSign, Negative}
use lib.Utf8.{encode}
use Rattle.icu_decimal_reading.specs.DecimalOfText.{not_written}
use Rattle.icu_decimal_lenient.specs.Folding.{fold_of, folded_symbols}
use Rattle.icu_decimal_lenient.proofs.KnownLenient.{english, number}
use Rattle.icu_dimension_lenient.specs.GroupedUnitLaws.{has_bare_ends, have_bare_ends}
use Rattle.icu_dimension_lenient.specs.LenientUnits.{LenientTexts, lenient_texts, read_own}
use Rattle.icu_dimension_lenient.proofs.KnownUnits.{before, euro, euros, settings}

-- ---- ends

of_euros : have_bare_ends euros.folded.pairs ≡ true
unfolding fold_of chars trim_start trim_end encode
of_euros = refl

beside_number : has_bare_ends (record { before = codes "Rs "; after = codes " kr" }) ≡ true
unfolding chars trim_start trim_end encode
beside_number = refl

before_both : has_bare_ends (record { before = codes " Rs"; after = [] }) ≡ false
unfolding chars trim_start trim_end encode
before_both = refl

after_both : has_bare_ends (record { before = []; after = codes "kr " }) ≡ false
unfolding chars trim_start trim_end encode
after_both = refl

-- U+3000
wide_space : has_bare_ends (record { before = []; after = 227 ∷ 128 ∷ 128 ∷ [] }) ≡ false
unfolding chars trim_start trim_end encode
wide_space = refl

-- ---- without groups, and with all of them

whole : read_own (folded_symbols english) euros.folded.pairs (codes "-" ++ (euro ++ codes "1234")) ≡ number Negative 1234 4 0
unfolding fold_of chars trim_start trim_end encode
whole = refl

grouped : read_own (folded_symbols english) euros.folded.pairs (euro ++ codes "1,234") ≡ number NoSign 1234 4 0
unfolding fold_of chars trim_start trim_end encode
grouped = refl

-- ---- `€1 kr `, which loses its end

abbrev spaced : LenientTexts
spaced = lenient_texts (settings (record { unsigned = before [] [] (codes " kr "); minus = None; plus = None }) euro) (codes "EUR")

spaced_end : have_bare_ends spaced.folded.pairs ≡ false
unfolding fold_of chars trim_start trim_end encode
spaced_end = refl

lost_end : read_own (folded_symbols english) spaced.folded.pairs (euro ++ codes "1 kr") ≡ not_written
unfolding fold_of chars trim_start trim_end encode
lost_end = refl
