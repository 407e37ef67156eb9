-- Laws of lenient reading of numbers with a unit.
use Rattle.std.proofs.Common.{◌≡◌, inl, inr, cond, List, ◌∷◌, refl, sym, ap, subst, ◌∙◌}
use Rattle.fixed_decimal.specs.Number.{Number}
use Rattle.fixed_decimal.specs.SignedValue.{SignedValue}
use Rattle.icu_decimal_reading.specs.DecimalOfText.{PlainReading, decimal, not_written}
use Rattle.icu_decimal_lenient.specs.Folding.{folded_symbols}
use Rattle.icu_decimal_lenient.specs.LenientReading.{trimmed_fold}
use Rattle.icu_dimension_affixes.specs.UnitReading.{IsUnitText, text_by}
use Rattle.icu_dimension_affixes.proofs.UnitReadingLemmas.{unit_texts_have_one_decimal}
use Rattle.icu_dimension_lenient.specs.Agreement.{agreed_reading}
use Rattle.icu_dimension_lenient.specs.LenientUnitLaws.{ExactUnitIsLenient, HasOneLenientUnitReading, LenientUnitIsTyped, LenientUnitMisses, UnitMayBeLeftOff, UnitWaysAgree, WrittenUnitReadsLeniently}
use Rattle.icu_dimension_lenient.specs.LenientUnits.{folded_ways, unit_ways}
use Rattle.icu_dimension_lenient.proofs.TypedUnitLemmas.{all_agree, no_others, none_or_two, one_is_read, same_decimal, way_is_typed}

pub exact_unit_is_lenient : ExactUnitIsLenient
exact_unit_is_lenient a text v reading texts readable is (inl found) =
    found.1.1 ∙ ap decimal (unit_texts_have_one_decimal a.reader found.0 v texts readable found.1.0.decimal is.decimal (found.1.0.written ∙ sym is.written))
exact_unit_is_lenient a text v reading texts readable is (inr none) = absurd (none.0 v is.decimal is.written)

pub one_lenient_unit_reading : HasOneLenientUnitReading
one_lenient_unit_reading a text one other texts readable (inl found) second =
    found.1.1 ∙ sym (exact_unit_is_lenient a text found.0 other texts readable found.1.0 second)
one_lenient_unit_reading a text one other texts readable (inr none) (inl found) = absurd (none.0 found.0 found.1.0.decimal found.1.0.written)
one_lenient_unit_reading a text one other texts readable (inr none) (inr missing) = none.1 ∙ sym missing.1

pub written_unit_reads_leniently : WrittenUnitReadsLeniently
written_unit_reads_leniently a v reading texts readable is = exact_unit_is_lenient a (text_by a.reader v) v reading texts readable (record { decimal = is; written = refl })

pub lenient_unit_is_typed : LenientUnitIsTyped
lenient_unit_is_typed a text v texts (inl found) = inl (subst (IsUnitText a.reader text) (sym (same_decimal v found.0 found.1.1)) found.1.0)
lenient_unit_is_typed a text v texts (inr missing) =
    inr (way_is_typed a.reader.tables texts.tables a.folded text v (one_is_read (unit_ways a.reader.tables a.folded text) v (sym missing.1)))

pub unit_ways_agree : UnitWaysAgree
unit_ways_agree a text v w none (inl found) is = absurd (none found.0 found.1.0.decimal found.1.0.written)
unit_ways_agree a text v w none (inr missing) is = all_agree (unit_ways a.reader.tables a.folded text) v w (sym missing.1) is

no_decimal : (v : SignedValue Number) → not_written ≡ decimal v → ⊥
no_decimal v e = cc

pub lenient_unit_misses : LenientUnitMisses
lenient_unit_misses a text (inl found) = absurd (no_decimal found.0 found.1.1)
lenient_unit_misses a text (inr missing) = none_or_two (unit_ways a.reader.tables a.folded text) (sym missing.1)

pub unit_may_be_left_off : UnitMayBeLeftOff
unit_may_be_left_off a text v reading none is others (inl found) = absurd (none found.0 found.1.0.decimal found.1.0.written)
unit_may_be_left_off a text v reading none is others (inr missing) =
    let rest : List PlainReading = folded_ways (folded_symbols a.reader.tables) a.folded (trimmed_fold a.reader.tables text) in
    missing.1 ∙ ap (λ r. agreed_reading (r ∷ rest)) is ∙ ap (λ b. cond b (decimal v) not_written) (no_others rest v others)
