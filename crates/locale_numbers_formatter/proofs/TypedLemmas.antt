-- What reads typed texts with a unit is what the definition has.
use Rattle.std.proofs.Common.{◌≡◌, ℕ, Bool, List, true, false, cond, None, Some, ap, ◌∙◌, sym}
use Rattle.icu_dimension.specs.LenientUnits.{LenientTexts, is_leniently_unit_readable_by, lenient_texts}
use Rattle.icu_dimension.specs.UnitReading.{ReaderTexts, reader_texts}
use Rattle.icu_dimension.specs.UnitText.{UnitSettings}
use Rattle.locale_numbers_formatter.specs.TypedUnits.{TypedTexts, typed_texts}
use Rattle.locale_numbers_formatter.specs.HeldTypedUnits.{leniently}

-- the texts, with what is folded where this is so
abbrev with_folded : UnitSettings → List ℕ → Bool → TypedTexts
with_folded s code b = record { reader = reader_texts s; folded = cond b (Some (lenient_texts s code).folded) None }

abbrev exactly : ReaderTexts → TypedTexts
exactly reader = record { reader = reader; folded = None }

pub typed_leniently : (texts : TypedTexts) (reader : LenientTexts) (s : UnitSettings) (code : List ℕ) → texts ≡ leniently reader → reader ≡ lenient_texts s code
    → is_leniently_unit_readable_by (lenient_texts s code) ≡ true → texts ≡ typed_texts s code
typed_leniently texts reader s code held is readable = held ∙ ap leniently is ∙ sym (ap (with_folded s code) readable)

pub typed_exactly : (texts : TypedTexts) (reader : ReaderTexts) (s : UnitSettings) (code : List ℕ) → texts ≡ record { reader = reader; folded = None } → reader ≡ reader_texts s
    → is_leniently_unit_readable_by (lenient_texts s code) ≡ false → texts ≡ typed_texts s code
typed_exactly texts reader s code held is broken = held ∙ ap exactly is ∙ sym (ap (with_folded s code) broken)
