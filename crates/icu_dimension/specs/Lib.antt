-- What a reader must believe: the tables of units, which one is taken, and what is found.
pub mod FoundUnits
pub mod ProvidedUnits
pub mod UnitChoice
pub mod UnitSources
-- What a formatter borrows.
pub mod HeldFormatters
pub mod HeldDecimals
-- Statements of laws.
pub mod FoundUnitsLaws
-- Patterns of units, the text, and texts read back.
pub use Rattle.icu_dimension_affixes.specs.HeldReaders
pub use Rattle.icu_dimension_affixes.specs.HeldUnits
pub use Rattle.icu_dimension_affixes.specs.PartlessUnits
pub use Rattle.icu_dimension_affixes.specs.UnitPatterns
pub use Rattle.icu_dimension_affixes.specs.UnitPlaces
pub use Rattle.icu_dimension_affixes.specs.UnitReading
pub use Rattle.icu_dimension_affixes.specs.UnitReadingLaws
pub use Rattle.icu_dimension_affixes.specs.UnitText
pub use Rattle.icu_dimension_affixes.specs.UnitTextLaws
-- What people type of numbers with a unit.
pub use Rattle.icu_dimension_lenient.specs.Agreement
pub use Rattle.icu_dimension_lenient.specs.GroupedUnitLaws
pub use Rattle.icu_dimension_lenient.specs.HeldPairs
pub use Rattle.icu_dimension_lenient.specs.LenientUnitLaws
pub use Rattle.icu_dimension_lenient.specs.LenientUnits
pub use Rattle.icu_dimension_lenient.specs.NativeUnitLaws
pub use Rattle.icu_dimension_lenient.specs.NativeUnits
pub use Rattle.icu_dimension_lenient.specs.OwnUnitTexts
pub use Rattle.icu_dimension_lenient.specs.TypedUnits
pub use Rattle.icu_dimension_lenient.specs.UnitReadings
-- Codes and digits of currencies, and rounding to them.
pub use Rattle.icu_dimension_fractions.specs.CurrencyCodes
pub use Rattle.icu_dimension_fractions.specs.FractionLaws
pub use Rattle.icu_dimension_fractions.specs.FractionMemory
pub use Rattle.icu_dimension_fractions.specs.FractionRounding
pub use Rattle.icu_dimension_fractions.specs.Fractions
