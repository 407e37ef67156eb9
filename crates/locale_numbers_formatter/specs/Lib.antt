-- What a reader must believe: the layers of a text, what is shown, its parts, and what a text is read as.
pub mod Layers
pub mod CompactDigits
pub mod FormatText
pub mod ExactForms
pub mod ShownOperands
pub mod FormatParts
pub mod FormatReading
pub mod TypedPlain
pub mod TypedUnits
pub mod FormatTyped
pub mod Regrouped
pub mod ExactErrors
-- What formatters hold, and what is written.
pub mod HeldFormats
pub mod HeldDigits
pub mod HeldScientific
pub mod HeldShown
pub mod HeldLenientReaders
pub mod HeldNumberReaders
pub mod HeldTables
pub mod HeldTypedUnits
pub mod JoinedUnit
pub mod FormattedNumbers
-- Statements of laws.
pub mod Laws
pub mod ReadingLaws
pub mod SignificandLaws
pub mod OwnUnitLaws
