-- What a reader must believe: what preferences ask for, which tables a formatter has, and what it writes.
pub mod Preferences
pub mod Identifiers
pub mod Choice
pub mod FoundTables
pub mod CompactTables
pub mod FoundCompactTables
pub mod CompactText
pub mod ExactText
pub mod AbstractText
pub mod FormattedNumbers
pub mod WriteFaults
-- What a formatter holds.
pub mod HeldTables
pub mod HeldCompact
-- Steps.
pub mod PatternAt
-- Statements of laws.
pub mod Laws
pub mod FoundLaws
pub mod AbstractLaws
pub mod CompactLaws
-- What a reader must believe of the inner crates: which tables are asked for, plural rules, patterns, the value that compact
-- text shows, and the text of a number with its parts.
pub use Rattle.icu_decimal_chains.specs.Chains
pub use Rattle.icu_decimal_patterns.specs.Elements
pub use Rattle.icu_decimal_patterns.specs.KeptEntries
pub use Rattle.icu_decimal_patterns.specs.Pattern
pub use Rattle.icu_decimal_patterns.specs.SlotsJson
pub use Rattle.icu_decimal_patterns.specs.TableJson
pub use Rattle.icu_decimal_patterns.specs.TextlessElements
pub use Rattle.icu_decimal_plurals.specs.Categories
pub use Rattle.icu_decimal_plurals.specs.ConditionGrammar
pub use Rattle.icu_decimal_plurals.specs.Conditions
pub use Rattle.icu_decimal_plurals.specs.ExactNumbers
pub use Rattle.icu_decimal_plurals.specs.ListedRules
pub use Rattle.icu_decimal_plurals.specs.Operands
pub use Rattle.icu_decimal_plurals.specs.Reading
pub use Rattle.icu_decimal_plurals.specs.Rules
pub use Rattle.icu_decimal_plurals.specs.Tokens
pub use Rattle.icu_decimal_symbols.specs.Cow
pub use Rattle.icu_decimal_symbols.specs.DataErrors
pub use Rattle.icu_decimal_symbols.specs.Options
pub use Rattle.icu_decimal_symbols.specs.Symbols
pub use Rattle.icu_decimal_reading.specs.DecimalOfText
pub use Rattle.icu_decimal_reading.specs.PlainReading
pub use Rattle.icu_decimal_reading.specs.Readable
pub use Rattle.icu_decimal_reading.specs.ReadErrors
pub use Rattle.icu_decimal_lenient.specs.Folding
pub use Rattle.icu_decimal_lenient.specs.LenientReading
pub use Rattle.icu_decimal_lenient.specs.Native
pub use Rattle.icu_decimal_lenient.specs.TypedReading
pub use Rattle.icu_decimal_compact_value.specs.Choice as ShownChoice
pub use Rattle.icu_decimal_compact_value.specs.Entries
pub use Rattle.icu_decimal_compact_value.specs.ExactForms
pub use Rattle.icu_decimal_compact_value.specs.Significand
pub use Rattle.icu_decimal_compact_value.specs.ShownValue
pub use Rattle.icu_decimal_compact_value.specs.Steps
pub use Rattle.icu_decimal_plain.specs.Affixes
pub use Rattle.icu_decimal_grouping.specs.Grouper
pub use Rattle.icu_decimal_plain.specs.PartIntervals
pub use Rattle.icu_decimal_plain.specs.PlainText
-- What a pattern and a value with a sign hold.
pub use Rattle.icu_decimal_patterns.specs.HeldPattern
pub use Rattle.icu_decimal_plain.specs.BorrowedTables
pub use Rattle.icu_decimal_plain.specs.HeldAffixes
-- Equality of symbols, of patterns and of formatted numbers.
pub use Rattle.icu_decimal_patterns.specs.SameElements
pub use Rattle.icu_decimal_patterns.specs.SamePattern
pub use Rattle.icu_decimal_patterns.specs.SameTable
-- How a table keeps its entries, for the crates above.
pub use Rattle.icu_decimal_patterns.specs.KeptSteps
pub use Rattle.icu_decimal_symbols.specs.SameSymbols
pub use Rattle.icu_decimal_plain.specs.SameAffixes
pub use Rattle.icu_decimal_plain.specs.SamePlain
-- Statements of their laws.
pub use Rattle.icu_decimal_patterns.specs.SmallEntries
pub use Rattle.icu_decimal_patterns.specs.TableLaws
pub use Rattle.icu_decimal_reading.specs.ReadingLaws
pub use Rattle.icu_decimal_lenient.specs.LenientLaws
pub use Rattle.icu_decimal_lenient.specs.TypedLaws
pub use Rattle.icu_decimal_compact_value.specs.ExactLaws
pub use Rattle.icu_decimal_compact_value.specs.ShownLaws
pub use Rattle.icu_decimal_compact_value.specs.UnderTableLaws
pub use Rattle.icu_decimal_symbols.specs.SameSymbolsLaws
pub use Rattle.icu_decimal_grouping.specs.GroupLaws
pub use Rattle.icu_decimal_plain.specs.PartLaws
pub use Rattle.icu_decimal_plain.specs.TextLaws
