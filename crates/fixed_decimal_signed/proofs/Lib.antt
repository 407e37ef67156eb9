pub mod KnownValues
pub mod KnownRoundings
pub mod SignedOrderLemmas
pub mod SignedTextLemmas
pub mod WritingLemmas
pub use Rattle.fixed_decimal_unsigned.proofs.DigitsLemmas
pub use Rattle.fixed_decimal_unsigned.proofs.EqualityLemmas
pub use Rattle.fixed_decimal_unsigned.proofs.MantissaLemmas
pub use Rattle.fixed_decimal_unsigned.proofs.PrintedLemmas
pub use Rattle.fixed_decimal_unsigned.proofs.ReadOnceLemmas
pub use Rattle.fixed_decimal_unsigned.proofs.RoundingLemmas
pub use Rattle.fixed_decimal_unsigned.proofs.SpelledLemmas
pub use Rattle.fixed_decimal_unsigned.proofs.TenLemmas
pub use Rattle.fixed_decimal_unsigned.proofs.TextPartsLemmas
pub use Rattle.fixed_decimal_unsigned.proofs.WritingLemmas as UnsignedWritingLemmas
