pub mod AmountTables
pub mod CompactAmounts
pub mod CompactAmountLaws
pub mod HeldAmounts
