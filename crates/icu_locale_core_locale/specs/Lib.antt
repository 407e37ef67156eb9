pub mod LocaleOrders
pub mod LocaleText
pub mod LocaleValue
pub mod ReadsBack
pub mod SameLocale
pub mod SameLocaleLaws
pub mod Allocation
pub mod StageView
