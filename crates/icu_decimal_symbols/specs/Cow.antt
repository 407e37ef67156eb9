-- The value that is borrowed or owned.
-- Defined in docs/formatters.md, "Borrowed or owned".
-- Cited by the impls of `Cow`.
use Rattle.icu_decimal_symbols.specs.declared.cow.Cow.{Cow}

abbrev pub held : {T : Type 0} → Cow T → T
held (Cow.Borrowed borrowed) = borrowed.now
held (Cow.Owned value) = value
