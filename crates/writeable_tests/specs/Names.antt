-- The names of the two parts that the rows use.
-- Defined here.
-- Cited by the value of `fakes`.
use Rattle.std.specs.Prelude.{codes}
use Rattle.writeable.specs.PartName.{PartName}

-- the part around the text
abbrev pub outer : PartName
outer = record { category = codes "test"; value = codes "A" }

-- the part around the comma
abbrev pub inner : PartName
inner = record { category = codes "test"; value = codes "B" }
