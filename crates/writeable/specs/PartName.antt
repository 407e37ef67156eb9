-- What a part is called: its category and its value, as texts.
-- Defined in docs/annotated-text.md, "Parts"; the two texts are those of ICU4X's `Part`.
-- Cited by `Sink::open_part` and by `PartsSink::parts`.
use Rattle.std.specs.Prelude.{ℕ, List}
use Rattle.writeable.specs.declared.part.Part.{Part}

-- the two texts of a part
pub record PartName : Type 0 where
  pub category : List ℕ
  pub value : List ℕ

-- the name of a part, wherever its texts are stored
abbrev pub name_of : Part → PartName
name_of p = record { category = p.category.now; value = p.value.now }
