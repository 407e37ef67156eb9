-- A slot whose name and pattern are borrowed.
-- Defined in docs/compact-text.md, "The JSON form".
-- Cited by the private steps of `to_json`.
use Rattle.std.specs.Prelude.{option_map}
use Rattle.icu_decimal_patterns.specs.declared.json.written.NamedSlot.{NamedSlot}
use Rattle.icu_decimal_patterns.specs.TableJson.{Slot}

abbrev pub held_slot : NamedSlot → Slot
held_slot slot = (slot.name.now, option_map (λ p. p.now) slot.pattern)
