-- What a map ends as, where a `&mut` to one of its values is returned.
-- Defined in docs/tags.md, "Keywords and fields as values".
-- Cited by `get_mut`.
use Rattle.std.specs.Prelude.{Bool, Option, List}
use Rattle.std.specs.Borrow.{Lends, LendsIf, Fml, RattleType, MutBor}
use Rattle.icu_locale_core_subtags.specs.declared.rule.SubtagRule.{Ghosts as RuleGhosts}
use Rattle.icu_locale_core_grammar.specs.Subtags.{Text}
use Rattle.icu_locale_core_grammar.specs.Collections.{Entry}
use Rattle.icu_locale_core_keywords_fields.specs.EntryChanges.{set_entry}
use Rattle.icu_locale_core_keywords_fields.specs.contracts.entries.EntriesOf.{the_row as map_row}
use Rattle.icu_locale_core_keywords_fields.specs.contracts.value.ValueOf.{the_row as value_row}

module _ (K : RattleType) (needs : Bool) (rule : RuleGhosts K.Denot 2) (m : MutBor (List Entry)) (key : Text) where
  -- once the borrow r ends, the key has the last value written through r
  abbrev pub lends_value : MutBor (List Text) → Fml
  lends_value r = Lends (map_row K (record { needs = needs }) rule) (value_row K (record { needs = needs }) rule) m r (λ value. set_entry (key, value) m.now)

  -- the same where r is a reference, and at `None` the map stays as it is
  abbrev pub lends_get : Option (MutBor (List Text)) → Fml
  lends_get r = LendsIf (map_row K (record { needs = needs }) rule) (value_row K (record { needs = needs }) rule) m r (λ value. set_entry (key, value) m.now) m.now
