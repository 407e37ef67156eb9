-- One more unit of an entry: `specs/Entries.antt`.
use Rattle.std.proofs.Common.{◌≡◌, ℕ, true, List, [], ◌∷◌, ◌++◌, append_assoc, Option, None, Some, is_some, option_map, refl, sym, ap, ◌∙◌}
use Rattle.std.specs.Prelude.{option_and_then}
use Rattle.std.proofs.lemmas.List.{append-nil}
use Rattle.std.specs.Str.{bytes_eq}
use Rattle.locale_numbers_tables.specs.Keys.{has_no_key_twice, table_at}
use Rattle.locale_numbers_tables.proofs.TableLemmas.{moved, once_more, twice}
use Rattle.locale_numbers_words.specs.Entries.{UnitList, UnitTexts, all_named, keyed, unit_at}
use Rattle.locale_numbers_words.specs.SlotTexts.{same_name_equiv}
use Rattle.locale_numbers_words.specs.UnitNames.{unit_name_in}

abbrev pub ReadUnits : Type 0
ReadUnits = List (Option (List ℕ) × UnitTexts)

-- the units so far, and what is left of them
abbrev pub IsLeft : ReadUnits → UnitList → ReadUnits → Type 0
IsLeft units done rest = all_named units ≡ option_map (λ (left : UnitList). done ++ left) (all_named rest)

units_more : (units rest : ReadUnits) (done : UnitList) (name : List ℕ) (texts : UnitTexts) → IsLeft units done ((Some name, texts) ∷ rest)
    → IsLeft units (done ++ (name, texts) ∷ []) rest
units_more units rest done name texts all = all ∙ moved (name, texts) done (all_named rest)

pub units_added : (units rest : ReadUnits) (done after : UnitList) (name : List ℕ) (texts : UnitTexts) → IsLeft units done ((Some name, texts) ∷ rest)
    → after ≡ done ++ (name, texts) ∷ [] → IsLeft units after rest
units_added units rest done after name texts all added =
    units_more units rest done name texts all
    ∙ ap (λ (now : UnitList). option_map (λ (left : UnitList). now ++ left) (all_named rest)) (sym added)

pub units_unnamed : (units rest : ReadUnits) (done : UnitList) (texts : UnitTexts) → IsLeft units done ((None, texts) ∷ rest) → None ≡ keyed units
units_unnamed units rest done texts all = rw all refl

units_doubled : (units : ReadUnits) (done : UnitList) (name : List ℕ) (texts : UnitTexts) (left : Option UnitList)
    → all_named units ≡ option_map (λ (more : UnitList). (done ++ (name, texts) ∷ []) ++ more) left → is_some (table_at bytes_eq name done) ≡ true → None ≡ keyed units
units_doubled units done name texts None all there = rw all refl
units_doubled units done name texts (Some more) all there =
    rw (all, append_assoc, twice bytes_eq same_name_equiv.symm done name texts more there) refl

pub units_twice : (units rest : ReadUnits) (done : UnitList) (name : List ℕ) (texts : UnitTexts) → IsLeft units done ((Some name, texts) ∷ rest)
    → is_some (table_at bytes_eq name done) ≡ true → None ≡ keyed units
units_twice units rest done name texts all there = units_doubled units done name texts (all_named rest) (units_more units rest done name texts all) there

pub units_once : (done after : UnitList) (name : List ℕ) (texts : UnitTexts) → after ≡ done ++ (name, texts) ∷ [] → table_at bytes_eq name done ≡ None
    → has_no_key_twice bytes_eq done ≡ true → has_no_key_twice bytes_eq after ≡ true
units_once done after name texts added fresh once =
    ap (has_no_key_twice bytes_eq) added ∙ once_more bytes_eq same_name_equiv.symm done name texts fresh once

pub units_whole : (units : ReadUnits) (done : UnitList) → IsLeft units done [] → has_no_key_twice bytes_eq done ≡ true → Some done ≡ keyed units
units_whole units done all once = rw (all, append-nil, once) refl

-- a unit under its name
pub unit_found : (unit name : List ℕ) (units : UnitList) (found : Option UnitTexts) → Some name ≡ unit_name_in unit → found ≡ table_at bytes_eq name units
    → found ≡ unit_at unit units
unit_found unit name units found named is = is ∙ ap (option_and_then (λ n. table_at bytes_eq n units)) named
