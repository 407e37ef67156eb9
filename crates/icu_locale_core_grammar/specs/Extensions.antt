-- How extensions are put together: a head, then keys with values; a singleton and the pieces after it.
-- UTS 35, sections 3.2, 3.6 and 3.7, and RFC 5646 (BCP 47), section 2.2.6; docs/tags.md, "Extensions".
-- Cited by the grammar of whole tags, and by every reader of an extension or of a part of one.
use Rattle.std.specs.Prelude.{◌≡◌, Bool, true, not, List, [], ◌∷◌, ◌++◌, map, filter, flat_map}
use Rattle.std.specs.List.{AllByRecursion}
use Rattle.icu_locale_core_grammar.specs.Subtags.{Text, is_value, is_true, lower}
use Rattle.icu_locale_core_grammar.specs.Collections.{Entry, Each, map_of}

-- ---- a head, and then entries

-- the key of an entry as it is written, and its values
abbrev pub spelled_entry : Entry → List Text
spelled_entry e = e.0 ∷ e.1

-- without `true`, and in lower case
abbrev pub value_meaning : List Text → List Text
value_meaning vs = map lower (filter (λ v. not (is_true v)) vs)

abbrev pub entry_meaning : Entry → Entry
entry_meaning e = (lower e.0, value_meaning e.1)

-- an entry may have no value at all, unless it needs one
abbrev pub has_enough : Bool → List Text → Bool
has_enough needs [] = not needs
has_enough needs (v ∷ vs) = true

pub record IsEntry (is_key : Text → Bool) (needs : Bool) (e : Entry) : Type 0 where
  pub key : is_key e.0 ≡ true
  pub values : Each is_value e.1
  pub enough : has_enough needs e.1 ≡ true

-- the meaning of a head and of the entries after it
pub record Headed (H : Type 0) : Type 0 where
  pub head : H
  pub entries : List Entry

-- these pieces are a head and entries, and they mean `m`
pub record MeansHeaded {H : Type 0} (MeansHead : List Text → H → Type 0) (is_key : Text → Bool) (needs : Bool) (ps : List Text) (m : Headed H) : Type 0 where
  pub head : List Text
  pub entries : List Entry
  pub parts : head ++ flat_map spelled_entry entries ≡ ps
  pub meant : MeansHead head m.head
  pub each : AllByRecursion (IsEntry is_key needs) entries
  pub keyed : map_of (map entry_meaning entries) ≡ m.entries

-- ---- blocks

-- a singleton, the pieces after it, and what they mean
pub record Block (V : Type 0) : Type 0 where
  pub singleton : Text
  pub body : List Text
  pub value : V

abbrev pub spelled_block : {V : Type 0} → Block V → List Text
spelled_block b = b.singleton ∷ b.body

-- the key of a block: its singleton in lower case
abbrev pub block_key : {V : Type 0} → Block V → Text
block_key b = lower b.singleton

-- the meaning of a whole tag: of its language part, its extensions and its private part
pub record Whole (I E : Type 0) : Type 0 where
  pub language : I
  pub extensions : E
  pub private_use : List Text
