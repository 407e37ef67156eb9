-- What is wrong with an entry of patterns, put together from its parts: `specs/CompactSteps.antt`.
use Rattle.std.proofs.Common.{◌≡◌, Bool, true, false, ◌&&◌, [], ◌∷◌, Option, None, Some, is_some, refl, sym, ◌∙◌}
use Rattle.std.specs.Option.{option_or}
use Rattle.serde_json.specs.Data.{Data}
use Rattle.locale_numbers_faults.specs.declared.BookError.{BookError}
use Rattle.locale_numbers_faults.specs.declared.BookError.TheVariants.{Shape, Tag, System, Text, Types, Exponents}
use Rattle.locale_numbers_tables.specs.CompactEntries.{compact_of, has_plain_patterns, rise_from, rows_in, rows_of, zero_in}
use Rattle.locale_numbers_tables.specs.CompactSteps.{has_table_shape, key_or_text_fault, table_fault}
use Rattle.locale_numbers_tables.specs.Entries.{field_at, has_count, is_text_at}
use Rattle.locale_numbers_tables.specs.Faults.{compact_fault, first_broken, has_locale}
use Rattle.locale_numbers_tables.specs.Fields.{system_or_none_in}
use Rattle.locale_numbers_tables.specs.Telling.{IsTold}
use Rattle.locale_numbers_tables.specs.Allocation.{compact_may_grow}
use Rattle.locale_numbers_tables.proofs.FaultLemmas.{told_at, told_first}

abbrev whole : Bool → Bool → Bool → Bool → Bool → Bool → Bool → Bool → Bool → Bool → Option BookError
whole n a b r z t s x u e = first_broken ((Shape, n && a && b && r && z) ∷ (Tag, t) ∷ (System, s) ∷ (Text, x) ∷ (Types, u) ∷ (Exponents, e) ∷ [])

abbrev of_key : Bool → Bool → Bool → Option BookError
of_key t s x = first_broken ((Tag, t) ∷ (System, s) ∷ (Text, x) ∷ [])

-- with a key without a fault it is that of the table
by_table : (n a b r z t s x u e : Bool) → (n && a && b) ≡ true → of_key t s x ≡ None
    → whole n a b r z t s x u e ≡ first_broken ((Shape, r && z) ∷ (Types, u) ∷ (Exponents, e) ∷ [])
by_table true true true r z true true true u e frame key = refl
by_table true true true r z true true false u e frame key = cc
by_table true true true r z true false x u e frame key = cc
by_table true true true r z false s x u e frame key = cc
by_table true true false r z t s x u e frame key = cc
by_table true false b r z t s x u e frame key = cc
by_table false a b r z t s x u e frame key = cc

-- and with a table of the right shape that of the key comes first
by_key : (n a b r z t s x u e : Bool) → (n && a && b) ≡ true → (r && z) ≡ true
    → whole n a b r z t s x u e ≡ option_or (of_key t s x) (first_broken ((Types, u) ∷ (Exponents, e) ∷ []))
by_key true true true true true true true true u e frame shape = refl
by_key true true true true true true true false u e frame shape = refl
by_key true true true true true true false x u e frame shape = refl
by_key true true true true true false s x u e frame shape = refl
by_key true true true true false t s x u e frame shape = cc
by_key true true true false z t s x u e frame shape = cc
by_key true true false r z t s x u e frame shape = cc
by_key true false b r z t s x u e frame shape = cc
by_key false a b r z t s x u e frame shape = cc

-- an entry of another frame, or a table of another shape
by_frame : (n a b r z t s x u e : Bool) → (n && a && b) ≡ false → whole n a b r z t s x u e ≡ Some Shape
by_frame true true true r z t s x u e frame = cc
by_frame true true false r z t s x u e frame = refl
by_frame true false b r z t s x u e frame = refl
by_frame false a b r z t s x u e frame = refl

by_shape : (n a b r z t s x u e : Bool) → (r && z) ≡ false → whole n a b r z t s x u e ≡ Some Shape
by_shape true true true true true t s x u e shape = cc
by_shape true true true true false t s x u e shape = refl
by_shape true true true false z t s x u e shape = refl
by_shape true true false r z t s x u e shape = refl
by_shape true false b r z t s x u e shape = refl
by_shape false a b r z t s x u e shape = refl

module _ (entry : Data) where
  as_table : compact_may_grow entry ≡ true → key_or_text_fault entry ≡ None → compact_fault entry ≡ table_fault entry
  as_table frame key =
      by_table (has_count 4 entry) (is_text_at 0 entry) (is_text_at 1 entry) (is_some (field_at rows_in 2 entry)) (is_some (field_at zero_in 3 entry))
      (has_locale entry) (is_some (field_at system_or_none_in 1 entry)) (has_plain_patterns entry) (rise_from 0 (rows_of entry)) (is_some (compact_of entry)) frame key

  pub sound_whole : compact_may_grow entry ≡ true → key_or_text_fault entry ≡ None → table_fault entry ≡ None → compact_fault entry ≡ None
  sound_whole frame key table = as_table frame key ∙ table

  pub told_table : (e : BookError) → compact_may_grow entry ≡ true → key_or_text_fault entry ≡ None → IsTold (table_fault entry) e → IsTold (compact_fault entry) e
  told_table e frame key told = told_at _ _ e (sym (as_table frame key)) told

  pub told_key : (e : BookError) → compact_may_grow entry ≡ true → has_table_shape entry ≡ true → IsTold (key_or_text_fault entry) e → IsTold (compact_fault entry) e
  told_key e frame shape told =
      told_at _ _ e
      (sym (by_key (has_count 4 entry) (is_text_at 0 entry) (is_text_at 1 entry) (is_some (field_at rows_in 2 entry)) (is_some (field_at zero_in 3 entry))
      (has_locale entry) (is_some (field_at system_or_none_in 1 entry)) (has_plain_patterns entry) (rise_from 0 (rows_of entry)) (is_some (compact_of entry)) frame shape))
      (told_first (key_or_text_fault entry) _ e told)

  pub no_frame : compact_may_grow entry ≡ false → compact_fault entry ≡ Some Shape
  no_frame frame =
      by_frame (has_count 4 entry) (is_text_at 0 entry) (is_text_at 1 entry) (is_some (field_at rows_in 2 entry)) (is_some (field_at zero_in 3 entry))
      (has_locale entry) (is_some (field_at system_or_none_in 1 entry)) (has_plain_patterns entry) (rise_from 0 (rows_of entry)) (is_some (compact_of entry)) frame

  pub no_shape : has_table_shape entry ≡ false → compact_fault entry ≡ Some Shape
  no_shape shape =
      by_shape (has_count 4 entry) (is_text_at 0 entry) (is_text_at 1 entry) (is_some (field_at rows_in 2 entry)) (is_some (field_at zero_in 3 entry))
      (has_locale entry) (is_some (field_at system_or_none_in 1 entry)) (has_plain_patterns entry) (rise_from 0 (rows_of entry)) (is_some (compact_of entry)) shape
