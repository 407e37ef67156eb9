-- What is wrong with an entry, put together from its parts: `specs/AmountEntries.antt`.
use Rattle.std.proofs.Common.{◌≡◌, Bool, true, false, ◌&&◌, [], ◌∷◌, Option, None, Some, is_some, refl, sym, ◌∙◌}
use Rattle.std.specs.Option.{option_or}
use Rattle.serde_json.specs.Data.{Data}
use Rattle.icu_dimension_compact.specs.AmountTables.{fit_from, rise_from}
use Rattle.locale_numbers_compact_amounts.specs.AmountEntries.{amounts_fault, has_frame, has_types, key_fault, types_fault, types_of}
use Rattle.locale_numbers_words.specs.PlainTexts.{is_plain}
use Rattle.locale_numbers_tables.specs.declared.BookError.{BookError}
use Rattle.locale_numbers_tables.specs.declared.BookError.TheVariants.{Shape, Tag, System, Text, Types, Exponents}
use Rattle.locale_numbers_tables.specs.Entries.{field_at}
use Rattle.locale_numbers_tables.specs.Faults.{first_broken, has_locale}
use Rattle.locale_numbers_tables.specs.Fields.{system_or_none_in}
use Rattle.locale_numbers_tables.specs.Telling.{IsTold}
use Rattle.locale_numbers_tables.proofs.FaultLemmas.{told_at, told_first}

abbrev whole : Bool → Bool → Bool → Bool → Bool → Bool → Bool → Option BookError
whole f r t s x u e = first_broken ((Shape, f && r) ∷ (Tag, t) ∷ (System, s) ∷ (Text, x) ∷ (Types, u) ∷ (Exponents, e) ∷ [])

abbrev of_key : Bool → Bool → Bool → Option BookError
of_key t s x = first_broken ((Tag, t) ∷ (System, s) ∷ (Text, x) ∷ [])

-- with a key without a fault it is that of the types
by_types : (f r t s x u e : Bool) → f ≡ true → of_key t s x ≡ None → whole f r t s x u e ≡ first_broken ((Shape, r) ∷ (Types, u) ∷ (Exponents, e) ∷ [])
by_types true r true true true u e frame key = refl
by_types true r true true false u e frame key = cc
by_types true r true false x u e frame key = cc
by_types true r false s x u e frame key = cc
by_types false r t s x u e frame key = cc

-- and with types of the right shape that of the key comes first
by_key : (f r t s x u e : Bool) → f ≡ true → r ≡ true → whole f r t s x u e ≡ option_or (of_key t s x) (first_broken ((Types, u) ∷ (Exponents, e) ∷ []))
by_key true true true true true u e frame shape = refl
by_key true true true true false u e frame shape = refl
by_key true true true false x u e frame shape = refl
by_key true true false s x u e frame shape = refl
by_key true false t s x u e frame shape = cc
by_key false r t s x u e frame shape = cc

-- an entry of another frame, or types of another shape
by_frame : (f r t s x u e : Bool) → f ≡ false → whole f r t s x u e ≡ Some Shape
by_frame true r t s x u e frame = cc
by_frame false r t s x u e frame = refl

by_shape : (f r t s x u e : Bool) → r ≡ false → whole f r t s x u e ≡ Some Shape
by_shape f true t s x u e shape = cc
by_shape true false t s x u e shape = refl
by_shape false false t s x u e shape = refl

module _ (entry : Data) where
  abbrev rise : Bool
  rise = rise_from 0 (types_of entry).entries

  abbrev fit : Bool
  fit = fit_from 0 (types_of entry).entries

  abbrev system : Bool
  system = is_some (field_at system_or_none_in 1 entry)

  as_types : has_frame entry ≡ true → key_fault entry ≡ None → amounts_fault entry ≡ types_fault entry
  as_types frame key = by_types (has_frame entry) (has_types entry) (has_locale entry) system (is_plain entry) rise fit frame key

  pub sound_whole : has_frame entry ≡ true → key_fault entry ≡ None → types_fault entry ≡ None → amounts_fault entry ≡ None
  sound_whole frame key types = as_types frame key ∙ types

  pub told_table : (e : BookError) → has_frame entry ≡ true → key_fault entry ≡ None → IsTold (types_fault entry) e → IsTold (amounts_fault entry) e
  told_table e frame key told = told_at _ _ e (sym (as_types frame key)) told

  pub told_key : (e : BookError) → has_frame entry ≡ true → has_types entry ≡ true → IsTold (key_fault entry) e → IsTold (amounts_fault entry) e
  told_key e frame shape told =
      told_at _ _ e (sym (by_key (has_frame entry) (has_types entry) (has_locale entry) system (is_plain entry) rise fit frame shape))
      (told_first (key_fault entry) _ e told)

  pub no_frame : has_frame entry ≡ false → amounts_fault entry ≡ Some Shape
  no_frame frame = by_frame (has_frame entry) (has_types entry) (has_locale entry) system (is_plain entry) rise fit frame

  pub no_shape : has_types entry ≡ false → amounts_fault entry ≡ Some Shape
  no_shape shape = by_shape (has_frame entry) (has_types entry) (has_locale entry) system (is_plain entry) rise fit shape
