-- What is wrong with an entry, after its shape, its locale and its texts: `specs/Entries.antt`.
use Rattle.std.proofs.Common.{◌≡◌, Bool, true, false, ◌&&◌, List, ℕ, [], ◌∷◌, Option, None, Some, is_some, refl, ap, ◌∙◌}
use Rattle.std.proofs.Math.Bool.{and-false}
use Rattle.serde_json.specs.Data.{Data}
use Rattle.icu_dimension_words.specs.Words.{Pair}
use Rattle.locale_numbers_tables.specs.Entries.{field_at}
use Rattle.locale_numbers_words.specs.Categories.{Values}
use Rattle.locale_numbers_words.specs.declared.error.WordsError.{WordsError}
use Rattle.locale_numbers_words.specs.declared.error.WordsError.TheVariants.{Shape, Tag, Text, Duplicate, Unit, Code, Measure}
use Rattle.locale_numbers_words.specs.Entries.{UnitList, UnitTexts, code_in, has_names_frame, has_patterns_frame, has_units_frame, key_fault, locale_key, names_fault, names_said, pairs_in, patterns_fault, patterns_said, placed, same_names, same_pairs, same_units, tagged_fault, units_fault, units_read, units_said}
use Rattle.locale_numbers_words.specs.Faults.{IsTold, agrees, said_fault}
use Rattle.locale_numbers_words.specs.PlainTexts.{is_plain}
use Rattle.locale_numbers_words.proofs.FaultLemmas.{last_one, last_two, no_shape, past_four, past_three, told_ahead, told_ahead_code}

-- ---- name patterns

module _ (entry : Data) (earlier : Option (Values Pair)) where
  abbrev patterns_rest : List (WordsError × Bool)
  patterns_rest = (Duplicate, agrees same_pairs earlier (patterns_said entry)) ∷ (Unit, is_some (patterns_said entry)) ∷ []

  pub patterns_late : (pairs : Values Pair) → has_patterns_frame entry ≡ true → pairs_in entry ≡ Some pairs → tagged_fault entry ≡ None
      → patterns_fault earlier entry ≡ said_fault same_pairs Unit earlier (placed pairs)
  patterns_late pairs frame reads sound =
      past_three (has_patterns_frame entry && is_some (pairs_in entry)) (is_some (locale_key entry)) (is_plain entry) patterns_rest (rw (frame, reads) refl) sound
      ∙ last_two same_pairs Unit earlier (patterns_said entry)
      ∙ ap (said_fault same_pairs Unit earlier) (rw reads refl)

  pub patterns_told : (pairs : Values Pair) (e : WordsError) → has_patterns_frame entry ≡ true → pairs_in entry ≡ Some pairs → IsTold (tagged_fault entry) e
      → IsTold (patterns_fault earlier entry) e
  patterns_told pairs e frame reads told =
      told_ahead (has_patterns_frame entry && is_some (pairs_in entry)) (is_some (locale_key entry)) (is_plain entry) patterns_rest e (rw (frame, reads) refl) told

  pub patterns_frame : has_patterns_frame entry ≡ false → patterns_fault earlier entry ≡ Some Shape
  patterns_frame frame = no_shape (has_patterns_frame entry && is_some (pairs_in entry)) ((Tag, is_some (locale_key entry)) ∷ (Text, is_plain entry) ∷ patterns_rest) (rw frame refl)

  pub patterns_none : pairs_in entry ≡ None → patterns_fault earlier entry ≡ Some Shape
  patterns_none none = no_shape (has_patterns_frame entry && is_some (pairs_in entry)) ((Tag, is_some (locale_key entry)) ∷ (Text, is_plain entry) ∷ patterns_rest) (rw none (and-false (has_patterns_frame entry)))

-- ---- names

module _ (entry : Data) (earlier : Option (Values (List ℕ))) where
  abbrev names_rest : List (WordsError × Bool)
  names_rest = (Duplicate, agrees same_names earlier (names_said entry)) ∷ []

  pub names_late : (names : Values (List ℕ)) → has_names_frame entry ≡ true → names_said entry ≡ Some names → key_fault entry ≡ None
      → names_fault earlier entry ≡ said_fault same_names Shape earlier (Some names)
  names_late names frame reads sound =
      past_four (has_names_frame entry && is_some (names_said entry)) (is_some (locale_key entry)) (is_plain entry) (is_some (field_at code_in 1 entry)) names_rest (rw (frame, reads) refl) sound
      ∙ rw reads (last_one same_names Shape earlier names)

  pub names_told : (names : Values (List ℕ)) (e : WordsError) → has_names_frame entry ≡ true → names_said entry ≡ Some names → IsTold (key_fault entry) e
      → IsTold (names_fault earlier entry) e
  names_told names e frame reads told =
      told_ahead_code (has_names_frame entry && is_some (names_said entry)) (is_some (locale_key entry)) (is_plain entry) (is_some (field_at code_in 1 entry)) names_rest e (rw (frame, reads) refl) told

  pub names_frame : has_names_frame entry ≡ false → names_fault earlier entry ≡ Some Shape
  names_frame frame = no_shape (has_names_frame entry && is_some (names_said entry)) ((Tag, is_some (locale_key entry)) ∷ (Text, is_plain entry) ∷ (Code, is_some (field_at code_in 1 entry)) ∷ names_rest) (rw frame refl)

  pub names_none : names_said entry ≡ None → names_fault earlier entry ≡ Some Shape
  names_none none = no_shape (has_names_frame entry && is_some (names_said entry)) ((Tag, is_some (locale_key entry)) ∷ (Text, is_plain entry) ∷ (Code, is_some (field_at code_in 1 entry)) ∷ names_rest) (rw none (and-false (has_names_frame entry)))

-- ---- units

module _ (entry : Data) (earlier : Option UnitList) where
  abbrev units_rest : List (WordsError × Bool)
  units_rest = (Duplicate, agrees same_units earlier (units_said entry)) ∷ (Measure, is_some (units_said entry)) ∷ []

  pub units_late : (units : List (Option (List ℕ) × UnitTexts)) (said : Option UnitList) → has_units_frame entry ≡ true → units_read entry ≡ Some units
      → tagged_fault entry ≡ None → units_said entry ≡ said → units_fault earlier entry ≡ said_fault same_units Measure earlier said
  units_late units said frame reads sound says =
      past_three (has_units_frame entry && is_some (units_read entry)) (is_some (locale_key entry)) (is_plain entry) units_rest (rw (frame, reads) refl) sound
      ∙ last_two same_units Measure earlier (units_said entry)
      ∙ ap (said_fault same_units Measure earlier) says

  pub units_told : (units : List (Option (List ℕ) × UnitTexts)) (e : WordsError) → has_units_frame entry ≡ true → units_read entry ≡ Some units
      → IsTold (tagged_fault entry) e → IsTold (units_fault earlier entry) e
  units_told units e frame reads told =
      told_ahead (has_units_frame entry && is_some (units_read entry)) (is_some (locale_key entry)) (is_plain entry) units_rest e (rw (frame, reads) refl) told

  pub units_frame : has_units_frame entry ≡ false → units_fault earlier entry ≡ Some Shape
  units_frame frame = no_shape (has_units_frame entry && is_some (units_read entry)) ((Tag, is_some (locale_key entry)) ∷ (Text, is_plain entry) ∷ units_rest) (rw frame refl)

  pub units_none : units_read entry ≡ None → units_fault earlier entry ≡ Some Shape
  units_none none = no_shape (has_units_frame entry && is_some (units_read entry)) ((Tag, is_some (locale_key entry)) ∷ (Text, is_plain entry) ∷ units_rest) (rw none (and-false (has_units_frame entry)))
