-- One more slot of a type: `specs/AmountSlots.antt`.
use Rattle.std.proofs.Common.{◌≡◌, ◌<◌, ◌≤◌, ◌+◌, ℕ, true, false, List, drop, get_or, length, None, Some, option_map, refl, sym, ap, ◌∙◌, arith}
use Rattle.std.specs.Prelude.{suc, nat_le, option_and_then}
use Rattle.std.proofs.lemmas.Bool.Decides.{nat_tests}
use Rattle.serde_json.specs.Data.{Data, Items, item}
use Rattle.serde_json.specs.View.{items_view, view}
use Rattle.serde_json.specs.declared.value.Value.{Value}
use Rattle.icu_decimal.specs.declared.plurals.PluralCategory.{PluralCategory}
use Rattle.icu_decimal.specs.declared.plurals.PluralCategory.TheVariants.{Zero, One, Two, Few, Many, Other}
use Rattle.icu_dimension.specs.UnitPatterns.{PatternChoice}
use Rattle.icu_dimension_compact.specs.AmountTables.{AmountPatterns}
use Rattle.locale_numbers_tables.proofs.TableLemmas.{next_item}
use Rattle.locale_numbers_compact_amounts.specs.AmountSlots.{added, added_from, rank, slot_in}

-- what these are with further slots, whose categories rise from this place on
abbrev pub with_rest : ℕ → Items → AmountPatterns → AmountPatterns
with_rest least rest held = option_and_then (λ s. added_from least s rest) held

pub rank_small : (category : PluralCategory) → rank category ≤ 5
rank_small Other = omega arith
rank_small Zero = omega arith
rank_small One = omega arith
rank_small Two = omega arith
rank_small Few = omega arith
rank_small Many = omega arith

is_above : (least place : ℕ) → least ≤ place → nat_le least place ≡ true
is_above least place h = grind (arith, nat_tests)

is_below : (least place : ℕ) → place < least → nat_le least place ≡ false
is_below least place h = grind (arith, nat_tests)

module _ (least : ℕ) (d : Data) (ds : Items) where
  too_early : (held : AmountPatterns) (category : PluralCategory) (patterns : PatternChoice) → slot_in d ≡ Some (category, patterns)
      → nat_le least (rank category) ≡ false → with_rest least (item d ds) held ≡ None
  too_early None category patterns is below = refl
  too_early (Some s) category patterns is below = rw (is, below) refl

  next_added : (held : AmountPatterns) (category : PluralCategory) (patterns : PatternChoice) → slot_in d ≡ Some (category, patterns)
      → nat_le least (rank category) ≡ true
      → with_rest (suc (rank category)) ds (option_map (λ s. added s category patterns) held) ≡ with_rest least (item d ds) held
  next_added None category patterns is above = refl
  next_added (Some s) category patterns is above = rw (is, above) refl

-- the value at an index, which says this slot
module _ (values : List Value) (i : ℕ) (value : Value) (below : i < length values) (is : value ≡ get_or values i value)
    (category : PluralCategory) (patterns : PatternChoice) (reads : slot_in (view value) ≡ Some (category, patterns)) where
  here : (least : ℕ) (held : AmountPatterns)
      → with_rest least (items_view (drop i values)) held ≡ with_rest least (item (view value) (items_view (drop (i + 1) values))) held
  here least held = ap (λ xs. with_rest least (items_view xs) held) (next_item values i value below is)

  pub out_of_order : (least place : ℕ) (held : AmountPatterns) → place ≡ rank category → place < least
      → with_rest least (items_view (drop i values)) held ≡ None
  out_of_order least place held ranked early =
      here least held
      ∙ too_early least (view value) (items_view (drop (i + 1) values)) held category patterns reads (ap (nat_le least) (sym ranked) ∙ is_below least place early)

  pub one_added : (least place : ℕ) (held after : AmountPatterns) → place ≡ rank category → least ≤ place → after ≡ option_map (λ s. added s category patterns) held
      → with_rest (place + 1) (items_view (drop (i + 1) values)) after ≡ with_rest least (items_view (drop i values)) held
  one_added least place held after ranked above put =
      let rest : Items = items_view (drop (i + 1) values) in
      let next : place + 1 ≡ suc (rank category) = omega (arith, ranked) in
      ap (λ n. with_rest n rest after) next ∙ ap (λ a. with_rest (suc (rank category)) rest a) put
      ∙ next_added least (view value) rest held category patterns reads (ap (nat_le least) (sym ranked) ∙ is_above least place above)
      ∙ sym (here least held)

pub small_after : (category : PluralCategory) (place : ℕ) → place ≡ rank category → place + 1 ≤ 6
small_after category place ranked = let small = rank_small category in omega (arith, ranked, small)
