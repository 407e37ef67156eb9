-- The texts of values and of maps, entry by entry: as they are written, and how long they are.
use Rattle.std.proofs.Common.{◌≡◌, Bool, true, false, nat_eq, ℕ, ◌+◌, ◌<◌, ◌≤◌, List, [], ◌∷◌, ◌++◌, length, drop, get_or, sym, ap, ◌∙◌, append_assoc, arith, length-append}
use Rattle.std.specs.Prelude.{flat_map}
use Rattle.std.specs.Cmp.Lexicographic.{pointwise, texts_ties, bytes_decides}
use Rattle.std.specs.Ordering.{is_eq}
use Rattle.std.specs.declared.cmp.Ordering.{Ordering}
use Rattle.std.proofs.lemmas.List.{drop_more, drop_all}
use Rattle.std.proofs.lemmas.List.Concat.{flat_map-append}
use Rattle.writeable.specs.AnnotatedText.{bytes}
use Rattle.icu_locale_core_grammar.specs.Subtags.{Text}
use Rattle.icu_locale_core_grammar.specs.Collections.{Entry, text_cmp}
use Rattle.icu_locale_core_grammar.specs.Pieces.{hyphen, hyphened}
use Rattle.icu_locale_core_grammar.specs.NormalText.{entry_pieces}
use Rattle.icu_locale_core_subtag_lists.proofs.PrintingLemmas.{bytes_joined, no_bytes}
use Rattle.icu_locale_core_keywords_fields.specs.Values.{shown_value}
use Rattle.icu_locale_core_keywords_fields.specs.EntryText.{value_text, hyphened_value, entries_text, hyphened_entries}

module _ (needs : Bool) where
  -- the first entry, and those after it
  first_entry : (e : Entry) (es : List Entry) → hyphened_entries needs (e ∷ es) ≡ hyphened e.0 ++ (hyphened_value needs e.1 ++ hyphened_entries needs es)
  first_entry e es = ap (λ l. hyphened e.0 ++ l) (flat_map-append hyphened (shown_value needs e.1) (entry_pieces needs es))

  module _ (es : List Entry) (i : ℕ) where
    next_entry : (e : Entry) → i < length es → e ≡ get_or es i e
        → hyphened_entries needs (drop i es) ≡ hyphened e.0 ++ (hyphened_value needs e.1 ++ hyphened_entries needs (drop (i + 1) es))
    next_entry e within is =
        ap (hyphened_entries needs) (drop_more es i e within)
        ∙ ap (λ f. hyphened_entries needs (f ∷ drop (i + 1) es)) (sym is) ∙ first_entry e (drop (i + 1) es)

    pub next_entry_events : (e : Entry) → i < length es → e ≡ get_or es i e
        → bytes (hyphened_entries needs (drop i es)) ≡ (bytes (hyphen ∷ []) ++ (bytes e.0 ++ bytes (hyphened_value needs e.1))) ++ bytes (hyphened_entries needs (drop (i + 1) es))
    next_entry_events e within is =
        let rest = hyphened_entries needs (drop (i + 1) es) in
        ap bytes (next_entry e within is) ∙ bytes_joined (hyphen ∷ []) (e.0 ++ (hyphened_value needs e.1 ++ rest))
        ∙ ap (λ l. bytes (hyphen ∷ []) ++ l)
        (bytes_joined e.0 (hyphened_value needs e.1 ++ rest) ∙ ap (λ l. bytes e.0 ++ l) (bytes_joined (hyphened_value needs e.1) rest)
        ∙ sym (append_assoc (bytes e.0) (bytes (hyphened_value needs e.1)) (bytes rest)))
        ∙ sym (append_assoc (bytes (hyphen ∷ [])) (bytes e.0 ++ bytes (hyphened_value needs e.1)) (bytes rest))

    pub next_entry_length : (e : Entry) → i < length es → e ≡ get_or es i e
        → length (hyphened_entries needs (drop i es)) ≡ (length (hyphened_value needs e.1) + (length e.0 + 1)) + length (hyphened_entries needs (drop (i + 1) es))
    next_entry_length e within is =
        let rest = hyphened_entries needs (drop (i + 1) es) in
        ap length (next_entry e within is) ∙ length-append (hyphened e.0) (hyphened_value needs e.1 ++ rest)
        ∙ (let e1 : length (hyphened_value needs e.1 ++ rest) ≡ length (hyphened_value needs e.1) + length rest = length-append (hyphened_value needs e.1) rest in
        let e2 : length (hyphened e.0) ≡ length e.0 + 1 = omega arith in
        omega arith)

    -- past the last entry
    no_entry : length es ≤ i → hyphened_entries needs (drop i es) ≡ []
    no_entry past = ap (hyphened_entries needs) (drop_all i es past)

    pub no_entry_events : length es ≤ i → bytes (hyphened_entries needs (drop i es)) ≡ []
    no_entry_events past = ap bytes (no_entry past) ∙ no_bytes

    pub no_entry_length : length es ≤ i → length (hyphened_entries needs (drop i es)) ≡ 0
    no_entry_length past = ap length (no_entry past)

  -- ---- as a whole: the first piece without a hyphen

  pub value_written : (vs slice : List Text) (first : Text) (others : List Text) → slice ≡ vs → slice ≡ first ∷ others
      → bytes (value_text needs vs) ≡ bytes first ++ bytes (flat_map hyphened others)
  value_written vs slice first others same cut =
      ap (λ l. bytes (value_text needs l)) (sym same ∙ cut) ∙ bytes_joined first (flat_map hyphened others)

  pub value_unwritten : (vs slice : List Text) → slice ≡ vs → length slice ≡ 0 → needs ≡ false → bytes (value_text needs vs) ≡ []
  value_unwritten vs (v ∷ slice) same none lax = absurd (omega (arith, none))
  value_unwritten vs [] same none lax = ap (λ l. bytes (value_text needs l)) (sym same) ∙ ap (λ b. bytes (value_text b [])) lax ∙ no_bytes

  pub map_written : (es slice : List Entry) (first : Entry) (others : List Entry) → slice ≡ es → slice ≡ first ∷ others
      → bytes (entries_text needs es) ≡ (bytes first.0 ++ bytes (hyphened_value needs first.1)) ++ bytes (hyphened_entries needs others)
  map_written es slice first others same cut =
      let value = hyphened_value needs first.1 in
      let rest = hyphened_entries needs others in
      ap (λ l. bytes (entries_text needs l)) (sym same ∙ cut)
      ∙ ap (λ l. bytes (first.0 ++ l)) (flat_map-append hyphened (shown_value needs first.1) (entry_pieces needs others))
      ∙ bytes_joined first.0 (value ++ rest) ∙ ap (λ l. bytes first.0 ++ l) (bytes_joined value rest) ∙ sym (append_assoc (bytes first.0) (bytes value) (bytes rest))

  pub map_unwritten : (es slice : List Entry) → slice ≡ es → length slice ≡ 0 → bytes (entries_text needs es) ≡ []
  map_unwritten es (e ∷ slice) same none = absurd (omega (arith, none))
  map_unwritten es [] same none = ap (λ l. bytes (entries_text needs l)) (sym same) ∙ no_bytes

-- a text whose order against some bytes is Equal, and no other, is these bytes
pub told_equal : (written own bytes other : Text) (order : Ordering) (told : Bool) → written ≡ own → bytes ≡ other → order ≡ text_cmp written bytes → told ≡ is_eq order → (told ≡ true → own ≡ other) × (own ≡ other → told ≡ true)
told_equal written own bytes other order told same_text same_bytes compared answer =
    let decided : told ≡ pointwise nat_eq own other =
    answer ∙ ap is_eq compared ∙ sym (texts_ties written bytes) ∙ ap (λ t. pointwise nat_eq t bytes) same_text ∙ ap (pointwise nat_eq own) same_bytes in
    (λ yes. (bytes_decides own other).0 (sym decided ∙ yes), λ one. decided ∙ (bytes_decides own other).1 one)
