-- A table is the table of the types that it holds; types make one table, and a JSON value says one.
use Rattle.std.proofs.Common.{◌≡◌, ◌≤◌, ℕ, List, [], ◌∷◌, map, length, IsSomeAnd, Option, None, Some, refl, sym, ap, ◌∙◌, subst, inl, inr, arith}
use Rattle.std.proofs.lemmas.List.{length-map}
use Rattle.icu_decimal_compact_value.specs.declared.entry.CompactEntry.{CompactEntry}
use Rattle.icu_decimal_compact_value.specs.Entries.{Rises}
use Rattle.icu_decimal_patterns.specs.Elements.{without_one}
use Rattle.icu_decimal_patterns.specs.KeptEntries.{IsOwnTable, IsTable, Keeps, NeverFalls, Patterns, TypePatterns, entry_in, first_fault, table_of, types_held}
use Rattle.icu_decimal_patterns.specs.KeptSteps.{TypesRise, kept_of}
use Rattle.icu_decimal_patterns.specs.TableJson.{types_of}
use Rattle.icu_decimal_patterns.specs.TableLaws.{OneTableIsMade, OneTableIsSaid}
use Rattle.icu_decimal_patterns.proofs.KeptLemmas.{keeps_kept, keeps_one, kept_rises}

-- ---- what is kept of what was kept

keeps_again : (base : Option Patterns) (xs ks : List TypePatterns) → Keeps base xs ks → Keeps base ks ks
keeps_again base [] ks none = subst (λ k. Keeps base k k) (sym none) refl
keeps_again base (x ∷ xs) ks (inl skipped) = keeps_again base xs ks skipped.1
keeps_again base (x ∷ xs) ks (inr kept) =
    subst (λ k. Keeps base k k) (sym kept.2) (inr (kept.0, kept.1, refl, keeps_again (Some (without_one x.patterns)) xs kept.1 kept.3))

-- and where nothing is written before the first of them
keeps_alone : (base : Option Patterns) (xs ks : List TypePatterns) → Keeps base xs ks → Keeps None ks ks
keeps_alone base [] ks none = subst (λ k. Keeps None k k) (sym none) refl
keeps_alone base (x ∷ xs) ks (inl skipped) = keeps_alone base xs ks skipped.1
keeps_alone base (x ∷ xs) ks (inr kept) =
    subst (λ k. Keeps None k k) (sym kept.2) (inr ((λ same. cc), kept.1, refl, keeps_again (Some (without_one x.patterns)) xs kept.1 kept.3))

falls_later : (least more : ℕ) (xs : List TypePatterns) → least ≤ more → NeverFalls more xs → NeverFalls least xs
falls_later least more [] up order = tt
falls_later least more (x ∷ xs) up order = (let here = order.0 in omega (arith, up, here), order.1)

kept_order : (least : ℕ) (base : Option Patterns) (xs ks : List TypePatterns) → Keeps base xs ks → NeverFalls least xs → NeverFalls least ks
kept_order least base [] ks none order = subst (NeverFalls least) (sym none) tt
kept_order least base (x ∷ xs) ks (inl skipped) order = kept_order least base xs ks skipped.1 (falls_later least x.exponent xs order.0 order.1)
kept_order least base (x ∷ xs) ks (inr kept) order =
    subst (NeverFalls least) (sym kept.2) (order.0, kept_order x.exponent (Some (without_one x.patterns)) xs kept.1 kept.3 order.1)

-- ---- tables

held_types : (ks : List TypePatterns) → types_held (map entry_in ks) (map (λ x. x.patterns) ks) ≡ ks
held_types [] = refl
held_types (k ∷ ks) = ap (λ rest. k ∷ rest) (held_types ks)

own_table : (base : Option Patterns) (given : List TypePatterns) → NeverFalls 0 given → first_fault (kept_of base given) ≡ None → IsOwnTable (table_of (kept_of base given))
own_table base given order sound =
    subst (λ held. IsTable None held (table_of (kept_of base given))) (sym (held_types (kept_of base given))) (record {
      order = kept_order 0 base given (kept_of base given) (keeps_kept base given) order;
      kept = kept_of base given;
      keeps = keeps_alone base given (kept_of base given) (keeps_kept base given);
      sound = sound;
      whole = refl;
    })

-- what holds of entries and patterns that were kept
pub kept_table : (base : Option Patterns) (given : List TypePatterns) (es : List CompactEntry) (ps : List Patterns)
    → (es ≡ map entry_in (kept_of base given)) × (ps ≡ map (λ y. y.patterns) (kept_of base given))
    → NeverFalls 0 given → TypesRise 0 given → first_fault (kept_of base given) ≡ None
    → Rises 0 es × (length es ≡ length ps) × IsOwnTable (record { entries = es; patterns = ps })
kept_table base given es ps is order rise sound =
    let same : table_of (kept_of base given) ≡ record { entries = es; patterns = ps } = λ i. record { entries = (sym is.0) i; patterns = (sym is.1) i } in (
      subst (Rises 0) (sym is.0) (kept_rises 0 base given rise sound),
      ap length is.0 ∙ length-map (kept_of base given) entry_in ∙ sym (length-map (kept_of base given) (λ y. y.patterns)) ∙ ap length (sym is.1),
      subst IsOwnTable same (own_table base given order sound),
    )

-- ---- one table

pub one_made : OneTableIsMade
one_made zero given table other is also =
    is.whole ∙ ap table_of (keeps_one zero given is.kept is.keeps ∙ sym (keeps_one zero given also.kept also.keeps)) ∙ sym also.whole

pub one_said : OneTableIsSaid
one_said value table other = by (types_of value)
  where
    by : (o : Option (List TypePatterns)) → IsSomeAnd o (λ given. IsTable None given table) → IsSomeAnd o (λ given. IsTable None given other) → table ≡ other
    by None says also = absurd says
    by (Some given) says also = one_made None given table other says also
