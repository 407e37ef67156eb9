-- What is before the place of the unit in a text, and what is after it, are texts: `specs/Patterns.antt`.
use Rattle.std.proofs.Common.{◌≡◌, ◌+◌, ◌==◌, ℕ, Bool, true, false, ◌&&◌, cond, List, [], ◌∷◌, ◌++◌, length, take, drop, get_or, Some, None, refl, sym, ap, ◌∙◌, subst, ◌⊎◌, inl, inr, arith, length-append, if◌then◌else◌}
use Rattle.std.proofs.lemmas.Bool.{and_parts, eqb-true}
use Rattle.std.proofs.Math.Seq.{drop-append_seam, take-append_seam}
use Rattle.std.proofs.lemmas.List.{get_or-append-add}
use Rattle.std.proofs.lemmas.Str.{IsUtf8-drop, IsUtf8-nil, IsUtf8-past_char, IsUtf8-take}
use Rattle.std.specs.Str.{IsCharBoundary, IsUtf8}
use lib.Utf8.{encode}
use Rattle.icu_dimension.specs.UnitPatterns.{AffixesText}
use Rattle.icu_dimension.specs.UnitPlaces.{placeholder, places}
use Rattle.icu_dimension.specs.declared.UnitPlace.TheVariants.{Before, After}
use Rattle.locale_numbers_units.specs.Patterns.{affixes_of, after_place, before_place, cut}
use Rattle.locale_numbers_units.specs.UnitTexts.{AreAffixTexts}

-- a text is cut at the place, or is what is before it
abbrev IsCut : List ℕ → List ℕ → List ℕ → Type 0
IsCut text before after = (before ++ (placeholder ++ after) ≡ text) ⊎ ((before ≡ text) × (after ≡ []))

cut_lone : (b : ℕ) (t : Bool) → IsCut (b ∷ []) (cond (t && false) [] (b ∷ [])) (cond (t && false) (drop 1 []) [])
cut_lone b true = inr (refl, refl)
cut_lone b false = inr (refl, refl)

cut_at_first : (b c : ℕ) (bs : List ℕ) (t : Bool) → (b == 194 && c == 164) ≡ t → IsCut (c ∷ bs) (before_place (c ∷ bs)) (after_place (c ∷ bs))
    → IsCut (b ∷ c ∷ bs) (cond t [] (b ∷ before_place (c ∷ bs))) (cond t (drop 1 (c ∷ bs)) (after_place (c ∷ bs)))
cut_at_first b c bs true test rest =
    let parts = and_parts (b == 194) (c == 164) test in
    let first : b ≡ 194 = eqb-true b 194 parts.0 in
    let second : c ≡ 164 = eqb-true c 164 parts.1 in
    let both : 194 ∷ 164 ∷ bs ≡ b ∷ c ∷ bs = cc in
    inl both
cut_at_first b c bs false test (inl one) = inl (ap (λ zs. b ∷ zs) one)
cut_at_first b c bs false test (inr none) = inr (ap (λ zs. b ∷ zs) none.0, none.1)

cut_is : (text : List ℕ) → IsCut text (before_place text) (after_place text)
cut_is [] = inr (refl, refl)
cut_is (b ∷ []) = cut_lone b (b == 194)
cut_is (b ∷ c ∷ bs) = cut_at_first b c bs (b == 194 && c == 164) refl (cut_is (c ∷ bs))

-- a text may be cut in front of the place
boundary : (before after : List ℕ) → IsCharBoundary (before ++ (placeholder ++ after)) (length before)
boundary before after =
    let here : get_or (before ++ (placeholder ++ after)) (length before) 0 ≡ 194 =
    ap (λ n. get_or (before ++ (placeholder ++ after)) n 0) (omega arith) ∙ get_or-append-add before (placeholder ++ after) 0 0 in
    let whole : length (before ++ (placeholder ++ after)) ≡ length before + length (placeholder ++ after) = length-append before (placeholder ++ after) in
    (omega (arith, whole), λ within above. omega (arith, here))

-- the place is one character
place_is_character : placeholder ≡ encode 164
unfolding encode
place_is_character = refl

record AreTexts (one other : List ℕ) : Type 0 where
  before : IsUtf8 one
  after : IsUtf8 other

sides : (text before after : List ℕ) → IsUtf8 text → IsCut text before after → AreTexts before after
sides text before after utf8 (inr none) =
    record { before = subst IsUtf8 (sym none.0) utf8; after = subst IsUtf8 (sym none.1) IsUtf8-nil }
sides text before after utf8 (inl one) =
    let whole : IsUtf8 (before ++ (placeholder ++ after)) = subst IsUtf8 (sym one) utf8 in
    let front : take (length before) (before ++ (placeholder ++ after)) ≡ before = take-append_seam before (placeholder ++ after) in
    let back : drop (length before) (before ++ (placeholder ++ after)) ≡ placeholder ++ after = drop-append_seam before (placeholder ++ after) in
    record {
      before = subst IsUtf8 front (IsUtf8-take (before ++ (placeholder ++ after)) (length before) whole (boundary before after));
      after = IsUtf8-past_char (placeholder ++ after) after 164
          (subst IsUtf8 back (IsUtf8-drop (before ++ (placeholder ++ after)) (length before) whole (boundary before after))) (ap (λ place. place ++ after) place_is_character);
    }

cut_sides : (text : List ℕ) → IsUtf8 text → AreTexts (before_place text) (after_place text)
cut_sides text utf8 = sides text (before_place text) (after_place text) utf8 (cut_is text)

-- ---- affixes

cut_texts : (before after : List ℕ) → IsUtf8 before → IsUtf8 after → AreAffixTexts (cut before after)
cut_texts before after first second = by (places before == 0) (cut_sides before first) (cut_sides after second)
  where
    by : (b : Bool) → AreTexts (before_place before) (after_place before) → AreTexts (before_place after) (after_place after)
        → AreAffixTexts (cond b
        (record { place = After; first = before; second = before_place after; third = after_place after })
        (record { place = Before; first = before_place before; second = after_place before; third = after }))
    by true l r = record { first = first; second = r.before; third = r.after }
    by false l r = record { first = l.before; second = l.after; third = second }

-- the affixes that two texts are cut into
pub affixes_texts : (before after : List ℕ) (affixes : AffixesText) → IsUtf8 before → IsUtf8 after → affixes_of before after ≡ Some affixes → AreAffixTexts affixes
affixes_texts before after affixes first second is = by (places before + places after == 1) is
  where
    by : (b : Bool) → (if b then Some (cut before after) else None) ≡ Some affixes → AreAffixTexts affixes
    by true same = let one : cut before after ≡ affixes = cc in subst AreAffixTexts one (cut_texts before after first second)
    by false same = absurd (cc)
