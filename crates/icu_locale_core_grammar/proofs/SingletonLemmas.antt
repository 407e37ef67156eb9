-- Which singleton opens which extension: `u`, `t`, `x` and the others exclude each other, and each is one character.
use Rattle.std.proofs.Common.{◌≡◌, ◌≤◌, Bool, true, false, not, ◌||◌, [], None, Some, length, eqb, leb, sym, refl, ap, ◌∙◌, arith}
use Rattle.std.specs.Prelude.{if◌then◌else◌}
use Rattle.std.specs.List.{list_all}
use Rattle.std.specs.Char.{is_ascii_alphanumeric, to_ascii_lowercase}
use Rattle.std.specs.Int.{is_in_range}
use Rattle.std.proofs.lemmas.List.{length-map}
use Rattle.std.proofs.lemmas.Bool.{and_parts, and_from, or_parts, or_from, not-true, leb-true, le-leb}
use Rattle.icu_locale_core_grammar.specs.Subtags.{Text, is_singleton, is_single, is_private_piece, is_unicode, is_transform, is_private, is_other, spells, same_text, lower, unicode_text, transform_text, private_text}
use Rattle.icu_locale_core_grammar.specs.Stepping.{InHead}
use Rattle.icu_locale_core_grammar.specs.TagStages.{BodyStage, InUnicode, InTransform, InOther, opens}
use Rattle.icu_locale_core_grammar.proofs.CollectionLemmas.{same_text_equal}
use Rattle.icu_locale_core_grammar.proofs.SubtagLemmas.{singleton_single}

-- ---- a singleton of one's own

pub spelled_lower : (w p : Text) → spells w p ≡ true → lower p ≡ w
spelled_lower w p e = sym (same_text_equal w (lower p) e)

spelled_single : (w p : Text) → spells w p ≡ true → length w ≡ 1 → is_single p ≡ true
spelled_single w p e one =
    let f : length (lower p) ≡ 1 = ap length (spelled_lower w p e) ∙ one in
    let g : length p ≡ 1 = sym (length-map p to_ascii_lowercase) ∙ f in
    ap (λ n. eqb n 1) g

-- what spells one word spells no other
spelled_other : (w v p : Text) → spells w p ≡ true → same_text v w ≡ false → spells v p ≡ false
spelled_other w v p e f = ap (same_text v) (spelled_lower w p e) ∙ f

pub private_single : (p : Text) → is_private p ≡ true → is_single p ≡ true
private_single p e = spelled_single private_text p e refl

pub unicode_single : (p : Text) → is_unicode p ≡ true → is_single p ≡ true
unicode_single p e = spelled_single unicode_text p e refl

pub unicode_no_transform : (p : Text) → is_unicode p ≡ true → is_transform p ≡ false
unicode_no_transform p e = spelled_other unicode_text transform_text p e refl

pub transform_no_unicode : (p : Text) → is_transform p ≡ true → is_unicode p ≡ false
transform_no_unicode p e = spelled_other transform_text unicode_text p e refl

-- ---- the others

-- what is another singleton is none of the three
pub other_is_none : (p : Text) → is_other p ≡ true → (is_singleton p ≡ true) × (is_unicode p ≡ false) × (is_transform p ≡ false) × (is_private p ≡ false)
other_is_none p e =
    let f = and_parts (is_singleton p) (not (is_unicode p || (is_transform p || is_private p))) e in
    let g = or_parts (is_unicode p) (is_transform p || is_private p) (not-true (is_unicode p || (is_transform p || is_private p)) f.1) in
    let h = or_parts (is_transform p) (is_private p) g.1 in
    (f.0, g.0, h.0, h.1)

pub unicode_no_other : (p : Text) → is_unicode p ≡ true → is_other p ≡ true → ⊥
unicode_no_other p e f = let g = (other_is_none p f).1 in cc

pub transform_no_other : (p : Text) → is_transform p ≡ true → is_other p ≡ true → ⊥
transform_no_other p e f = let g = (other_is_none p f).2 in cc

-- ---- what a singleton opens

pub data Opening (p : Text) (b : BodyStage) : Type 0 where
  by_unicode : is_unicode p ≡ true → b ≡ InUnicode (InHead []) → Opening p b
  by_transform : is_transform p ≡ true → b ≡ InTransform (InHead None) → Opening p b
  by_other : is_other p ≡ true → b ≡ InOther [] → Opening p b

pub opening : (p : Text) (b : BodyStage) → opens p ≡ Some b → Opening p b
opening p b e = by_tests (is_unicode p) (is_transform p) (is_other p) refl refl refl e
  where
    by_tests : (u t o : Bool) → is_unicode p ≡ u → is_transform p ≡ t → is_other p ≡ o
        → (if u then Some (InUnicode (InHead [])) else (if t then Some (InTransform (InHead None)) else (if o then Some (InOther []) else None))) ≡ Some b → Opening p b
    by_tests true t o f g h e = by_unicode f (cc)
    by_tests false true o f g h e = by_transform g (cc)
    by_tests false false true f g h e = by_other h (cc)
    by_tests false false false f g h e = cc

pub unicode_opens : (p : Text) → is_unicode p ≡ true → opens p ≡ Some (InUnicode (InHead []))
unicode_opens p e = ap (λ b. if b then Some (InUnicode (InHead [])) else (if is_transform p then Some (InTransform (InHead None)) else (if is_other p then Some (InOther []) else None))) e

pub transform_opens : (p : Text) → is_transform p ≡ true → opens p ≡ Some (InTransform (InHead None))
transform_opens p e =
    ap (λ b. if b then Some (InUnicode (InHead [])) else (if is_transform p then Some (InTransform (InHead None)) else (if is_other p then Some (InOther []) else None))) (transform_no_unicode p e)
    ∙ ap (λ b. if b then Some (InTransform (InHead None)) else (if is_other p then Some (InOther []) else None)) e

pub other_opens : (p : Text) → is_other p ≡ true → opens p ≡ Some (InOther [])
other_opens p e =
    let f = other_is_none p e in
    ap (λ b. if b then Some (InUnicode (InHead [])) else (if is_transform p then Some (InTransform (InHead None)) else (if is_other p then Some (InOther []) else None))) f.1
    ∙ ap (λ b. if b then Some (InTransform (InHead None)) else (if is_other p then Some (InOther []) else None)) f.2
    ∙ ap (λ b. if b then Some (InOther []) else None) e

pub opens_single : (p : Text) (b : BodyStage) → opens p ≡ Some b → is_single p ≡ true
opens_single p b e = by_opening (opening p b e)
  where
    by_opening : Opening p b → is_single p ≡ true
    by_opening (by_unicode f g) = spelled_single unicode_text p f refl
    by_opening (by_transform f g) = spelled_single transform_text p f refl
    by_opening (by_other f g) = singleton_single p (other_is_none p f).0

pub opens_no_private : (p : Text) (b : BodyStage) → opens p ≡ Some b → is_private p ≡ false
opens_no_private p b e = by_opening (opening p b e)
  where
    by_opening : Opening p b → is_private p ≡ false
    by_opening (by_unicode f g) = spelled_other unicode_text private_text p f refl
    by_opening (by_transform f g) = spelled_other transform_text private_text p f refl
    by_opening (by_other f g) = (other_is_none p f).3

-- a letter or digit alone that is not `x` opens an extension
pub any_opens : (p : Text) → is_singleton p ≡ true → is_private p ≡ false → (b : BodyStage) × (opens p ≡ Some b)
any_opens p s x = by_tests (is_unicode p) (is_transform p) refl refl
  where
    by_tests : (u t : Bool) → is_unicode p ≡ u → is_transform p ≡ t → (b : BodyStage) × (opens p ≡ Some b)
    by_tests true t f g = (InUnicode (InHead []), unicode_opens p f)
    by_tests false true f g = (InTransform (InHead None), transform_opens p g)
    by_tests false false f g =
        let none : (is_unicode p || (is_transform p || is_private p)) ≡ false = or_from (is_unicode p) (is_transform p || is_private p) f (or_from (is_transform p) (is_private p) g x) in
        let other : is_other p ≡ true = and_from (is_singleton p) (not (is_unicode p || (is_transform p || is_private p))) s (ap not none) in
        (InOther [], other_opens p other)

-- and fits the private part
pub any_own : (p : Text) → is_singleton p ≡ true → is_private_piece p ≡ true
any_own p e =
    let f = and_parts (is_in_range 1 1 (length p)) (list_all is_ascii_alphanumeric p) e in
    let r = and_parts (leb 1 (length p)) (leb (length p) 1) f.0 in
    let high : length p ≤ 1 = leb-true (length p) 1 r.1 in
    and_from (is_in_range 1 8 (length p)) (list_all is_ascii_alphanumeric p) (and_from (leb 1 (length p)) (leb (length p) 8) r.0 (le-leb (length p) 8 (omega arith))) f.1
