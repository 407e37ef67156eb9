-- Each class of subtags allows letters and digits alone.
use Rattle.std.proofs.Common.{◌≡◌, ℕ, Bool, true, ◌&&◌, [], ◌∷◌, Some, ◌⊎◌, inl, inr, length, eqb, sym, refl, ap, ◌∙◌, arith}
use Rattle.std.specs.List.{list_all}
use Rattle.std.specs.Char.{is_ascii_alphabetic, is_ascii_alphanumeric, is_ascii_digit}
use Rattle.std.specs.Int.{is_in_range}
use Rattle.std.proofs.lemmas.Bool.{and_parts, and_from, or_cases}
use Rattle.std.proofs.lemmas.Bool.Decides.{nat_tests}
use Rattle.icu_locale_core_grammar.specs.Subtags.{Text, is_plain, has_characters, is_language, is_script, is_region, is_variant, begins_with_digit, is_key, is_field_key, is_private, spells, unicode_text, transform_text, private_text}
use Rattle.icu_locale_core_grammar.specs.TagStages.{BodyStage, opens}
use Rattle.icu_locale_core_grammar.proofs.CaseLemmas.{characters_kept}
use Rattle.icu_locale_core_grammar.proofs.SingletonLemmas.{spelled_lower, Opening, by_unicode, by_transform, by_other, opening, other_is_none}

all_wider : (test wide : ℕ → Bool) → ((c : ℕ) → test c ≡ true → wide c ≡ true) → (p : Text) → list_all test p ≡ true → list_all wide p ≡ true
all_wider test wide f [] e = refl
all_wider test wide f (c ∷ cs) e =
    let g = and_parts (test c) (list_all test cs) e in
    and_from (wide c) (list_all wide cs) (f c g.0) (all_wider test wide f cs g.1)

letter_plain : (c : ℕ) → is_ascii_alphabetic c ≡ true → is_ascii_alphanumeric c ≡ true
letter_plain c e = grind (arith, nat_tests)

digit_plain : (c : ℕ) → is_ascii_digit c ≡ true → is_ascii_alphanumeric c ≡ true
digit_plain c e = grind (arith, nat_tests)

letters_plain : (p : Text) → list_all is_ascii_alphabetic p ≡ true → is_plain p ≡ true
letters_plain = all_wider is_ascii_alphabetic is_ascii_alphanumeric letter_plain

pub characters_plain : (least most : ℕ) (p : Text) → has_characters least most p ≡ true → is_plain p ≡ true
characters_plain least most p e = (and_parts (is_in_range least most (length p)) (is_plain p) e).1

pub language_plain : (p : Text) → is_language p ≡ true → is_plain p ≡ true
language_plain p e = letters_plain p (and_parts (is_in_range 2 3 (length p)) (list_all is_ascii_alphabetic p) e).1

pub script_plain : (p : Text) → is_script p ≡ true → is_plain p ≡ true
script_plain p e = letters_plain p (and_parts (eqb (length p) 4) (list_all is_ascii_alphabetic p) e).1

pub region_plain : (p : Text) → is_region p ≡ true → is_plain p ≡ true
region_plain p e = by_case (or_cases (eqb (length p) 2 && list_all is_ascii_alphabetic p) (eqb (length p) 3 && list_all is_ascii_digit p) e)
  where
    by_case : ((eqb (length p) 2 && list_all is_ascii_alphabetic p) ≡ true) ⊎ ((eqb (length p) 3 && list_all is_ascii_digit p) ≡ true) → is_plain p ≡ true
    by_case (inl f) = letters_plain p (and_parts (eqb (length p) 2) (list_all is_ascii_alphabetic p) f).1
    by_case (inr f) = all_wider is_ascii_digit is_ascii_alphanumeric digit_plain p (and_parts (eqb (length p) 3) (list_all is_ascii_digit p) f).1

pub variant_plain : (p : Text) → is_variant p ≡ true → is_plain p ≡ true
variant_plain p e = by_case (or_cases (has_characters 5 8 p) (has_characters 4 4 p && begins_with_digit p) e)
  where
    by_case : (has_characters 5 8 p ≡ true) ⊎ ((has_characters 4 4 p && begins_with_digit p) ≡ true) → is_plain p ≡ true
    by_case (inl f) = characters_plain 5 8 p f
    by_case (inr f) = characters_plain 4 4 p (and_parts (has_characters 4 4 p) (begins_with_digit p) f).0

pub key_plain : (p : Text) → is_key p ≡ true → is_plain p ≡ true
key_plain [] e = cc
key_plain (a ∷ []) e = cc
key_plain (a ∷ b ∷ []) e =
    let f = and_parts (is_ascii_alphanumeric a) (is_ascii_alphabetic b) e in
    and_from (is_ascii_alphanumeric a) (is_ascii_alphanumeric b && true) f.0 (and_from (is_ascii_alphanumeric b) true (letter_plain b f.1) refl)
key_plain (a ∷ b ∷ c ∷ rest) e = cc

pub field_key_plain : (p : Text) → is_field_key p ≡ true → is_plain p ≡ true
field_key_plain [] e = cc
field_key_plain (a ∷ []) e = cc
field_key_plain (a ∷ b ∷ []) e =
    let f = and_parts (is_ascii_alphabetic a) (is_ascii_digit b) e in
    and_from (is_ascii_alphanumeric a) (is_ascii_alphanumeric b && true) (letter_plain a f.0) (and_from (is_ascii_alphanumeric b) true (digit_plain b f.1) refl)
field_key_plain (a ∷ b ∷ c ∷ rest) e = cc

spelled_plain : (w p : Text) → spells w p ≡ true → is_plain w ≡ true → is_plain p ≡ true
spelled_plain w p e f = sym (characters_kept p) ∙ ap is_plain (spelled_lower w p e) ∙ f

pub private_plain : (p : Text) → is_private p ≡ true → is_plain p ≡ true
private_plain p e = spelled_plain private_text p e refl

pub opens_plain : (p : Text) (b : BodyStage) → opens p ≡ Some b → is_plain p ≡ true
opens_plain p b e = by_opening (opening p b e)
  where
    by_opening : Opening p b → is_plain p ≡ true
    by_opening (by_unicode f g) = spelled_plain unicode_text p f refl
    by_opening (by_transform f g) = spelled_plain transform_text p f refl
    by_opening (by_other f g) = characters_plain 1 1 p (other_is_none p f).0
