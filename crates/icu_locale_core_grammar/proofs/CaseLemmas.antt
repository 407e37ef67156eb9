-- A change of case leaves the class of a subtag, and cases that are changed twice.
use Rattle.std.proofs.Common.{◌≡◌, ℕ, Bool, not, ◌&&◌, ◌||◌, List, [], ◌∷◌, length, map, eqb, sym, refl, ap, ◌∙◌, arith}
use Rattle.std.specs.List.{list_all}
use Rattle.std.specs.Char.{is_ascii_alphabetic, is_ascii_alphanumeric, is_ascii_digit, to_ascii_lowercase, to_ascii_uppercase}
use Rattle.std.specs.Int.{is_in_range}
use Rattle.std.proofs.lemmas.List.{length-map}
use Rattle.std.proofs.lemmas.Str.Ascii.{lowercase-lowercase, uppercase-uppercase, lowercase-uppercase}
use Rattle.std.proofs.lemmas.Bool.Decides.{nat_tests}
use Rattle.icu_locale_core_grammar.specs.Subtags.{Text, has_characters, is_language, is_script, is_region, is_variant, begins_with_digit, is_singleton, is_single, is_key, is_field_key, is_other, spells, same_text, lower, upper, title, unicode_text, transform_text, private_text}

-- a change of each character that leaves its kind
pub record KeepsKinds (f : ℕ → ℕ) : Type 0 where
  pub letters : (c : ℕ) → is_ascii_alphabetic (f c) ≡ is_ascii_alphabetic c
  pub characters : (c : ℕ) → is_ascii_alphanumeric (f c) ≡ is_ascii_alphanumeric c
  pub digits : (c : ℕ) → is_ascii_digit (f c) ≡ is_ascii_digit c

lower_letter : (c : ℕ) → is_ascii_alphabetic (to_ascii_lowercase c) ≡ is_ascii_alphabetic c
lower_letter c = grind (arith, nat_tests)

lower_character : (c : ℕ) → is_ascii_alphanumeric (to_ascii_lowercase c) ≡ is_ascii_alphanumeric c
lower_character c = grind (arith, nat_tests)

lower_digit : (c : ℕ) → is_ascii_digit (to_ascii_lowercase c) ≡ is_ascii_digit c
lower_digit c = grind (arith, nat_tests)

upper_letter : (c : ℕ) → is_ascii_alphabetic (to_ascii_uppercase c) ≡ is_ascii_alphabetic c
upper_letter c = grind (arith, nat_tests)

upper_character : (c : ℕ) → is_ascii_alphanumeric (to_ascii_uppercase c) ≡ is_ascii_alphanumeric c
upper_character c = grind (arith, nat_tests)

upper_digit : (c : ℕ) → is_ascii_digit (to_ascii_uppercase c) ≡ is_ascii_digit c
upper_digit c = grind (arith, nat_tests)

pub lower_keeps : KeepsKinds to_ascii_lowercase
lower_keeps = record { letters = lower_letter; characters = lower_character; digits = lower_digit }

pub upper_keeps : KeepsKinds to_ascii_uppercase
upper_keeps = record { letters = upper_letter; characters = upper_character; digits = upper_digit }

all_kept : (test : ℕ → Bool) (f : ℕ → ℕ) → ((c : ℕ) → test (f c) ≡ test c) → (p : Text) → list_all test (map f p) ≡ list_all test p
all_kept test f keeps [] = refl
all_kept test f keeps (c ∷ cs) = λ i. keeps c i && all_kept test f keeps cs i

-- ---- classes

module _ (f : ℕ → ℕ) (keeps : KeepsKinds f) where
  long : (p : Text) → length (map f p) ≡ length p
  long p = length-map p f

  letters : (p : Text) → list_all is_ascii_alphabetic (map f p) ≡ list_all is_ascii_alphabetic p
  letters p = all_kept is_ascii_alphabetic f keeps.letters p

  pub characters_changed : (least most : ℕ) (p : Text) → has_characters least most (map f p) ≡ has_characters least most p
  characters_changed least most p = λ i. is_in_range least most (long p i) && all_kept is_ascii_alphanumeric f keeps.characters p i

  pub language_changed : (p : Text) → is_language (map f p) ≡ is_language p
  language_changed p = λ i. is_in_range 2 3 (long p i) && letters p i

  pub script_changed : (p : Text) → is_script (map f p) ≡ is_script p
  script_changed p = λ i. eqb (long p i) 4 && letters p i

  pub region_changed : (p : Text) → is_region (map f p) ≡ is_region p
  region_changed p = λ i. (eqb (long p i) 2 && letters p i) || (eqb (long p i) 3 && all_kept is_ascii_digit f keeps.digits p i)

  begins_changed : (p : Text) → begins_with_digit (map f p) ≡ begins_with_digit p
  begins_changed [] = refl
  begins_changed (c ∷ cs) = keeps.digits c

  pub variant_changed : (p : Text) → is_variant (map f p) ≡ is_variant p
  variant_changed p = λ i. characters_changed 5 8 p i || (characters_changed 4 4 p i && begins_changed p i)

  pub single_changed : (p : Text) → is_single (map f p) ≡ is_single p
  single_changed p = λ i. eqb (long p i) 1

  pub key_changed : (p : Text) → is_key (map f p) ≡ is_key p
  key_changed [] = refl
  key_changed (a ∷ []) = refl
  key_changed (a ∷ b ∷ []) = λ i. keeps.characters a i && keeps.letters b i
  key_changed (a ∷ b ∷ c ∷ rest) = refl

  pub field_key_changed : (p : Text) → is_field_key (map f p) ≡ is_field_key p
  field_key_changed [] = refl
  field_key_changed (a ∷ []) = refl
  field_key_changed (a ∷ b ∷ []) = λ i. keeps.letters a i && keeps.digits b i
  field_key_changed (a ∷ b ∷ c ∷ rest) = refl

pub characters_kept : (p : Text) → list_all is_ascii_alphanumeric (lower p) ≡ list_all is_ascii_alphanumeric p
characters_kept p = all_kept is_ascii_alphanumeric to_ascii_lowercase lower_character p

-- ---- cases changed twice

uppercase-lowercase : (c : ℕ) → to_ascii_uppercase (to_ascii_lowercase c) ≡ to_ascii_uppercase c
uppercase-lowercase c = grind (arith, nat_tests)

mapped_twice : (f g h : ℕ → ℕ) → ((c : ℕ) → f (g c) ≡ h c) → (p : Text) → map f (map g p) ≡ map h p
mapped_twice f g h same [] = refl
mapped_twice f g h same (c ∷ cs) = λ i. same c i ∷ mapped_twice f g h same cs i

pub lower-lower : (p : Text) → lower (lower p) ≡ lower p
lower-lower p = mapped_twice to_ascii_lowercase to_ascii_lowercase to_ascii_lowercase lowercase-lowercase p

pub lowered_twice : (ps : List Text) → map lower (map lower ps) ≡ map lower ps
lowered_twice [] = refl
lowered_twice (p ∷ ps) = λ i. lower-lower p i ∷ lowered_twice ps i

pub upper-upper : (p : Text) → upper (upper p) ≡ upper p
upper-upper p = mapped_twice to_ascii_uppercase to_ascii_uppercase to_ascii_uppercase uppercase-uppercase p

pub upper-lower : (p : Text) → upper (lower p) ≡ upper p
upper-lower p = mapped_twice to_ascii_uppercase to_ascii_lowercase to_ascii_uppercase uppercase-lowercase p

pub lower-upper : (p : Text) → lower (upper p) ≡ lower p
lower-upper p = mapped_twice to_ascii_lowercase to_ascii_uppercase to_ascii_lowercase lowercase-uppercase p

pub title-lower : (p : Text) → title (lower p) ≡ title p
title-lower [] = refl
title-lower (c ∷ cs) = λ i. uppercase-lowercase c i ∷ lower-lower cs i

pub title-title : (p : Text) → title (title p) ≡ title p
title-title [] = refl
title-title (c ∷ cs) = λ i. uppercase-uppercase c i ∷ lower-lower cs i

pub lower-title : (p : Text) → lower (title p) ≡ lower p
lower-title [] = refl
lower-title (c ∷ cs) = λ i. lowercase-uppercase c i ∷ lower-lower cs i

-- a script in title case is a script
pub script_titled : (p : Text) → is_script (title p) ≡ is_script p
script_titled p = sym (script_changed to_ascii_lowercase lower_keeps (title p)) ∙ ap is_script (lower-title p) ∙ script_changed to_ascii_lowercase lower_keeps p

-- ---- singletons

pub spells_lower : (w p : Text) → spells w (lower p) ≡ spells w p
spells_lower w p = ap (same_text w) (lower-lower p)

pub singleton_lower : (p : Text) → is_singleton (lower p) ≡ is_singleton p
singleton_lower p = characters_changed to_ascii_lowercase lower_keeps 1 1 p

pub other_lower : (p : Text) → is_other (lower p) ≡ is_other p
other_lower p = λ i. singleton_lower p i && not (spells_lower unicode_text p i || (spells_lower transform_text p i || spells_lower private_text p i))
