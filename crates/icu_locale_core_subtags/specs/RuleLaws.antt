-- The rules of this crate are rules: each class is one of short words, and its normal case leaves it.
-- Defined in docs/tags.md, "Subtags as values".
-- Cited by the impls of `SubtagRule`, whose laws they are. It uses many modules, since each rule needs the lemmas on its own class and on its case.
use Rattle.std.proofs.Common.{◌≡◌, ℕ, ◌<◌, ◌≤◌, Bool, true, ◌&&◌, ◌⊎◌, inl, inr, [], ◌∷◌, length, eqb, leb, refl, ◌∙◌, arith, lit<}
use Rattle.std.specs.List.{list_all}
use Rattle.std.specs.Char.{is_ascii_alphabetic, is_ascii_alphanumeric, is_ascii_digit}
use Rattle.std.specs.Int.{is_in_range}
use Rattle.std.proofs.lemmas.Bool.{and_parts, and_from, or_cases, leb-true, eqb-true}
use Rattle.std.proofs.lemmas.Bool.Decides.{nat_tests}
use Rattle.tinystr.specs.SmallText.{IsSmall, is_text_byte}
use Rattle.icu_locale_core_grammar.specs.Subtags.{Text, is_plain, has_characters, is_language, is_script, is_region, is_variant, begins_with_digit, is_key, is_field_key, is_attribute, is_other_piece, is_private_piece, lower, upper, title}
use Rattle.icu_locale_core_grammar.specs.TagPreferences.{is_suffix}
use Rattle.icu_locale_core_grammar.proofs.SubtagLemmas.{key_length, field_key_length}
use Rattle.icu_locale_core_grammar.proofs.PlainSubtags.{characters_plain, language_plain, script_plain, region_plain, variant_plain, key_plain, field_key_plain}
use Rattle.icu_locale_core_grammar.proofs.CaseLemmas.{lower_keeps, upper_keeps, characters_changed, language_changed, region_changed, variant_changed, key_changed, field_key_changed, script_titled, lower-lower, upper-upper, title-title, lower-upper, lower-title}
use Rattle.icu_locale_core_subtags.specs.SubtagRule.{IsSubtagRule}

-- ---- small texts

character_is_text : (c : ℕ) → is_ascii_alphanumeric c ≡ true → is_text_byte c ≡ true
character_is_text c e = grind (arith, nat_tests)

plain_is_text : (t : Text) → is_plain t ≡ true → list_all is_text_byte t ≡ true
plain_is_text [] e = refl
plain_is_text (c ∷ cs) e =
    let f = and_parts (is_ascii_alphanumeric c) (list_all is_ascii_alphanumeric cs) e in
    and_from (is_text_byte c) (list_all is_text_byte cs) (character_is_text c f.0) (plain_is_text cs f.1)

-- what a rule accepts is a small text
pub small_from_rule : {capacity : ℕ} {accepts : Text → Bool} {normal : Text → Text} → IsSubtagRule capacity accepts normal
    → (t : Text) → accepts t ≡ true → IsSmall capacity t
small_from_rule rule t e = record { short = rule.short t e; ascii = plain_is_text t (rule.plain t e) }

-- ---- lengths

pub record HasLength (least most : ℕ) (t : Text) : Type 0 where
  pub low : least ≤ length t
  pub high : length t ≤ most

range_long : (least most : ℕ) (t : Text) → is_in_range least most (length t) ≡ true → HasLength least most t
range_long least most t e =
    let ends = and_parts (leb least (length t)) (leb (length t) most) e in
    record { low = leb-true least (length t) ends.0; high = leb-true (length t) most ends.1 }

characters_long : (least most : ℕ) (t : Text) → has_characters least most t ≡ true → HasLength least most t
characters_long least most t e = range_long least most t (and_parts (is_in_range least most (length t)) (is_plain t) e).0

exact_long : (n : ℕ) (t : Text) → length t ≡ n → HasLength n n t
exact_long n t e = record { low = omega (arith, e); high = omega (arith, e) }

language_long : (t : Text) → is_language t ≡ true → HasLength 2 3 t
language_long t e = range_long 2 3 t (and_parts (is_in_range 2 3 (length t)) (list_all is_ascii_alphabetic t) e).0

script_long : (t : Text) → is_script t ≡ true → HasLength 4 4 t
script_long t e = exact_long 4 t (eqb-true (length t) 4 (and_parts (eqb (length t) 4) (list_all is_ascii_alphabetic t) e).0)

region_long : (t : Text) → is_region t ≡ true → HasLength 2 3 t
region_long t e = by_case (or_cases (eqb (length t) 2 && list_all is_ascii_alphabetic t) (eqb (length t) 3 && list_all is_ascii_digit t) e)
  where
    by_case : ((eqb (length t) 2 && list_all is_ascii_alphabetic t) ≡ true) ⊎ ((eqb (length t) 3 && list_all is_ascii_digit t) ≡ true) → HasLength 2 3 t
    by_case (inl f) = let g = eqb-true (length t) 2 (and_parts (eqb (length t) 2) (list_all is_ascii_alphabetic t) f).0 in record { low = omega (arith, g); high = omega (arith, g) }
    by_case (inr f) = let g = eqb-true (length t) 3 (and_parts (eqb (length t) 3) (list_all is_ascii_digit t) f).0 in record { low = omega (arith, g); high = omega (arith, g) }

variant_long : (t : Text) → is_variant t ≡ true → HasLength 4 8 t
variant_long t e = by_case (or_cases (has_characters 5 8 t) (has_characters 4 4 t && begins_with_digit t) e)
  where
    by_case : (has_characters 5 8 t ≡ true) ⊎ ((has_characters 4 4 t && begins_with_digit t) ≡ true) → HasLength 4 8 t
    by_case (inl f) = let g = characters_long 5 8 t f in record { low = omega (arith, g.low); high = g.high }
    by_case (inr f) = let g = characters_long 4 4 t (and_parts (has_characters 4 4 t) (begins_with_digit t) f).0 in record { low = g.low; high = omega (arith, g.high) }

-- ---- the rules

pub language_rule : IsSubtagRule 3 is_language lower
language_rule = record {
  some = λ t e. omega (arith, (language_long t e).low);
  short = λ t e. (language_long t e).high;
  plain = language_plain;
  stays = λ t e. language_changed _ lower_keeps t ∙ e;
  settles = lower-lower;
  recased = lower-lower;
}

pub script_rule : IsSubtagRule 4 is_script title
script_rule = record {
  some = λ t e. omega (arith, (script_long t e).low);
  short = λ t e. (script_long t e).high;
  plain = script_plain;
  stays = λ t e. script_titled t ∙ e;
  settles = title-title;
  recased = lower-title;
}

pub region_rule : IsSubtagRule 3 is_region upper
region_rule = record {
  some = λ t e. omega (arith, (region_long t e).low);
  short = λ t e. (region_long t e).high;
  plain = region_plain;
  stays = λ t e. region_changed _ upper_keeps t ∙ e;
  settles = upper-upper;
  recased = lower-upper;
}

pub variant_rule : IsSubtagRule 8 is_variant lower
variant_rule = record {
  some = λ t e. omega (arith, (variant_long t e).low);
  short = λ t e. (variant_long t e).high;
  plain = variant_plain;
  stays = λ t e. variant_changed _ lower_keeps t ∙ e;
  settles = lower-lower;
  recased = lower-lower;
}

pub key_rule : IsSubtagRule 2 is_key lower
key_rule = record {
  some = λ t e. omega (arith, key_length t e);
  short = λ t e. omega (arith, key_length t e);
  plain = key_plain;
  stays = λ t e. key_changed _ lower_keeps t ∙ e;
  settles = lower-lower;
  recased = lower-lower;
}

pub field_key_rule : IsSubtagRule 2 is_field_key lower
field_key_rule = record {
  some = λ t e. omega (arith, field_key_length t e);
  short = λ t e. omega (arith, field_key_length t e);
  plain = field_key_plain;
  stays = λ t e. field_key_changed _ lower_keeps t ∙ e;
  settles = lower-lower;
  recased = lower-lower;
}

-- words of some length in lower case
word_rule : (least most : ℕ) → 0 < least → IsSubtagRule most (has_characters least most) lower
word_rule least most h = record {
  some = λ t e. omega (arith, h, (characters_long least most t e).low);
  short = λ t e. (characters_long least most t e).high;
  plain = λ t e. characters_plain least most t e;
  stays = λ t e. characters_changed _ lower_keeps least most t ∙ e;
  settles = lower-lower;
  recased = lower-lower;
}

pub other_piece_rule : IsSubtagRule 8 is_other_piece lower
other_piece_rule = word_rule 2 8 (lit< tt)

pub private_piece_rule : IsSubtagRule 8 is_private_piece lower
private_piece_rule = word_rule 1 8 (lit< tt)

pub attribute_rule : IsSubtagRule 8 is_attribute lower
attribute_rule = word_rule 3 8 (lit< tt)

pub suffix_rule : IsSubtagRule 4 is_suffix lower
suffix_rule = word_rule 1 4 (lit< tt)
