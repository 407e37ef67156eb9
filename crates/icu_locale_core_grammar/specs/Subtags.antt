-- Which texts are subtags: a class is a length and the characters that it allows, in either case.
-- RFC 5646 (BCP 47), section 2.1, and UTS 35, section 3.2, "Unicode Locale Identifier"; docs/tags.md, "Subtags".
-- Cited by the grammar of whole tags and by every reader of a subtag.
use Rattle.std.specs.Prelude.{ℕ, Bool, false, not, ◌&&◌, ◌||◌, ◌==◌, List, [], ◌∷◌, length, map, codes, nat_eq}
use Rattle.std.specs.List.{list_all}
use Rattle.std.specs.Char.{is_ascii_alphabetic, is_ascii_alphanumeric, is_ascii_digit, to_ascii_lowercase, to_ascii_uppercase}
use Rattle.std.specs.Int.{is_in_range}
use Rattle.std.specs.Cmp.Lexicographic.{pointwise}

-- the bytes of a text
abbrev pub Text : Type 0
Text = List ℕ

-- only letters and digits
abbrev pub is_plain : Text → Bool
is_plain p = list_all is_ascii_alphanumeric p

-- between `least` and `most` letters and digits
abbrev pub has_characters : ℕ → ℕ → Text → Bool
has_characters least most p = is_in_range least most (length p) && is_plain p

-- ---- the language part

-- 2 or 3 letters
abbrev pub is_language : Text → Bool
is_language p = is_in_range 2 3 (length p) && list_all is_ascii_alphabetic p

-- 4 letters
abbrev pub is_script : Text → Bool
is_script p = (length p == 4) && list_all is_ascii_alphabetic p

-- 2 letters, or 3 digits
abbrev pub is_region : Text → Bool
is_region p = ((length p == 2) && list_all is_ascii_alphabetic p) || ((length p == 3) && list_all is_ascii_digit p)

-- 5 to 8 letters and digits, or 4 of which the first is a digit
abbrev pub begins_with_digit : Text → Bool
begins_with_digit [] = false
begins_with_digit (first ∷ rest) = is_ascii_digit first

abbrev pub is_variant : Text → Bool
is_variant p = has_characters 5 8 p || (has_characters 4 4 p && begins_with_digit p)

-- ---- extensions

-- one letter or digit
abbrev pub is_singleton : Text → Bool
is_singleton p = has_characters 1 1 p

-- a single character between hyphens: no class but the singletons and the private pieces takes one character
abbrev pub is_single : Text → Bool
is_single p = length p == 1

-- an attribute of `u`: 3 to 8 letters and digits
abbrev pub is_attribute : Text → Bool
is_attribute p = has_characters 3 8 p

-- a piece of the value of a keyword or a field: 3 to 8 letters and digits
abbrev pub is_value : Text → Bool
is_value p = has_characters 3 8 p

-- the key of a keyword: a letter or digit, then a letter
abbrev pub is_key : Text → Bool
is_key (first ∷ second ∷ []) = is_ascii_alphanumeric first && is_ascii_alphabetic second
is_key _ = false

-- the key of a field: a letter, then a digit
abbrev pub is_field_key : Text → Bool
is_field_key (first ∷ second ∷ []) = is_ascii_alphabetic first && is_ascii_digit second
is_field_key _ = false

-- a piece of any other extension: 2 to 8 letters and digits
abbrev pub is_other_piece : Text → Bool
is_other_piece p = has_characters 2 8 p

-- a private piece: 1 to 8 letters and digits
abbrev pub is_private_piece : Text → Bool
is_private_piece p = has_characters 1 8 p

-- ---- case

abbrev pub lower : Text → Text
lower p = map to_ascii_lowercase p

abbrev pub upper : Text → Text
upper p = map to_ascii_uppercase p

-- the first letter upper case, the others lower
abbrev pub title : Text → Text
title [] = []
title (first ∷ rest) = to_ascii_uppercase first ∷ lower rest

-- ---- words and singletons of their own, in either case

-- the two texts are one
abbrev pub same_text : Text → Text → Bool
same_text a b = pointwise nat_eq a b

-- p is the text w but for its case, where w is in lower case
abbrev pub spells : Text → Text → Bool
spells w p = same_text w (lower p)

abbrev pub true_text : Text
true_text = codes "true"

abbrev pub transform_text : Text
transform_text = codes "t"

abbrev pub unicode_text : Text
unicode_text = codes "u"

abbrev pub private_text : Text
private_text = codes "x"

abbrev pub is_true : Text → Bool
is_true p = spells true_text p

abbrev pub is_transform : Text → Bool
is_transform p = spells transform_text p

abbrev pub is_unicode : Text → Bool
is_unicode p = spells unicode_text p

abbrev pub is_private : Text → Bool
is_private p = spells private_text p

-- the singleton of an extension that has no rule of its own
abbrev pub is_other : Text → Bool
is_other p = is_singleton p && not (is_unicode p || (is_transform p || is_private p))
