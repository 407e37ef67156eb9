-- A text that is trimmed and filled is a text.
use Rattle.std.proofs.Common.{◌≡◌, ℕ, Bool, true, false, cond, ◌&&◌, ◌==◌, List, [], ◌∷◌, length, is_none, is_some, refl}
use Rattle.std.proofs.lemmas.Bool.{and_from, and_parts}
use Rattle.std.proofs.lemmas.Str.{scalars-chars}
use Rattle.std.specs.List.{list_all}
use Rattle.std.specs.Char.{is_whitespace}
use Rattle.std.specs.Str.{IsUtf8, chars, drop_trailing_whitespace, skip_leading_whitespace, trim, trim_end, trim_start}
use lib.Utf8.{encodes, scalar, scalars}
use Rattle.icu_decimal_lenient.specs.Folding.{plain_digits}
use Rattle.icu_decimal_lenient.specs.LenientReading.{filled, filled_text, past_separator, with_zero, without_point}
use Rattle.icu_decimal_reading.specs.PlainReading.{begins_fraction}
use Rattle.icu_decimal_reading.specs.Readable.{digit_of}

scalars_cond : (b : Bool) (xs ys : List ℕ) → scalars xs ≡ true → scalars ys ≡ true → scalars (cond b xs ys) ≡ true
scalars_cond true xs ys first second = first
scalars_cond false xs ys first second = second

skip_scalars : (cs : List ℕ) → scalars cs ≡ true → scalars (skip_leading_whitespace cs) ≡ true
skip_scalars [] are = refl
skip_scalars (c ∷ cs) are = scalars_cond (is_whitespace c) (skip_leading_whitespace cs) (c ∷ cs) (skip_scalars cs (and_parts (scalar c) (scalars cs) are).1) are

drop_scalars : (cs : List ℕ) → scalars cs ≡ true → scalars (drop_trailing_whitespace cs) ≡ true
drop_scalars [] are = refl
drop_scalars (c ∷ cs) are =
    let parts = and_parts (scalar c) (scalars cs) are in
    scalars_cond (is_whitespace c && length (drop_trailing_whitespace cs) == 0) [] (c ∷ drop_trailing_whitespace cs) refl (and_from (scalar c) (scalars (drop_trailing_whitespace cs)) parts.0 (drop_scalars cs parts.1))

encoded_utf8 : (cs : List ℕ) → scalars cs ≡ true → IsUtf8 (encodes cs)
encoded_utf8 cs are = (cs, (are, refl))

pub trim_utf8 : (text : List ℕ) → IsUtf8 text → IsUtf8 (trim text)
unfolding trim_start trim_end
trim_utf8 text utf8 =
    let first : IsUtf8 (trim_start text) = encoded_utf8 (skip_leading_whitespace (chars text)) (skip_scalars (chars text) (scalars-chars text utf8)) in
    encoded_utf8 (drop_trailing_whitespace (chars (trim_start text))) (drop_scalars (chars (trim_start text)) (scalars-chars (trim_start text) first))

past_scalars : (all sep cs : List ℕ) → scalars all ≡ true → scalars cs ≡ true → scalars (past_separator all sep cs) ≡ true
past_scalars all [] cs whole are = are
past_scalars all (p ∷ ps) [] whole are = whole
past_scalars all (p ∷ ps) (c ∷ cs) whole are =
    scalars_cond (p == c) (past_separator all ps cs) all (past_scalars all ps cs whole (and_parts (scalar c) (scalars cs) are).1) whole

point_scalars : (sep cs : List ℕ) → scalars cs ≡ true → scalars (without_point sep cs) ≡ true
point_scalars sep [] are = refl
point_scalars sep (c ∷ cs) are =
    let parts = and_parts (scalar c) (scalars cs) are in
    let last : Bool = is_some (digit_of plain_digits c) && list_all (λ d. is_none (digit_of plain_digits d)) cs in
    scalars_cond (is_some (digit_of plain_digits c) && begins_fraction plain_digits sep cs) (c ∷ cs) (cond last (c ∷ past_separator cs sep cs) (c ∷ without_point sep cs)) are
    (scalars_cond last (c ∷ past_separator cs sep cs) (c ∷ without_point sep cs)
    (and_from (scalar c) (scalars (past_separator cs sep cs)) parts.0 (past_scalars cs sep cs parts.1 parts.1))
    (and_from (scalar c) (scalars (without_point sep cs)) parts.0 (point_scalars sep cs parts.1)))

zero_scalars : (sep cs : List ℕ) → scalars cs ≡ true → scalars (with_zero sep cs) ≡ true
zero_scalars sep [] are = refl
zero_scalars sep (c ∷ cs) are =
    let parts = and_parts (scalar c) (scalars cs) are in
    scalars_cond (is_some (digit_of plain_digits c)) (c ∷ cs) (cond (begins_fraction plain_digits sep (c ∷ cs)) (48 ∷ c ∷ cs) (c ∷ with_zero sep cs)) are
    (scalars_cond (begins_fraction plain_digits sep (c ∷ cs)) (48 ∷ c ∷ cs) (c ∷ with_zero sep cs) are (and_from (scalar c) (scalars (with_zero sep cs)) parts.0 (zero_scalars sep cs parts.1)))

pub filled_utf8 : (separator text : List ℕ) → IsUtf8 text → IsUtf8 (filled_text separator text)
filled_utf8 separator text utf8 = encoded_utf8 (filled (chars separator) (chars text)) (point_scalars (chars separator) (with_zero (chars separator) (chars text)) (zero_scalars (chars separator) (chars text) (scalars-chars text utf8)))
