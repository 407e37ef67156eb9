-- Case changes: what they do to a form, and that they keep texts.
use Rattle.std.proofs.Common.{◌≡◌, ℕ, suc, zero, ◌-◌, true, List, [], ◌∷◌, ◌++◌, length, replicate, refl, ap, arith}
use Rattle.std.specs.List.{list_all}
use Rattle.std.specs.Char.{to_ascii_uppercase, to_ascii_lowercase}
use Rattle.std.proofs.lemmas.Bool.{and_parts, and_from}
use Rattle.std.proofs.lemmas.Bool.Decides.{nat_tests}
use Rattle.std.proofs.lemmas.List.{map-append, length-map}
use Rattle.tinystr_words.specs.Words.{map_first}
use Rattle.tinystr.specs.SmallText.{NUL, is_text_byte, IsSmall, padded}
use Rattle.tinystr.specs.Case.{lowercase, uppercase, titlecase}

lower_text_byte : (b : ℕ) → is_text_byte b ≡ true → is_text_byte (to_ascii_lowercase b) ≡ true
lower_text_byte b h = grind (arith, nat_tests)

upper_text_byte : (b : ℕ) → is_text_byte b ≡ true → is_text_byte (to_ascii_uppercase b) ≡ true
upper_text_byte b h = grind (arith, nat_tests)

lower_ascii : (text : List ℕ) → list_all is_text_byte text ≡ true → list_all is_text_byte (lowercase text) ≡ true
lower_ascii [] h = refl
lower_ascii (b ∷ bs) h =
    let both = and_parts (is_text_byte b) (list_all is_text_byte bs) h in
    and_from (is_text_byte (to_ascii_lowercase b)) (list_all is_text_byte (lowercase bs)) (lower_text_byte b both.0) (lower_ascii bs both.1)

upper_ascii : (text : List ℕ) → list_all is_text_byte text ≡ true → list_all is_text_byte (uppercase text) ≡ true
upper_ascii [] h = refl
upper_ascii (b ∷ bs) h =
    let both = and_parts (is_text_byte b) (list_all is_text_byte bs) h in
    and_from (is_text_byte (to_ascii_uppercase b)) (list_all is_text_byte (uppercase bs)) (upper_text_byte b both.0) (upper_ascii bs both.1)

title_ascii : (text : List ℕ) → list_all is_text_byte text ≡ true → list_all is_text_byte (titlecase text) ≡ true
title_ascii [] h = refl
title_ascii (b ∷ bs) h =
    let both = and_parts (is_text_byte b) (list_all is_text_byte bs) h in
    and_from (is_text_byte (to_ascii_uppercase b)) (list_all is_text_byte (lowercase bs)) (upper_text_byte b both.0) (lower_ascii bs both.1)

pub titled_first : (text : List ℕ) → map_first to_ascii_uppercase to_ascii_lowercase text ≡ titlecase text
titled_first [] = refl
titled_first (b ∷ bs) = refl

pub length-titlecase : (text : List ℕ) → length (titlecase text) ≡ length text
length-titlecase [] = refl
length-titlecase (b ∷ bs) = ap suc (length-map bs to_ascii_lowercase)

-- a small text stays one
pub IsSmall-lowercase : (n : ℕ) (text : List ℕ) → IsSmall n text → IsSmall n (lowercase text)
IsSmall-lowercase n text small = record {
  short = rw (length-map text to_ascii_lowercase) small.short;
  ascii = lower_ascii text small.ascii;
}

pub IsSmall-uppercase : (n : ℕ) (text : List ℕ) → IsSmall n text → IsSmall n (uppercase text)
IsSmall-uppercase n text small = record {
  short = rw (length-map text to_ascii_uppercase) small.short;
  ascii = upper_ascii text small.ascii;
}

pub IsSmall-titlecase : (n : ℕ) (text : List ℕ) → IsSmall n text → IsSmall n (titlecase text)
IsSmall-titlecase n text small = record {
  short = rw (length-titlecase text) small.short;
  ascii = title_ascii text small.ascii;
}

-- NULs stay NULs
lower_nuls : (k : ℕ) → lowercase (replicate k NUL) ≡ replicate k NUL
lower_nuls zero = refl
lower_nuls (suc k) = ap (λ l. NUL ∷ l) (lower_nuls k)

upper_nuls : (k : ℕ) → uppercase (replicate k NUL) ≡ replicate k NUL
upper_nuls zero = refl
upper_nuls (suc k) = ap (λ l. NUL ∷ l) (upper_nuls k)

-- a case change of a form is the form of the changed text
pub lower_padded : (n : ℕ) (text : List ℕ) → lowercase (padded n text) ≡ padded n (lowercase text)
unfolding padded
lower_padded n text =
    let long : length (lowercase text) ≡ length text = length-map text to_ascii_lowercase in
    rw (long, map-append to_ascii_lowercase text (replicate (n - length text) NUL), lower_nuls (n - length text)) refl

pub upper_padded : (n : ℕ) (text : List ℕ) → uppercase (padded n text) ≡ padded n (uppercase text)
unfolding padded
upper_padded n text =
    let long : length (uppercase text) ≡ length text = length-map text to_ascii_uppercase in
    rw (long, map-append to_ascii_uppercase text (replicate (n - length text) NUL), upper_nuls (n - length text)) refl

title_nuls : (k : ℕ) → titlecase (replicate k NUL) ≡ replicate k NUL
title_nuls zero = refl
title_nuls (suc k) = ap (λ l. NUL ∷ l) (lower_nuls k)

title_front : (text : List ℕ) (k : ℕ) → titlecase (text ++ replicate k NUL) ≡ titlecase text ++ replicate k NUL
title_front [] k = title_nuls k
title_front (b ∷ bs) k =
    ap (λ l. to_ascii_uppercase b ∷ l) (rw (map-append to_ascii_lowercase bs (replicate k NUL), lower_nuls k) refl)

pub title_padded : (n : ℕ) (text : List ℕ) → titlecase (padded n text) ≡ padded n (titlecase text)
unfolding padded
title_padded n text = rw (length-titlecase text) (title_front text (n - length text))
