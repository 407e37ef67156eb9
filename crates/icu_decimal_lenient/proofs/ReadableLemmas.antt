-- Folded texts compared and looked through, one character after another.
use Rattle.std.proofs.Common.{◌≡◌, ℕ, ◌==◌, ◌&&◌, Bool, true, false, List, [], ◌∷◌, Option, None, Some, is_none, is_some, refl, sym, ap, ◌∙◌}
use Rattle.std.proofs.lemmas.Bool.{and_left, eq-eqb, false≢true, ne_eqb}
use Rattle.std.proofs.lemmas.Str.{encodes_same}
use Rattle.std.specs.Cmp.{both_ways}
use Rattle.std.specs.Cmp.Lexicographic.{bytes_decides}
use Rattle.std.specs.List.{list_all}
use Rattle.std.specs.Str.{bytes_eq, chars}
use lib.Utf8.{encodes}
use Rattle.icu_decimal_reading.specs.Readable.{digit_of}
use Rattle.icu_decimal_lenient.specs.Folding.{folded_chars, folded_text}

-- ---- digits

clear_by : (o : Option ℕ) (r : Bool) → true ≡ is_some o → (is_none o && r) ≡ false
clear_by None r some = absurd (false≢true (sym some))
clear_by (Some d) r some = refl

other_by : (o : Option ℕ) (r : Bool) → false ≡ is_some o → (is_none o && r) ≡ r
other_by None r none = refl
other_by (Some d) r none = absurd (false≢true none)

pub lacks_not : (ds cs rest : List ℕ) (c : ℕ) (whole : Bool) → cs ≡ c ∷ rest → true ≡ is_some (digit_of ds c) → list_all (λ e. is_none (digit_of ds e)) cs ≡ whole → false ≡ whole
lacks_not ds cs rest c whole is some before = sym (ap (list_all (λ e. is_none (digit_of ds e))) is ∙ clear_by (digit_of ds c) _ some) ∙ before

pub lacks_more : (ds cs rest : List ℕ) (c : ℕ) (whole : Bool) → cs ≡ c ∷ rest → false ≡ is_some (digit_of ds c) → list_all (λ e. is_none (digit_of ds e)) cs ≡ whole → list_all (λ e. is_none (digit_of ds e)) rest ≡ whole
lacks_more ds cs rest c whole is none before = sym (ap (list_all (λ e. is_none (digit_of ds e))) is ∙ other_by (digit_of ds c) _ none) ∙ before

pub lacks_end : (ds cs : List ℕ) (whole : Bool) → cs ≡ [] → list_all (λ e. is_none (digit_of ds e)) cs ≡ whole → true ≡ whole
lacks_end ds cs whole is before = sym (ap (list_all (λ e. is_none (digit_of ds e))) is) ∙ before

-- ---- two texts

pub alike_more : (xs ys xr yr : List ℕ) (x y : ℕ) (whole : Bool) → xs ≡ x ∷ xr → ys ≡ y ∷ yr → y ≡ x → bytes_eq xs ys ≡ whole → bytes_eq xr yr ≡ whole
alike_more xs ys xr yr x y whole is are same before =
    sym (ap (λ t. bytes_eq t ys) is ∙ ap (bytes_eq (x ∷ xr)) are ∙ ap (λ b. b && bytes_eq xr yr) (eq-eqb x y (sym same))) ∙ before

pub alike_apart : (xs ys xr yr : List ℕ) (x y : ℕ) (whole : Bool) → xs ≡ x ∷ xr → ys ≡ y ∷ yr → (y ≡ x → ⊥) → bytes_eq xs ys ≡ whole → false ≡ whole
alike_apart xs ys xr yr x y whole is are apart before =
    sym (ap (λ t. bytes_eq t ys) is ∙ ap (bytes_eq (x ∷ xr)) are ∙ and_left (x == y) (bytes_eq xr yr) (ne_eqb x y (λ same. apart (sym same)))) ∙ before

pub alike_short : (xs ys xr : List ℕ) (x : ℕ) (whole : Bool) → xs ≡ x ∷ xr → ys ≡ [] → bytes_eq xs ys ≡ whole → false ≡ whole
alike_short xs ys xr x whole is are before = sym (ap (λ t. bytes_eq t ys) is ∙ ap (bytes_eq (x ∷ xr)) are) ∙ before

pub alike_long : (xs ys yr : List ℕ) (y : ℕ) (whole : Bool) → xs ≡ [] → ys ≡ y ∷ yr → bytes_eq xs ys ≡ whole → false ≡ whole
alike_long xs ys yr y whole is are before = sym (ap (λ t. bytes_eq t ys) is ∙ ap (bytes_eq []) are) ∙ before

pub alike_end : (xs ys : List ℕ) (whole : Bool) → xs ≡ [] → ys ≡ [] → bytes_eq xs ys ≡ whole → true ≡ whole
alike_end xs ys whole is are before = sym (ap (λ t. bytes_eq t ys) is ∙ ap (bytes_eq []) are) ∙ before

-- texts are one where their characters are
pub same_encoded : (cs ds : List ℕ) → bytes_eq (encodes cs) (encodes ds) ≡ bytes_eq cs ds
same_encoded cs ds = both_ways (bytes_eq (encodes cs) (encodes ds)) (bytes_eq cs ds)
    (λ same. (bytes_decides cs ds).1 (encodes_same cs ds ((bytes_decides (encodes cs) (encodes ds)).0 same)))
    (λ same. (bytes_decides (encodes cs) (encodes ds)).1 (ap encodes ((bytes_decides cs ds).0 same)))

-- ---- nothing

pub some_left : (ds text rest : List ℕ) (c : ℕ) → folded_chars ds (chars text) ≡ c ∷ rest → false ≡ bytes_eq (folded_text ds text) []
some_left ds text rest c is = sym (same_encoded (folded_chars ds (chars text)) [] ∙ ap (λ t. bytes_eq t []) is)

pub none_left : (ds text : List ℕ) → folded_chars ds (chars text) ≡ [] → true ≡ bytes_eq (folded_text ds text) []
none_left ds text is = sym (same_encoded (folded_chars ds (chars text)) [] ∙ ap (λ t. bytes_eq t []) is)
