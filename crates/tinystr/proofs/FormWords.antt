-- What a form gives to the calls on words: its bytes are ASCII with the NULs last, and NULs that pass a test leave the answer to the text.
use Rattle.std.proofs.Common.{◌≡◌, ℕ, suc, zero, ◌-◌, Bool, true, false, ◌&&◌, ◌||◌, List, [], ◌∷◌, ◌++◌, length, replicate, nat_eq, refl, sym, ap, subst, arith, ◌∙◌}
use Rattle.std.specs.List.{list_all}
use Rattle.std.specs.Str.{IsAscii}
use Rattle.std.proofs.Math.Bool.{and-true}
use Rattle.std.proofs.lemmas.Bool.{and_parts}
use Rattle.std.proofs.lemmas.Bool.Decides.{nat_tests}
use Rattle.std.proofs.lemmas.List.Folds.{list_all-append}
use Rattle.tinystr_words.specs.Words.{are_nuls, nuls_last, text_bytes, or_nul}
use Rattle.tinystr_words.proofs.CutLaws.{all_nuls, nuls_counted}
use Rattle.tinystr.specs.SmallText.{NUL, is_text_byte, IsForm, padded, text_of}
use Rattle.tinystr.specs.Classes.{is_in_class}
use Rattle.tinystr.proofs.WordLemmas.{IsAscii-padded}

pub form_ascii : (n : ℕ) (bytes : List ℕ) → IsForm n bytes → IsAscii bytes
form_ascii n bytes form = subst IsAscii (sym form.rest) (IsAscii-padded n (text_of bytes) form.small)

-- ---- the length
nuls : (k : ℕ) → are_nuls (replicate k NUL) ≡ true
nuls zero = refl
nuls (suc k) = nuls k

nuls_end : (k : ℕ) → nuls_last (replicate k NUL) ≡ true
nuls_end zero = refl
nuls_end (suc k) = nuls k

nuls_after : (text : List ℕ) (k : ℕ) → list_all is_text_byte text ≡ true → nuls_last (text ++ replicate k NUL) ≡ true
nuls_after [] k ascii = nuls_end k
nuls_after (zero ∷ bs) k ascii = let e : false ≡ true = ascii in cc
nuls_after (suc b ∷ bs) k ascii = nuls_after bs k (and_parts (is_text_byte (suc b)) (list_all is_text_byte bs) ascii).1

counted : (text : List ℕ) (k : ℕ) → list_all is_text_byte text ≡ true → text_bytes (text ++ replicate k NUL) ≡ length text
counted [] k ascii = nuls_counted k
counted (zero ∷ bs) k ascii = let e : false ≡ true = ascii in cc
counted (suc b ∷ bs) k ascii = ap suc (counted bs k (and_parts (is_text_byte (suc b)) (list_all is_text_byte bs) ascii).1)

pub form_nuls_last : (n : ℕ) (bytes : List ℕ) → IsForm n bytes → nuls_last bytes ≡ true
unfolding padded
form_nuls_last n bytes form = ap nuls_last form.rest ∙ nuls_after (text_of bytes) (n - length (text_of bytes)) form.small.ascii

pub form_text_bytes : (n : ℕ) (bytes : List ℕ) → IsForm n bytes → text_bytes bytes ≡ length (text_of bytes)
unfolding padded
form_text_bytes n bytes form = ap text_bytes form.rest ∙ counted (text_of bytes) (n - length (text_of bytes)) form.small.ascii

-- ---- a test of every byte
all_after : (p : ℕ → Bool) → p 0 ≡ true → (text : List ℕ) (k : ℕ) → list_all p (text ++ replicate k NUL) ≡ list_all p text
all_after p some text k = list_all-append p text (replicate k NUL) ∙ ap (λ t. list_all p text && t) (all_nuls p some k) ∙ and-true (list_all p text)

pub all_padded : (p : ℕ → Bool) → p 0 ≡ true → (n : ℕ) (text : List ℕ) → list_all p (padded n text) ≡ list_all p text
unfolding padded
all_padded p some n text = all_after p some text (n - length text)

no_nul : (b : ℕ) → is_text_byte b ≡ true → nat_eq b 0 ≡ false
no_nul b h = grind (arith, nat_tests, h)

or_nul_byte : (p : ℕ → Bool) (b : ℕ) → is_text_byte b ≡ true → or_nul p b ≡ p b
or_nul_byte p b h = ap (λ z. z || p b) (no_nul b h)

pub all_or_nul : (p : ℕ → Bool) (text : List ℕ) → list_all is_text_byte text ≡ true → list_all (or_nul p) text ≡ list_all p text
all_or_nul p [] ascii = refl
all_or_nul p (b ∷ bs) ascii =
    let both = and_parts (is_text_byte b) (list_all is_text_byte bs) ascii in
    λ i. or_nul_byte p b both.0 i && all_or_nul p bs both.1 i

-- ---- one test for the first byte, one for the rest
class_nuls : (f r : ℕ → Bool) → f 0 ≡ true → r 0 ≡ true → (k : ℕ) → is_in_class f r (replicate k NUL) ≡ true
class_nuls f r first rest zero = refl
class_nuls f r first rest (suc k) = rw first (all_nuls r rest k)

class_after : (f r : ℕ → Bool) → f 0 ≡ true → r 0 ≡ true → (text : List ℕ) (k : ℕ) → is_in_class f r (text ++ replicate k NUL) ≡ is_in_class f r text
class_after f r first rest [] k = class_nuls f r first rest k
class_after f r first rest (b ∷ bs) k = ap (λ t. f b && t) (all_after r rest bs k)

pub class_padded : (f r : ℕ → Bool) → f 0 ≡ true → r 0 ≡ true → (n : ℕ) (text : List ℕ) → is_in_class f r (padded n text) ≡ is_in_class f r text
unfolding padded
class_padded f r first rest n text = class_after f r first rest text (n - length text)

pub class_or_nul : (f r : ℕ → Bool) (text : List ℕ) → list_all is_text_byte text ≡ true → is_in_class (or_nul f) (or_nul r) text ≡ is_in_class f r text
class_or_nul f r [] ascii = refl
class_or_nul f r (b ∷ bs) ascii =
    let both = and_parts (is_text_byte b) (list_all is_text_byte bs) ascii in
    λ i. or_nul_byte f b both.0 i && all_or_nul r bs both.1 i

-- what is after the first byte
pub rest_ascii : (bytes : List ℕ) (b : ℕ) (rest : List ℕ) → bytes ≡ b ∷ rest → IsAscii bytes → IsAscii rest
rest_ascii bytes b rest is ascii = let whole : IsAscii (b ∷ rest) = subst IsAscii is ascii in λ i. whole (suc i)

-- ---- a form asked as a whole
pub form_all : (p : ℕ → Bool) (n : ℕ) (bytes : List ℕ) → IsForm n bytes → list_all (or_nul p) bytes ≡ list_all p (text_of bytes)
form_all p n bytes form =
    ap (list_all (or_nul p)) form.rest ∙ all_padded (or_nul p) refl n (text_of bytes) ∙ all_or_nul p (text_of bytes) form.small.ascii

pub form_none : (p : ℕ → Bool) → p 0 ≡ true → (n : ℕ) (bytes : List ℕ) → IsForm n bytes → list_all p bytes ≡ list_all p (text_of bytes)
form_none p some n bytes form = ap (list_all p) form.rest ∙ all_padded p some n (text_of bytes)
