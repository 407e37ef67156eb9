-- Texts and their forms: what is before the first NUL of a text and NULs is the text.
use Rattle.std.proofs.Common.{◌≡◌, ℕ, suc, zero, ◌+◌, ◌-◌, ◌<◌, ◌≤◌, min, true, false, not, List, [], ◌∷◌, ◌++◌, length, take, drop, replicate, refl, sym, ap, arith, one-add, ◌∙◌}
use Rattle.std.specs.List.{list_all, position_or_len}
use Rattle.std.specs.Str.{IsAscii}
use Rattle.std.proofs.Math.Seq.{take-append-add}
use Rattle.std.proofs.lemmas.Bool.{and_parts, and_from}
use Rattle.std.proofs.lemmas.Bool.Decides.{nat_tests}
use Rattle.std.proofs.lemmas.List.{append_assoc, length-append, length-take, length-replicate, take-replicate, drop-replicate, drop-drop, drop_at, take_at, take_min, replicate-append-replicate}
use Rattle.std.proofs.lemmas.List.Folds.{length-prefix_len, list_all-append}
use Rattle.std.proofs.lemmas.Str.Ascii.{IsAscii-cons, IsAscii-nil}
use Rattle.tinystr.specs.SmallText.{NUL, is_nul, is_text_byte, IsSmall, IsForm, padded, text_of}

pub text_byte_is_no_nul : (b : ℕ) → is_text_byte b ≡ true → is_nul b ≡ false
text_byte_is_no_nul b h = grind (arith, nat_tests)

-- a text byte stays in front of the text of what follows it
pub text_of-cons : (b : ℕ) (bs : List ℕ) → is_nul b ≡ false → text_of (b ∷ bs) ≡ b ∷ text_of bs
text_of-cons b bs h = rw (h, one-add) refl

-- a text in front of bytes that begin with no text is their text
pub text_of-front : (text rest : List ℕ) → list_all is_text_byte text ≡ true → text_of rest ≡ [] → text_of (text ++ rest) ≡ text
text_of-front [] rest ascii none = none
text_of-front (b ∷ bs) rest ascii none =
    let both = and_parts (is_text_byte b) (list_all is_text_byte bs) ascii in
    text_of-cons b (bs ++ rest) (text_byte_is_no_nul b both.0) ∙ ap (λ l. b ∷ l) (text_of-front bs rest both.1 none)

pub text_of-nuls : (k : ℕ) → text_of (replicate k NUL) ≡ []
text_of-nuls zero = refl
text_of-nuls (suc k) = refl

pub text_of-padded : (n : ℕ) (text : List ℕ) → list_all is_text_byte text ≡ true → text_of (padded n text) ≡ text
unfolding padded
text_of-padded n text ascii = text_of-front text (replicate (n - length text) NUL) ascii (text_of-nuls (n - length text))

pub IsForm-padded : (n : ℕ) (text : List ℕ) → IsSmall n text → IsForm n (padded n text)
IsForm-padded n text small =
    let same : text_of (padded n text) ≡ text = text_of-padded n text small.ascii in
    record { small = rw same small; rest = rw same refl }

-- the same for bytes that are known to be a text and NULs
pub IsForm-of : (n : ℕ) (text bytes : List ℕ) → IsSmall n text → bytes ≡ padded n text → IsForm n bytes
IsForm-of n text bytes small e = rw e (IsForm-padded n text small)

pub text_of-of : (n : ℕ) (text bytes : List ℕ) → IsSmall n text → bytes ≡ padded n text → text_of bytes ≡ text
text_of-of n text bytes small e = rw e (text_of-padded n text small.ascii)

pub length-text_of : (bytes : List ℕ) → length (text_of bytes) ≡ position_or_len is_nul bytes
length-text_of bytes = length-prefix_len (λ b. not (is_nul b)) bytes

-- the form of the empty text
pub padded-nil : (n : ℕ) → padded n [] ≡ replicate n NUL
unfolding padded
padded-nil n = let e : n - 0 ≡ n = omega arith in ap (λ k. replicate k NUL) e

pub IsForm-nuls : (n : ℕ) → IsForm n (replicate n NUL)
IsForm-nuls n = IsForm-of n [] (replicate n NUL) (record { short = omega arith; ascii = refl }) (sym (padded-nil n))

-- a text is ASCII
pub IsAscii-text : (text : List ℕ) → list_all is_text_byte text ≡ true → IsAscii text
IsAscii-text [] ascii = IsAscii-nil
IsAscii-text (b ∷ bs) ascii =
    let both = and_parts (is_text_byte b) (list_all is_text_byte bs) ascii in
    let below : b < 128 = grind (arith, nat_tests, both.0) in
    IsAscii-cons b bs below (IsAscii-text bs both.1)

-- a text that is written over NULs after another text gives the form of both joined
pub put_gives_form : (n : ℕ) (front text bytes : List ℕ) → length front + length text ≤ n
    → bytes ≡ take (length front) (padded n front) ++ (text ++ drop (length front + length text) (padded n front))
    → bytes ≡ padded n (front ++ text)
unfolding padded
put_gives_form n front text bytes fits e =
    let nuls = replicate (n - length front) NUL in
    let kept : take (length front) (front ++ nuls) ≡ front = take_at front nuls (length front) refl in
    let skipped : drop (length front + length text) (front ++ nuls) ≡ drop (length text) nuls =
    sym (drop-drop (length text) (length front) (front ++ nuls)) ∙ ap (drop (length text)) (drop_at front nuls (length front) refl) in
    let left : drop (length text) nuls ≡ replicate (n - length front - length text) NUL = drop-replicate (length text) (n - length front) NUL in
    let long : length (front ++ text) ≡ length front + length text = length-append front text in
    let count : n - length front - length text ≡ n - length (front ++ text) = omega arith in
    let behind : drop (length front + length text) (front ++ nuls) ≡ replicate (n - length (front ++ text)) NUL =
    skipped ∙ left ∙ ap (λ k. replicate k NUL) count in
    e ∙ ap (λ l. l ++ (text ++ drop (length front + length text) (front ++ nuls))) kept
    ∙ ap (λ l. front ++ (text ++ l)) behind
    ∙ sym (append_assoc front text (replicate (n - length (front ++ text)) NUL))

-- the same over NULs alone
pub put_first_gives_form : (n : ℕ) (text bytes : List ℕ) → length text ≤ n
    → bytes ≡ take 0 (replicate n NUL) ++ (text ++ drop (0 + length text) (replicate n NUL)) → bytes ≡ padded n text
unfolding padded
put_first_gives_form n text bytes fits e =
    let zero_more : 0 + length text ≡ length text = omega arith in
    e ∙ ap (λ l. text ++ l) (ap (λ k. drop k (replicate n NUL)) zero_more ∙ drop-replicate (length text) n NUL)

-- a part of a small text
pub list_all-take : (k : ℕ) (text : List ℕ) → list_all is_text_byte text ≡ true → list_all is_text_byte (take k text) ≡ true
list_all-take zero text h = refl
list_all-take (suc k) [] h = refl
list_all-take (suc k) (b ∷ bs) h =
    let both = and_parts (is_text_byte b) (list_all is_text_byte bs) h in
    and_from (is_text_byte b) (list_all is_text_byte (take k bs)) both.0 (list_all-take k bs both.1)

pub IsSmall-take : (k n : ℕ) (text : List ℕ) → k ≤ n → list_all is_text_byte text ≡ true → IsSmall n (take k text)
IsSmall-take k n text le ascii = record {
  short = omega (arith, length-take k text);
  ascii = list_all-take k text ascii;
}

pub IsSmall-append : (n : ℕ) (front text : List ℕ) → length front + length text ≤ n
    → list_all is_text_byte front ≡ true → list_all is_text_byte text ≡ true → IsSmall n (front ++ text)
IsSmall-append n front text fits first second = record {
  short = omega (arith, length-append front text);
  ascii = list_all-append is_text_byte front text ∙ and_from (list_all is_text_byte front) (list_all is_text_byte text) first second;
}

-- the first q of two texts joined are the first q of the one, and as many of the other as then fit
pub take-joined : (q : ℕ) (front text : List ℕ) → take q (front ++ text) ≡ take q front ++ take (min (length text) (q - length (take q front))) text
take-joined zero front text = let e : min (length text) (0 - 0) ≡ 0 = omega arith in sym (ap (λ k. take k text) e)
take-joined (suc q) [] text = sym (let e : min (length text) (suc q - 0) ≡ min (suc q) (length text) = omega arith in ap (λ k. take k text) e ∙ take_min (suc q) text)
take-joined (suc q) (b ∷ bs) text =
    let e : suc q - suc (length (take q bs)) ≡ q - length (take q bs) = omega arith in
    ap (λ l. b ∷ l) (take-joined q bs text ∙ ap (λ k. take q bs ++ take (min (length text) k) text) (sym e))

pub front_gives_form : (n : ℕ) (text bytes : List ℕ) → bytes ≡ text ++ drop (length text) (replicate n NUL) → bytes ≡ padded n text
unfolding padded
front_gives_form n text bytes e = e ∙ ap (λ l. text ++ l) (drop-replicate (length text) n NUL)

-- the first k bytes of a text filled up with NULs to eight, written over NULs
pub word_gives_form : (k n : ℕ) (text eight bytes : List ℕ) → k ≤ 8 → k ≤ n → length text ≤ k → eight ≡ text ++ replicate (8 - length text) NUL
    → bytes ≡ take 0 (replicate n NUL) ++ (take k eight ++ drop (0 + length (take k eight)) (replicate n NUL)) → bytes ≡ padded n text
unfolding padded
word_gives_form k n text eight bytes narrow within fits made e =
    let nuls = replicate (8 - length text) NUL in
    let whole : length eight ≡ 8 = ap length made ∙ omega (arith, length-append text nuls, length-replicate {A = ℕ}, narrow, fits) in
    let long : 0 + length (take k eight) ≡ k = omega (arith, length-take k eight, whole, narrow) in
    let behind : drop (0 + length (take k eight)) (replicate n NUL) ≡ replicate (n - k) NUL = ap (λ i. drop i (replicate n NUL)) long ∙ drop-replicate k n NUL in
    let more : k ≡ length text + (k - length text) = omega (arith, fits) in
    let front : take k eight ≡ text ++ replicate (k - length text) NUL =
    ap (take k) made ∙ ap (λ i. take i (text ++ nuls)) more ∙ take-append-add text nuls (k - length text)
    ∙ ap (λ l. text ++ l) (take-replicate (k - length text) (8 - length text) NUL (omega (arith, narrow))) in
    let all : (k - length text) + (n - k) ≡ n - length text = omega (arith, fits, within) in
    e ∙ ap (λ l. take k eight ++ l) behind ∙ ap (λ l. l ++ replicate (n - k) NUL) front
    ∙ append_assoc text (replicate (k - length text) NUL) (replicate (n - k) NUL)
    ∙ ap (λ l. text ++ l) (replicate-append-replicate (k - length text) (n - k) NUL ∙ ap (λ i. replicate i NUL) all)
