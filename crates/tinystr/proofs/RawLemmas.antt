-- N bytes: those with no fault but NULs at the end are the form of their text, and those with a fault are none.
use mathlib.Core.List.{head-eq_of_cons-eq, tail-eq_of_cons-eq}
use Rattle.std.proofs.Common.{◌≡◌, ℕ, suc, zero, ◌+◌, ◌-◌, ◌<◌, ◌≤◌, Bool, true, false, inl, inr, List, [], ◌∷◌, ◌++◌, length, replicate, refl, sym, ap, arith, ◌∙◌}
use Rattle.std.specs.List.{list_all}
use Rattle.std.specs.Int.{is_in_range}
use Rattle.std.proofs.lemmas.Bool.{and_parts, and_from}
use Rattle.std.proofs.lemmas.Bool.Decides.{nat_tests}
use Rattle.std.proofs.lemmas.List.{append_assoc, length-append, length-replicate}
use Rattle.std.proofs.lemmas.List.Folds.{list_all-append}
use Rattle.tinystr.specs.SmallText.{NUL, LAST_ASCII, is_nul, is_text_byte, IsForm, padded, text_of}
use Rattle.tinystr.specs.declared.error.ParseError.{ParseError}
use Rattle.tinystr.specs.declared.error.ParseError.TheVariants.{TooLong, ContainsNull, NonAscii}
use Rattle.tinystr.specs.Faults.{IsClean, StopsAtNonAscii, StopsAfterNul, IsFault}
use Rattle.tinystr.proofs.SmallTextLemmas.{IsForm-of}

-- a text and NULs, n bytes in all, are a form
pub clean_is_padded : (n nuls : ℕ) (text units : List ℕ) → units ≡ text ++ replicate nuls NUL → length units ≡ n → units ≡ padded n text
unfolding padded
clean_is_padded n nuls text units whole long =
    let sum : length units ≡ length text + nuls = ap length whole ∙ length-append text (replicate nuls NUL) ∙ ap (λ k. length text + k) (length-replicate nuls NUL) in
    let count : nuls ≡ n - length text = omega arith in
    whole ∙ ap (λ k. text ++ replicate k NUL) count

pub IsForm-clean : (n nuls : ℕ) (units : List ℕ) → IsClean nuls units → length units ≡ n → IsForm n units
IsForm-clean n nuls units clean long =
    let sum : length units ≡ length clean.text + length (replicate nuls NUL) = ap length clean.whole ∙ length-append clean.text (replicate nuls NUL) in
    let short : length clean.text ≤ n = omega arith in
    IsForm-of n clean.text units (record { short = short; ascii = clean.ascii }) (clean_is_padded n nuls clean.text units clean.whole long)

-- every unit of a form is ASCII
is_low : ℕ → Bool
is_low b = is_in_range 0 LAST_ASCII b

text_is_low : (text : List ℕ) → list_all is_text_byte text ≡ true → list_all is_low text ≡ true
unfolding is_low
text_is_low [] all = refl
text_is_low (b ∷ bs) all =
    let both = and_parts (is_text_byte b) (list_all is_text_byte bs) all in
    let low : is_low b ≡ true = grind (arith, nat_tests, both.0) in
    and_from (is_low b) (list_all is_low bs) low (text_is_low bs both.1)

nuls_are_low : (k : ℕ) → list_all is_low (replicate k NUL) ≡ true
unfolding is_low
nuls_are_low zero = refl
nuls_are_low (suc k) = nuls_are_low k

high_is_not_low : (unit : ℕ) → LAST_ASCII < unit → is_low unit ≡ true → ⊥
unfolding is_low
high_is_not_low unit above low = grind (arith, nat_tests)

-- what is at a place meets what all meet
all_at : (test : ℕ → Bool) (front : List ℕ) (unit : ℕ) (rest : List ℕ) → list_all test (front ++ unit ∷ rest) ≡ true → test unit ≡ true
all_at test front unit rest all =
    let both = and_parts (list_all test front) (list_all test (unit ∷ rest)) (sym (list_all-append test front (unit ∷ rest)) ∙ all) in
    let here = and_parts (test unit) (list_all test rest) both.1 in
    here.0

nuls_are_nul : (k : ℕ) → list_all is_nul (replicate k NUL) ≡ true
nuls_are_nul zero = refl
nuls_are_nul (suc k) = nuls_are_nul k

text_byte_and_nul : (unit : ℕ) → is_text_byte unit ≡ true → is_nul unit ≡ true → ⊥
text_byte_and_nul unit is nul = grind (arith, nat_tests)

nul_is_no_text_byte : (b : ℕ) → is_text_byte b ≡ true → b ≡ NUL → ⊥
nul_is_no_text_byte b is e = grind (arith, nat_tests)

-- after the NUL of a text and NULs no text byte is
pub no_text_after : (text front : List ℕ) (k nuls unit : ℕ) (rest : List ℕ)
    → list_all is_text_byte text ≡ true → list_all is_text_byte front ≡ true → is_text_byte unit ≡ true
    → text ++ replicate k NUL ≡ front ++ (replicate (suc nuls) NUL ++ unit ∷ rest) → ⊥
no_text_after [] front k nuls unit rest one two is e =
    let all : list_all is_nul ((front ++ replicate (suc nuls) NUL) ++ unit ∷ rest) ≡ true =
    ap (list_all is_nul) (append_assoc front (replicate (suc nuls) NUL) (unit ∷ rest) ∙ sym e) ∙ nuls_are_nul k in
    text_byte_and_nul unit is (all_at is_nul (front ++ replicate (suc nuls) NUL) unit rest all)
no_text_after (b ∷ bs) [] k nuls unit rest one two is e =
    let both = and_parts (is_text_byte b) (list_all is_text_byte bs) one in
    nul_is_no_text_byte b both.0 (head-eq_of_cons-eq e)
no_text_after (b ∷ bs) (d ∷ ds) k nuls unit rest one two is e =
    let both = and_parts (is_text_byte b) (list_all is_text_byte bs) one in
    let other = and_parts (is_text_byte d) (list_all is_text_byte ds) two in
    no_text_after bs ds k nuls unit rest both.1 other.1 is
    (tail-eq_of_cons-eq e)

-- what is a text and NULs has no fault but NULs at the end
pub clean_refuses_high : (k : ℕ) (units : List ℕ) → IsClean k units → StopsAtNonAscii units → ⊥
clean_refuses_high k units clean stop =
    let low : list_all is_low (clean.text ++ replicate k NUL) ≡ true =
    list_all-append is_low clean.text (replicate k NUL) ∙ and_from (list_all is_low clean.text) (list_all is_low (replicate k NUL)) (text_is_low clean.text clean.ascii) (nuls_are_low k) in
    let all : list_all is_low (stop.front ++ stop.unit ∷ stop.rest) ≡ true = ap (list_all is_low) (sym stop.whole ∙ clean.whole) ∙ low in
    high_is_not_low stop.unit stop.above (all_at is_low stop.front stop.unit stop.rest all)

pub clean_refuses_after : (k : ℕ) (units : List ℕ) → IsClean k units → StopsAfterNul units → ⊥
clean_refuses_after k units clean stop =
    no_text_after clean.text stop.clean.text k stop.nuls stop.unit stop.rest clean.ascii stop.clean.ascii stop.behind
    (sym clean.whole ∙ stop.whole ∙ ap (λ l. l ++ stop.unit ∷ stop.rest) stop.clean.whole
    ∙ append_assoc stop.clean.text (replicate (suc stop.nuls) NUL) (stop.unit ∷ stop.rest))

form_is_clean : (n : ℕ) (units : List ℕ) → IsForm n units → IsClean (n - length (text_of units)) units
unfolding padded
form_is_clean n units form = record { text = text_of units; ascii = form.small.ascii; whole = form.rest }

-- what is refused is no form
pub fault_is_no_form : (n : ℕ) (units : List ℕ) (e : ParseError) → length units ≤ n → IsFault false n units e → IsForm n units → ⊥
fault_is_no_form n units (TooLong max len) short fault form = omega (arith, fault.0)
fault_is_no_form n units NonAscii short fault form = clean_refuses_high (n - length (text_of units)) units (form_is_clean n units form) fault.1
fault_is_no_form n units ContainsNull short fault form = elim fault.1 [
  | inl stop ↦ clean_refuses_after (n - length (text_of units)) units (form_is_clean n units form) stop
  | inr ends ↦ let e : false ≡ true = ends.0 in cc
]
