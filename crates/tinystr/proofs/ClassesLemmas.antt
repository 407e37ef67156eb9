-- Classes of texts: a class on case holds exactly of the fixed points of the case change, and a class of letters in
-- one case is both.
use mathlib.Core.List.{head-eq_of_cons-eq, tail-eq_of_cons-eq}
use Rattle.std.proofs.Common.{◌≡◌, ℕ, Bool, true, false, ◌&&◌, List, [], ◌∷◌, refl, ap, arith, ◌∙◌, ◌↔◌, IsTrue}
use Rattle.std.specs.List.{list_all}
use Rattle.std.specs.Char.{is_ascii_alphabetic, is_ascii_uppercase, is_ascii_lowercase, to_ascii_uppercase, to_ascii_lowercase}
use Rattle.std.proofs.lemmas.Bool.{and_parts, and_from}
use Rattle.std.proofs.lemmas.Bool.Decides.{nat_tests}
use Rattle.tinystr.specs.Classes.{is_in_class, is_not_uppercase, is_not_lowercase}
use Rattle.tinystr.specs.Case.{lowercase, uppercase, titlecase}

lower_stays : (b : ℕ) → is_not_uppercase b ≡ true → to_ascii_lowercase b ≡ b
lower_stays b h = grind (arith, nat_tests)

lower_is_fixed : (b : ℕ) → to_ascii_lowercase b ≡ b → is_not_uppercase b ≡ true
lower_is_fixed b h = grind (arith, nat_tests)

upper_stays : (b : ℕ) → is_not_lowercase b ≡ true → to_ascii_uppercase b ≡ b
upper_stays b h = grind (arith, nat_tests)

upper_is_fixed : (b : ℕ) → to_ascii_uppercase b ≡ b → is_not_lowercase b ≡ true
upper_is_fixed b h = grind (arith, nat_tests)

lower_keeps : (text : List ℕ) → list_all is_not_uppercase text ≡ true → lowercase text ≡ text
lower_keeps [] h = refl
lower_keeps (b ∷ bs) h =
    let both = and_parts (is_not_uppercase b) (list_all is_not_uppercase bs) h in
    let first : to_ascii_lowercase b ≡ b = lower_stays b both.0 in
    let rest : lowercase bs ≡ bs = lower_keeps bs both.1 in
    cc

lower_kept : (text : List ℕ) → lowercase text ≡ text → list_all is_not_uppercase text ≡ true
lower_kept [] e = refl
lower_kept (b ∷ bs) e =
    and_from (is_not_uppercase b) (list_all is_not_uppercase bs)
    (lower_is_fixed b (head-eq_of_cons-eq e))
    (lower_kept bs (tail-eq_of_cons-eq e))

upper_keeps : (text : List ℕ) → list_all is_not_lowercase text ≡ true → uppercase text ≡ text
upper_keeps [] h = refl
upper_keeps (b ∷ bs) h =
    let both = and_parts (is_not_lowercase b) (list_all is_not_lowercase bs) h in
    let first : to_ascii_uppercase b ≡ b = upper_stays b both.0 in
    let rest : uppercase bs ≡ bs = upper_keeps bs both.1 in
    cc

upper_kept : (text : List ℕ) → uppercase text ≡ text → list_all is_not_lowercase text ≡ true
upper_kept [] e = refl
upper_kept (b ∷ bs) e =
    and_from (is_not_lowercase b) (list_all is_not_lowercase bs)
    (upper_is_fixed b (head-eq_of_cons-eq e))
    (upper_kept bs (tail-eq_of_cons-eq e))

pub lowercase_fixed : (text : List ℕ) → IsTrue (list_all is_not_uppercase text) ↔ (lowercase text ≡ text)
lowercase_fixed text = (lower_keeps text, lower_kept text)

pub uppercase_fixed : (text : List ℕ) → IsTrue (list_all is_not_lowercase text) ↔ (uppercase text ≡ text)
uppercase_fixed text = (upper_keeps text, upper_kept text)

title_keeps : (text : List ℕ) → is_in_class is_not_lowercase is_not_uppercase text ≡ true → titlecase text ≡ text
title_keeps [] h = refl
title_keeps (b ∷ bs) h =
    let both = and_parts (is_not_lowercase b) (list_all is_not_uppercase bs) h in
    let first : to_ascii_uppercase b ≡ b = upper_stays b both.0 in
    let rest : lowercase bs ≡ bs = lower_keeps bs both.1 in
    cc

title_kept : (text : List ℕ) → titlecase text ≡ text → is_in_class is_not_lowercase is_not_uppercase text ≡ true
title_kept [] e = refl
title_kept (b ∷ bs) e =
    and_from (is_not_lowercase b) (list_all is_not_uppercase bs)
    (upper_is_fixed b (head-eq_of_cons-eq e))
    (lower_kept bs (tail-eq_of_cons-eq e))

pub titlecase_fixed : (text : List ℕ) → IsTrue (is_in_class is_not_lowercase is_not_uppercase text) ↔ (titlecase text ≡ text)
titlecase_fixed text = (title_keeps text, title_kept text)

lower_letter : (b : ℕ) → is_ascii_lowercase b ≡ (is_ascii_alphabetic b && is_not_uppercase b)
lower_letter b = grind (arith, nat_tests)

upper_letter : (b : ℕ) → is_ascii_uppercase b ≡ (is_ascii_alphabetic b && is_not_lowercase b)
upper_letter b = grind (arith, nat_tests)

exchanged : (a b c d : Bool) → ((a && b) && (c && d)) ≡ ((a && c) && (b && d))
exchanged true true c d = refl
exchanged true false true d = refl
exchanged true false false d = refl
exchanged false b c d = refl

-- a test that is two tests, on one character and on the rest
joined : (x a b y c d : Bool) → x ≡ (a && b) → y ≡ (c && d) → (x && y) ≡ ((a && c) && (b && d))
joined x a b y c d e f = ap (λ z. z && y) e ∙ ap (λ z. (a && b) && z) f ∙ exchanged a b c d

pub lower_letters : (text : List ℕ) → list_all is_ascii_lowercase text ≡ (list_all is_ascii_alphabetic text && list_all is_not_uppercase text)
lower_letters [] = refl
lower_letters (b ∷ bs) =
    joined (is_ascii_lowercase b) (is_ascii_alphabetic b) (is_not_uppercase b)
    (list_all is_ascii_lowercase bs) (list_all is_ascii_alphabetic bs) (list_all is_not_uppercase bs)
    (lower_letter b) (lower_letters bs)

pub upper_letters : (text : List ℕ) → list_all is_ascii_uppercase text ≡ (list_all is_ascii_alphabetic text && list_all is_not_lowercase text)
upper_letters [] = refl
upper_letters (b ∷ bs) =
    joined (is_ascii_uppercase b) (is_ascii_alphabetic b) (is_not_lowercase b)
    (list_all is_ascii_uppercase bs) (list_all is_ascii_alphabetic bs) (list_all is_not_lowercase bs)
    (upper_letter b) (upper_letters bs)

pub title_letters : (text : List ℕ) → is_in_class is_ascii_uppercase is_ascii_lowercase text ≡ (list_all is_ascii_alphabetic text && is_in_class is_not_lowercase is_not_uppercase text)
title_letters [] = refl
title_letters (b ∷ bs) =
    joined (is_ascii_uppercase b) (is_ascii_alphabetic b) (is_not_lowercase b)
    (list_all is_ascii_lowercase bs) (list_all is_ascii_alphabetic bs) (list_all is_not_uppercase bs)
    (upper_letter b) (lower_letters bs)
