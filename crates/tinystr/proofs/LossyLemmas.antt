-- Bytes written one at a time over the first of a list, each a function of a unit; and that a lossy text is a text.
use Rattle.std.proofs.Common.{◌≡◌, ℕ, ◌+◌, ◌<◌, true, List, [], ◌∷◌, ◌++◌, length, take, drop, get_or, set, map, min, replicate, refl, sym, ap, arith, ◌∙◌}
use Rattle.std.specs.List.{list_all}
use Rattle.std.proofs.lemmas.Bool.{and_from}
use Rattle.std.proofs.lemmas.Bool.Decides.{nat_tests}
use Rattle.std.proofs.lemmas.List.{append_assoc, drop_more, set_at, map_more, map-id, length-map, length-take, length-take-le, take_min}
use Rattle.tinystr.specs.SmallText.{NUL, is_text_byte, IsSmall, padded}
use Rattle.tinystr.specs.Lossy.{kept_or_replacement}
use Rattle.tinystr.proofs.SmallTextLemmas.{front_gives_form}

pub put_more : (f : ℕ → ℕ) (units old bytes : List ℕ) (i : ℕ) → i < length units → i < length old
    → bytes ≡ map f (take i units) ++ drop i old → set bytes i (f (get_or units i 0)) ≡ map f (take (i + 1) units) ++ drop (i + 1) old
put_more f units old bytes i within room e =
    let front = map f (take i units) in
    let long : length front ≡ i = length-map (take i units) f ∙ length-take-le i units (omega arith) in
    let split : bytes ≡ front ++ get_or old i 0 ∷ drop (i + 1) old = e ∙ ap (λ l. front ++ l) (drop_more old i 0 room) in
    let here : front ++ (f (get_or units i 0) ∷ []) ≡ map f (take (i + 1) units) = sym (map_more f units i 0 within) in
    ap (λ l. set l i (f (get_or units i 0))) split
    ∙ set_at front (get_or old i 0) (drop (i + 1) old) (f (get_or units i 0)) i long
    ∙ sym (append_assoc front (f (get_or units i 0) ∷ []) (drop (i + 1) old))
    ∙ ap (λ l. l ++ drop (i + 1) old) here

kept_is_text : (replacement unit : ℕ) → is_text_byte replacement ≡ true → is_text_byte (kept_or_replacement replacement unit) ≡ true
kept_is_text replacement unit good = grind (arith, nat_tests)

kept_all : (replacement : ℕ) (units : List ℕ) → is_text_byte replacement ≡ true → list_all is_text_byte (map (kept_or_replacement replacement) units) ≡ true
kept_all replacement [] good = refl
kept_all replacement (u ∷ us) good =
    and_from (is_text_byte (kept_or_replacement replacement u)) (list_all is_text_byte (map (kept_or_replacement replacement) us))
    (kept_is_text replacement u good) (kept_all replacement us good)

pub IsSmall-lossy : (n replacement : ℕ) (units : List ℕ) → is_text_byte replacement ≡ true
    → IsSmall n (map (kept_or_replacement replacement) (take n units))
IsSmall-lossy n replacement units good = record {
  short = omega (arith, length-map (take n units) (kept_or_replacement replacement), length-take n units);
  ascii = kept_all replacement (take n units) good;
}

-- the least of the length and n units are the first n
pub first_units : (n m : ℕ) (units : List ℕ) → m ≡ min (length units) n → take m units ≡ take n units
first_units n m units e = let other : m ≡ min n (length units) = omega arith in ap (λ k. take k units) other ∙ take_min n units

-- what is written is the lossy text over the first NULs
pub lossy_written : (n m r : ℕ) (units bytes : List ℕ) → take m units ≡ take n units
    → bytes ≡ map (kept_or_replacement r) (take m units) ++ drop (length (take m units)) (replicate n NUL)
    → bytes ≡ padded n (map (kept_or_replacement r) (take n units))
lossy_written n m r units bytes same e =
    front_gives_form n (map (kept_or_replacement r) (take n units)) bytes
    (rw (length-map (take n units) (kept_or_replacement r)) (rw same at e))

-- the same where each unit is written as it is
pub put_same : (units old bytes : List ℕ) (i : ℕ) → i < length units → i < length old
    → bytes ≡ take i units ++ drop i old → set bytes i (get_or units i 0) ≡ take (i + 1) units ++ drop (i + 1) old
put_same units old bytes i within room e =
    let front : map (λ (x : ℕ). x) (take i units) ≡ take i units = map-id (take i units) in
    let more : map (λ (x : ℕ). x) (take (i + 1) units) ≡ take (i + 1) units = map-id (take (i + 1) units) in
    put_more (λ x. x) units old bytes i within room (e ∙ ap (λ l. l ++ drop i old) (sym front)) ∙ ap (λ l. l ++ drop (i + 1) old) more
