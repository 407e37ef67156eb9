-- What is left of a text without its front or its end.
use Rattle.std.proofs.Common.{Bor, ◌≡◌, ◌≢◌, ℕ, ◌-◌, Bool, true, false, List, ◌++◌, length, take, drop, Option, None, Some, IfNone, IfSome, refl, sym, ap, ◌∙◌, arith, length-append, take-append-drop}
use Rattle.std.proofs.lemmas.List.{drop_at, take_at}
use Rattle.std.specs.Cmp.Lexicographic.{bytes_decides}
use Rattle.std.specs.Option.{option_copied}
use Rattle.std.specs.Str.{bytes_eq}
use Rattle.icu_dimension_lenient.specs.LenientUnits.{back_of_some, between, past_back, past_front, where_true}

same_bytes : (w : List ℕ) → bytes_eq w w ≡ true
same_bytes w = (bytes_decides w w).1 refl

-- ---- the front

pub front_some : (w rest : List ℕ) → past_front w (w ++ rest) ≡ Some rest
front_some w rest =
    let left : List ℕ = drop (length w) (w ++ rest) in
    ap (λ front. where_true (bytes_eq front w) left) (take_at w rest (length w) refl)
    ∙ ap (λ b. where_true b left) (same_bytes w) ∙ ap Some (drop_at w rest (length w) refl)

pub front_is : (r : Option (Bor (List ℕ))) (w text : List ℕ) → IfSome r (λ x. text ≡ w ++ x.now) → IfNone r ((rest : List ℕ) → text ≢ w ++ rest) → option_copied r ≡ past_front w text
front_is (Some x) w text some none = sym (ap (past_front w) some ∙ front_some w x.now)
front_is None w text some none = by (bytes_eq (take (length w) text) w) refl
  where
    by : (b : Bool) → bytes_eq (take (length w) text) w ≡ b → None ≡ where_true b (drop (length w) text)
    by true e = absurd (none (drop (length w) text) (sym (take-append-drop (length w) text) ∙ ap (λ front. front ++ drop (length w) text) ((bytes_decides (take (length w) text) w).0 e)))
    by false e = refl

-- ---- the end

pub back_some : (w front : List ℕ) → past_back w (front ++ w) ≡ Some front
back_some w front =
    let n : ℕ = length (front ++ w) - length w in
    let is : length front ≡ n = omega (arith, length-append front w) in
    ap (λ end. where_true (bytes_eq end w) (take n (front ++ w))) (drop_at front w n is)
    ∙ ap (λ b. where_true b (take n (front ++ w))) (same_bytes w) ∙ ap Some (take_at front w n is)

pub back_is : (r : Option (Bor (List ℕ))) (w text : List ℕ) → IfSome r (λ x. text ≡ x.now ++ w) → IfNone r ((front : List ℕ) → text ≢ front ++ w) → option_copied r ≡ past_back w text
back_is (Some x) w text some none = sym (ap (past_back w) some ∙ back_some w x.now)
back_is None w text some none = by (bytes_eq (drop (length text - length w) text) w) refl
  where
    by : (b : Bool) → bytes_eq (drop (length text - length w) text) w ≡ b → None ≡ where_true b (take (length text - length w) text)
    by true e = absurd (none (take (length text - length w) text) (sym (take-append-drop (length text - length w) text) ∙ ap (λ end. take (length text - length w) text ++ end) ((bytes_decides (drop (length text - length w) text) w).0 e)))
    by false e = refl

-- ---- both

pub back_of_front : (r : Option (List ℕ)) (before after text rest : List ℕ) → Some rest ≡ past_front before text → r ≡ past_back after rest
    → r ≡ between (record { before = before; after = after }) text
back_of_front r before after text rest is found = found ∙ ap (back_of_some after) is

pub no_front : (before after text : List ℕ) → None ≡ past_front before text → None ≡ between (record { before = before; after = after }) text
no_front before after text none = ap (back_of_some after) none
