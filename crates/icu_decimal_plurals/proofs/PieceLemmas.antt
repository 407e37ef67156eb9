-- The first piece of a text, and what is after it.
use Rattle.std.proofs.Common.{refl, ◌≡◌, ℕ, zero, suc, ◌+◌, ◌<◌, Bool, true, false, cond, List, [], ◌∷◌, length, get_or, take, drop, ap, ◌∙◌, arith}
use Rattle.std.specs.List.{onto_first}
use Rattle.icu_decimal_plurals.specs.Tokens.{is_joined, joins_next, pieces}
use Rattle.icu_decimal_plurals.specs.PieceSteps.{piece_len}

pub ends : (text : List ℕ) (i : ℕ) → i + 1 ≡ length text → piece_len (drop i text) ≡ 1
ends [] i h = absurd (omega arith)
ends (c ∷ []) zero h = refl
ends (c ∷ d ∷ cs) zero h = absurd (omega arith)
ends (c ∷ cs) (suc i) h = ends cs i (omega arith)

by_next : (text : List ℕ) (i j : ℕ) → j ≡ suc i → j < length text
    → piece_len (drop i text) ≡ suc (cond (is_joined (get_or text i 0) (get_or text j 0)) (piece_len (drop j text)) 0)
by_next [] i j e l = absurd (omega arith)
by_next (c ∷ cs) i zero e l = absurd (omega arith)
by_next (c ∷ []) zero (suc j) e l = absurd (omega arith)
by_next (c ∷ d ∷ cs) zero (suc zero) e l = refl
by_next (c ∷ d ∷ cs) zero (suc (suc j)) e l = absurd (omega arith)
by_next (c ∷ cs) (suc i) (suc j) e l = by_next cs i j (omega arith) (omega arith)

pub stops : (text : List ℕ) (i : ℕ) → i + 1 < length text → is_joined (get_or text i 0) (get_or text (i + 1) 0) ≡ false → piece_len (drop i text) ≡ 1
stops text i l apart = by_next text i (i + 1) (omega arith) l ∙ ap (λ joined. suc (cond joined (piece_len (drop (i + 1) text)) 0)) apart

pub goes_on : (text : List ℕ) (i : ℕ) → i + 1 < length text → is_joined (get_or text i 0) (get_or text (i + 1) 0) ≡ true → piece_len (drop i text) ≡ suc (piece_len (drop (i + 1) text))
goes_on text i l joined = by_next text i (i + 1) (omega arith) l ∙ ap (λ b. suc (cond b (piece_len (drop (i + 1) text)) 0)) joined

-- a longer piece: what is told of the rest holds with one character more in front
longer : (c : ℕ) (cs : List ℕ) (joined : Bool) → joins_next c cs ≡ joined
    → (joined ≡ true → pieces cs ≡ take (piece_len cs) cs ∷ pieces (drop (piece_len cs) cs))
    → pieces (c ∷ cs) ≡ take (piece_len (c ∷ cs)) (c ∷ cs) ∷ pieces (drop (piece_len (c ∷ cs)) (c ∷ cs))
longer c cs true e ih = rw e (ap (onto_first c) (ih refl))
longer c cs false e ih = rw e refl

pub first : (c : ℕ) (cs : List ℕ) → pieces (c ∷ cs) ≡ take (piece_len (c ∷ cs)) (c ∷ cs) ∷ pieces (drop (piece_len (c ∷ cs)) (c ∷ cs))
first c [] = refl
first c (d ∷ cs) = longer c (d ∷ cs) (joins_next c (d ∷ cs)) refl (λ _. first d cs)

pub first_of : (text : List ℕ) → 0 < length text → pieces text ≡ take (piece_len text) text ∷ pieces (drop (piece_len text) text)
first_of [] h = absurd (omega arith)
first_of (c ∷ cs) h = first c cs
