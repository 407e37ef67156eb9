-- A text laid over bytes, by what is before it, its bytes, and what is after it.
use Rattle.std.proofs.Common.{◌≡◌, ℕ, zero, suc, ◌+◌, ◌-◌, ◌≤◌, List, [], ◌∷◌, ◌++◌, length, take, drop, arith, refl, sym, ap, ◌∙◌}
use Rattle.std.proofs.lemmas.List.{append-nil, length-drop, drop_all}
use borrow.Rule.Slice.PartMut.{put_mid}
use Rattle.writeable_bytes.specs.Laid.{laid_from}

-- after their end nothing changes
pub laid_beyond : (n : ℕ) (text out : List ℕ) → length out ≤ n → laid_from n text out ≡ out
laid_beyond n text [] beyond = refl
laid_beyond (suc n) text (b ∷ out) beyond = ap (λ rest. b ∷ rest) (laid_beyond n text out (omega arith))
laid_beyond zero text (b ∷ out) beyond = absurd (omega arith)

-- a text that fits is at the front
pub laid_whole : (text out : List ℕ) → length text ≤ length out → laid_from 0 text out ≡ text ++ drop (length text) out
laid_whole [] [] fits = refl
laid_whole [] (b ∷ out) fits = refl
laid_whole (t ∷ text) [] fits = absurd (omega arith)
laid_whole (t ∷ text) (b ∷ out) fits = ap (λ rest. t ∷ rest) (laid_whole text out (omega arith))

-- of a text that does not fit, its first bytes
pub laid_cut : (text out : List ℕ) → length out ≤ length text → laid_from 0 text out ≡ take (length out) text
laid_cut [] [] short = refl
laid_cut (t ∷ text) [] short = refl
laid_cut [] (b ∷ out) short = absurd (omega arith)
laid_cut (t ∷ text) (b ∷ out) short = ap (λ rest. t ∷ rest) (laid_cut text out (omega arith))

-- what is before it stays
laid_after : (n : ℕ) (text out : List ℕ) → laid_from n text out ≡ take n out ++ laid_from 0 text (drop n out)
laid_after zero text [] = refl
laid_after zero text (b ∷ out) = refl
laid_after (suc n) text [] = refl
laid_after (suc n) text (b ∷ out) = ap (λ rest. b ∷ rest) (laid_after n text out)

-- a text that fits was copied to its place
pub copied_whole : (n k : ℕ) (text out new : List ℕ) → n + length text ≤ length out → k ≡ length text → new ≡ text
    → put_mid n k out new ≡ laid_from n text out
copied_whole n k text out new fits whole is =
    ap (λ (copy : List ℕ). take n out ++ (copy ++ drop k (drop n out))) is
    ∙ ap (λ count. take n out ++ (text ++ drop count (drop n out))) whole
    ∙ ap (λ rest. take n out ++ rest) (sym (laid_whole text (drop n out) (omega (arith, length-drop n out))))
    ∙ sym (laid_after n text out)

-- the bytes of a text that have room were copied to their place
pub copied_cut : (n k : ℕ) (text out new : List ℕ) → n + k ≡ length out → k ≤ length text → new ≡ take k text
    → put_mid n k out new ≡ laid_from n text out
copied_cut n k text out new ends short is =
    let room : length (drop n out) ≡ k = omega (arith, length-drop n out) in
    ap (λ (copy : List ℕ). take n out ++ (copy ++ drop k (drop n out))) is
    ∙ ap (λ rest. take n out ++ (take k text ++ rest)) (drop_all k (drop n out) (omega (arith, room)))
    ∙ ap (λ rest. take n out ++ rest) (append-nil (take k text) ∙ ap (λ count. take count text) (sym room)
    ∙ sym (laid_cut text (drop n out) (omega (arith, room))))
    ∙ sym (laid_after n text out)
