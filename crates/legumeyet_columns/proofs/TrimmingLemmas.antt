-- A text that ends in a blank, and one that does not.
use Rattle.std.proofs.Common.{◌≡◌, ℕ, List, [], ◌∷◌, ◌++◌, true, false, reverse, ap, sym, ◌∙◌}
use Rattle.std.specs.Prelude.{if◌then◌else◌}
use Rattle.std.proofs.lemmas.List.{reverse-append, reverse-reverse}
use Rattle.legumeyet_columns.specs.Trimming.{is_blank, without_end, without_front}

-- a blank at the end goes
pub end_blank : (rest : List ℕ) (last : ℕ) → is_blank last ≡ true → without_end (rest ++ last ∷ []) ≡ without_end rest
end_blank rest last blank =
    ap (λ t. reverse (without_front t)) (reverse-append rest (last ∷ []))
    ∙ ap (λ b. reverse (if b then without_front (reverse rest) else last ∷ reverse rest)) blank

-- and anything else stays
pub end_kept : (rest : List ℕ) (last : ℕ) → is_blank last ≡ false → without_end (rest ++ last ∷ []) ≡ rest ++ last ∷ []
end_kept rest last kept =
    ap (λ t. reverse (without_front t)) (reverse-append rest (last ∷ []))
    ∙ ap (λ b. reverse (if b then without_front (reverse rest) else last ∷ reverse rest)) kept
    ∙ ap reverse (sym (reverse-append rest (last ∷ [])))
    ∙ reverse-reverse (rest ++ last ∷ [])
