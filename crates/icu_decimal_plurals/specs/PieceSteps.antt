-- How long the first piece of a text is.
-- Defined in docs/plurals.md, "Tokens".
-- Cited by the private `piece_len`, and by the proofs of it and of `first_piece`; no clause for callers cites it.
use Rattle.std.specs.Prelude.{ℕ, suc, cond, List, [], ◌∷◌}
use Rattle.icu_decimal_plurals.specs.Tokens.{joins_next}

abbrev pub piece_len : List ℕ → ℕ
piece_len [] = 0
piece_len (c ∷ cs) = suc (cond (joins_next c cs) (piece_len cs) 0)
