-- A text cut at its first hyphen: its first piece, and the pieces of what is after.
use Rattle.std.proofs.Common.{◌≡◌, ℕ, ◌+◌, ◌-◌, ◌<◌, ◌≤◌, [], ◌∷◌, length, take, drop, Some, None, position, sym, ap, ◌∙◌, append-nil, true, arith}
use Rattle.std.specs.List.{position_or_len}
use Rattle.std.proofs.lemmas.Grind.{common_steps}
use Rattle.std.proofs.lemmas.Bool.Decides.{nat_tests}
use Rattle.std.proofs.lemmas.List.Splits.{slice_split_none, slice_split_first}
use Rattle.std.proofs.lemmas.List.Sums.{fails_before_first}
use Rattle.icu_locale_core_grammar.specs.Subtags.{Text, is_plain}
use Rattle.icu_locale_core_grammar.specs.Pieces.{pieces, is_hyphen}
use Rattle.icu_locale_core_grammar.proofs.PlainPieces.{pieces-joined}

found_place : (text : Text) (k : ℕ) → position is_hyphen text ≡ Some k → (position_or_len is_hyphen text ≡ k) × (position_or_len is_hyphen text < length text)
found_place text k h = grind (arith, nat_tests)

no_place : (text : Text) → position is_hyphen text ≡ None → length text ≤ position_or_len is_hyphen text
no_place text h = grind (arith, nat_tests)

pub cut_at_hyphen : (text : Text) (k : ℕ) → position is_hyphen text ≡ Some k → pieces text ≡ take k text ∷ pieces (take (length text - (k + 1)) (drop (k + 1) text))
cut_at_hyphen text k h =
    let place = found_place text k h in
    let whole : take (length text - (k + 1)) (drop (k + 1) text) ≡ drop (k + 1) text = grind (arith, common_steps) in
    slice_split_first is_hyphen text 0 place.1 ∙ ap (λ n. take n text ∷ pieces (drop (n + 1) text)) place.0
    ∙ ap (λ rest. take k text ∷ pieces rest) (sym whole)

pub one_piece : (text : Text) → position is_hyphen text ≡ None → pieces text ≡ text ∷ []
one_piece text h = slice_split_none is_hyphen text (λ k d below. fails_before_first is_hyphen text k d (omega (arith, no_place text h)))

-- a text of letters and digits is one piece
pub plain_is_one_piece : (text : Text) → is_plain text ≡ true → pieces text ≡ text ∷ []
plain_is_one_piece text h = ap pieces (sym (append-nil text)) ∙ pieces-joined text [] (h, tt)
