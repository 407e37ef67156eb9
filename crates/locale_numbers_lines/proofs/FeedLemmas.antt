-- What a search for a line feed tells of the bytes before it.
use Rattle.std.proofs.Common.{◌≡◌, ℕ, suc, ◌+◌, ◌<◌, ◌==◌, true, List, [], ◌∷◌, ◌++◌, length, get_or, take, drop, None, Some, sym, ap, ◌∙◌, subst, arith, add-one, drop-cons, take-append-drop, length-take}
use Rattle.std.proofs.lemmas.Bool.{false_from_ne_true, eqb-true}
use Rattle.std.proofs.lemmas.List.{get_or-take}
use Rattle.memchr.specs.Find.{IsFirstByte, is_byte}
use Rattle.locale_numbers_lines.specs.Lines.{HasNoFeed}
use Rattle.locale_numbers_lines.specs.Progress.{FirstLine}

-- no place of these bytes has a feed
abbrev HasFeedNowhere : List ℕ → Type 0
HasFeedNowhere bytes = (k : ℕ) → k < length bytes → ¬ ((get_or bytes k 0 == 10) ≡ true)

HasNoFeed-nowhere : (bytes : List ℕ) → HasFeedNowhere bytes → HasNoFeed bytes
HasNoFeed-nowhere [] nowhere = tt
HasNoFeed-nowhere (byte ∷ bytes) nowhere =
    (false_from_ne_true (byte == 10) (nowhere 0 (omega arith)), HasNoFeed-nowhere bytes (λ k below. nowhere (suc k) (omega arith)))

-- a place of which the search told
pub line_found : (bytes line rest : List ℕ) (at : ℕ) → IsFirstByte (is_byte 10) bytes (Some at) → line ≡ take at bytes → rest ≡ drop (at + 1) bytes → FirstLine bytes line rest
line_found bytes line rest at found front after =
    let inside : at < length bytes = found.0.high in
    let feed : get_or bytes at 0 ≡ 10 = eqb-true _ _ found.1 in
    record {
      whole = sym (take-append-drop at bytes) ∙ ap (λ l. take at bytes ++ l) (drop-cons bytes at 0 inside ∙ ap (λ b. b ∷ drop (suc at) bytes) feed ∙ ap (λ n. 10 ∷ drop n bytes) (sym (add-one at)))
          ∙ ap (λ l. l ++ (10 ∷ drop (at + 1) bytes)) (sym front) ∙ ap (λ l. line ++ (10 ∷ l)) (sym after);
      cut = subst HasNoFeed (sym front) (HasNoFeed-nowhere (take at bytes) (λ k below. rw (get_or-take at bytes k 0 (omega (arith, length-take at bytes, below))) (found.0.before k (omega arith) (omega (arith, length-take at bytes, below)))));
    }

-- no place was found
pub none_found : (bytes : List ℕ) → IsFirstByte (is_byte 10) bytes None → HasNoFeed bytes
none_found bytes nowhere = HasNoFeed-nowhere bytes (λ k below. nowhere k (omega arith) below)
