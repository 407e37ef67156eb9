-- A text that is written after `ok` is the answer, and where the answer fits so does the text.
use Rattle.std.proofs.Common.{◌≡◌, ◌≤◌, ◌+◌, List, [], ◌∷◌, ◌++◌, ℕ, codes, length, sym, ap, ◌∙◌, subst, arith, Result, OnOk, IsOk}
use Rattle.std.proofs.lemmas.List.{append_assoc, length-append}
pub use Rattle.std.proofs.lemmas.Result.{on_ok_weaker as on_ok_by}
use Rattle.locale_numbers_answers.specs.AnswerLine.{written}
use Rattle.locale_numbers_requests.specs.Request.{tab}

-- ---- a text after `ok`

-- what is before a text
abbrev well : List ℕ
well = codes "ok" ++ tab ∷ []

-- a text after it is the answer that holds it
pub answer_put : (text old begun new : List ℕ) → begun ≡ old ++ well → new ≡ begun ++ text → new ≡ old ++ written text
answer_put text old begun new put rest = rest ∙ ap (λ held. held ++ text) put ∙ append_assoc old well text

-- where two texts fit one after the other, so does the second after the first
pub fits_after : (front text old begun : List ℕ) (before after : ℕ) → begun ≡ old ++ front → before ≤ after → length old + length (front ++ text) ≤ before
    → length begun + length text ≤ after
fits_after front text old begun before after put grows room =
    let held : length begun ≡ length old + length front = ap length put ∙ length-append old front in
    omega (arith, held, length-append front text, grows, room)

-- the first of two that fit fits
pub front_fits : (front text old : List ℕ) (room : ℕ) → length old + length (front ++ text) ≤ room → length old + length front ≤ room
front_fits front text old room fits = omega (arith, length-append front text, fits)

-- an answer of two texts is the answer of the first, and the second after a tab
pub two_texts : (text more : List ℕ) → written text ++ tab ∷ more ≡ written (text ++ tab ∷ more)
two_texts text more = append_assoc well text (tab ∷ more)

-- where the answer fits, so does the text after `ok`
pub answer_fits : (text old begun : List ℕ) (before after : ℕ) → begun ≡ old ++ well → before ≤ after → length old + length (written text) ≤ before
    → length begun + length text ≤ after
answer_fits text old begun before after put grows room =
    let front : length begun ≡ length old + length well = ap length put ∙ length-append old well in
    let whole : length (written text) ≡ length well + length text = length-append well text in
    omega (arith, front, whole, grows, room)

-- ---- what is written is this text

module _ {T E : Type 0} (r : Result T E) (shown text : List ℕ) (is : shown ≡ text) where
  pub put_as : (old new : List ℕ) → OnOk r (new ≡ old ++ written shown) → OnOk r (new ≡ old ++ written text)
  put_as old new put = on_ok_by r (λ p. p ∙ ap (λ t. old ++ written t) is) put

  pub room_as : (held room : ℕ) → (held + length (written shown) ≤ room → IsOk r) → held + length (written text) ≤ room → IsOk r
  room_as held room fits h = fits (subst (λ t. held + length (written t) ≤ room) (sym is) h)
