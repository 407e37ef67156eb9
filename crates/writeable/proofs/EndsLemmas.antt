-- Where parts end when events are followed by more.
use Rattle.std.proofs.Common.{◌≡◌, ℕ, zero, suc, ◌+◌, ◌-◌, ◌≤◌, ◌<◌, List, [], ◌∷◌, ◌++◌, length, true, false, cond, Option, None, Some, refl, ◌∙◌, ap, arith, eqb}
use Rattle.writeable.specs.AnnotatedText.{Event, byte, opened, closed, text_of, end_of}
use Rattle.writeable.specs.HeldParts.{OpenInterval, if_open, open_from}
use Rattle.writeable.specs.PartName.{PartName}

-- what ended stays ended
pub end_of_kept : (n k : ℕ) (es more : List Event) (m : ℕ) → end_of n k es ≡ Some m → end_of n k (es ++ more) ≡ Some m
end_of_kept n k [] more m ended = absurd (cc)
end_of_kept n k (byte b ∷ es) more m ended = end_of_kept (n + 1) k es more m ended
end_of_kept n k (opened p ∷ es) more m ended = end_of_kept n (suc k) es more m ended
end_of_kept n zero (closed ∷ es) more m ended = ended
end_of_kept n (suc k) (closed ∷ es) more m ended = end_of_kept n k es more m ended

-- bytes and an opening end nothing
pub end_of_byte : (n k : ℕ) (es : List Event) (b : ℕ) → end_of n k (es ++ byte b ∷ []) ≡ end_of n k es
end_of_byte n k [] b = refl
end_of_byte n k (byte c ∷ es) b = end_of_byte (n + 1) k es b
end_of_byte n k (opened p ∷ es) b = end_of_byte n (suc k) es b
end_of_byte n zero (closed ∷ es) b = refl
end_of_byte n (suc k) (closed ∷ es) b = end_of_byte n k es b

pub end_of_opened : (n k : ℕ) (es : List Event) (q : PartName) → end_of n k (es ++ opened q ∷ []) ≡ end_of n k es
end_of_opened n k [] q = refl
end_of_opened n k (byte c ∷ es) q = end_of_opened (n + 1) k es q
end_of_opened n k (opened p ∷ es) q = end_of_opened n (suc k) es q
end_of_opened n zero (closed ∷ es) q = refl
end_of_opened n (suc k) (closed ∷ es) q = end_of_opened n k es q

-- how many parts that are open before these events are closed by them
abbrev pub strays : List Event → ℕ
strays [] = 0
strays (byte b ∷ es) = strays es
strays (opened p ∷ es) = strays es - 1
strays (closed ∷ es) = suc (strays es)

-- with one more that opens before events that close `before` parts, where they leave `inside` open
abbrev pub unclosed_before : ℕ → ℕ → ℕ
unclosed_before zero inside = suc inside
unclosed_before (suc before) inside = inside

-- how many parts these events leave open
abbrev pub unclosed : List Event → ℕ
unclosed [] = 0
unclosed (byte b ∷ es) = unclosed es
unclosed (opened p ∷ es) = unclosed_before (strays es) (unclosed es)
unclosed (closed ∷ es) = unclosed es

-- a part with k parts inside it goes on past events that close no more than these
pub end_of_none : (n k : ℕ) (es : List Event) → strays es ≤ k → end_of n k es ≡ None
end_of_none n k [] few = refl
end_of_none n k (byte b ∷ es) few = end_of_none (n + 1) k es few
end_of_none n k (opened p ∷ es) few = end_of_none n (suc k) es (omega arith)
end_of_none n zero (closed ∷ es) few = absurd (omega arith)
end_of_none n (suc k) (closed ∷ es) few = end_of_none n k es (omega arith)

-- and ends in events that close more
pub end_of_some : (n k : ℕ) (es : List Event) → k < strays es → (m : ℕ) × (end_of n k es ≡ Some m)
end_of_some n k [] many = absurd (omega arith)
end_of_some n k (byte b ∷ es) many = end_of_some (n + 1) k es many
end_of_some n k (opened p ∷ es) many = end_of_some n (suc k) es (omega arith)
end_of_some n zero (closed ∷ es) many = (n, refl)
end_of_some n (suc k) (closed ∷ es) many = end_of_some n k es (omega arith)

-- one more closing closes at most one part more
strays_closed_le : (es : List Event) → strays (es ++ closed ∷ []) ≤ suc (strays es)
strays_closed_le [] = omega arith
strays_closed_le (byte b ∷ es) = strays_closed_le es
strays_closed_le (opened p ∷ es) = omega (arith, strays_closed_le es)
strays_closed_le (closed ∷ es) = omega (arith, strays_closed_le es)

strays_closed_at : (before inside after : ℕ) → (0 < inside → after ≡ before) → after ≤ suc before
    → 0 < unclosed_before before inside → after - 1 ≡ before - 1
strays_closed_at zero inside after same bound some = omega arith
strays_closed_at (suc before) inside after same bound some = omega (arith, same some)

-- and none more where a part is open inside
pub strays_closed_inside : (es : List Event) → 0 < unclosed es → strays (es ++ closed ∷ []) ≡ strays es
strays_closed_inside [] some = absurd (omega arith)
strays_closed_inside (byte b ∷ es) some = strays_closed_inside es some
strays_closed_inside (opened p ∷ es) some =
    strays_closed_at (strays es) (unclosed es) (strays (es ++ closed ∷ [])) (strays_closed_inside es) (strays_closed_le es) some
strays_closed_inside (closed ∷ es) some = ap suc (strays_closed_inside es some)

end_of_closed_at : (k before inside end : ℕ) (found : ℕ → Option ℕ) → ((j : ℕ) → inside ≡ 0 → before ≡ j → found j ≡ Some end)
    → unclosed_before before inside ≡ 0 → before - 1 ≡ k → found (suc k) ≡ Some end
end_of_closed_at k zero inside end found ends none same = absurd (omega arith)
end_of_closed_at k (suc before) inside end found ends none same = ends (suc k) none (omega arith)

-- a part that goes on past these events ends with the closing after them, if no part is open inside
pub end_of_closed : (n k : ℕ) (es : List Event) → unclosed es ≡ 0 → strays es ≡ k
    → end_of n k (es ++ closed ∷ []) ≡ Some (n + length (text_of es))
end_of_closed n zero [] none same = ap Some (omega arith)
end_of_closed n (suc k) [] none same = absurd (omega arith)
end_of_closed n k (byte b ∷ es) none same = end_of_closed (n + 1) k es none same ∙ ap Some (omega arith)
end_of_closed n k (opened p ∷ es) none same =
    end_of_closed_at k (strays es) (unclosed es) (n + length (text_of es)) (λ j. end_of n j (es ++ closed ∷ []))
    (λ j. end_of_closed n j es) none same
end_of_closed n zero (closed ∷ es) none same = absurd (omega arith)
end_of_closed n (suc k) (closed ∷ es) none same = end_of_closed n k es none (omega arith)

-- what a closing after these events does to a part that opens before them
pub data Fate (n : ℕ) (es : List Event) : Type 0 where
  ended : (m : ℕ) → end_of n 0 es ≡ Some m → end_of n 0 (es ++ closed ∷ []) ≡ Some m → Fate n es
  ends : unclosed es ≡ 0 → end_of n 0 es ≡ None → end_of n 0 (es ++ closed ∷ []) ≡ Some (n + length (text_of es)) → Fate n es
  goes_on : 0 < unclosed es → end_of n 0 es ≡ None → end_of n 0 (es ++ closed ∷ []) ≡ None → Fate n es

fate_at : (n : ℕ) (es : List Event) (before inside : ℕ) → strays es ≡ before → unclosed es ≡ inside → Fate n es
fate_at n es (suc before) inside closing_before open_inside =
    let found = end_of_some n 0 es (omega (arith, closing_before)) in
    ended found.0 found.1 (end_of_kept n 0 es (closed ∷ []) found.0 found.1)
fate_at n es zero zero closing_before open_inside =
    ends open_inside (end_of_none n 0 es (omega (arith, closing_before))) (end_of_closed n 0 es open_inside closing_before)
fate_at n es zero (suc inside) closing_before open_inside =
    let some : 0 < unclosed es = omega (arith, open_inside) in
    goes_on some (end_of_none n 0 es (omega (arith, closing_before)))
    (end_of_none n 0 (es ++ closed ∷ []) (omega (arith, strays_closed_inside es some, closing_before)))

pub fate : (n : ℕ) (es : List Event) → Fate n es
fate n es = fate_at n es (strays es) (unclosed es) refl refl

length_if_open : (n k : ℕ) (p : PartName) (end : Option ℕ) (unlisted after_listed : List OpenInterval) (before inside : ℕ)
    → (before ≤ 0 → end ≡ None) → (0 < before → (m : ℕ) × (end ≡ Some m))
    → length unlisted ≡ inside → length after_listed ≡ inside
    → length (if_open n k p end unlisted after_listed) ≡ unclosed_before before inside
length_if_open n k p end unlisted after_listed zero inside none some here there =
    rw (none (omega arith)) (ap suc here)
length_if_open n k p end unlisted after_listed (suc before) inside none some here there =
    let found = some (omega arith) in
    rw found.1 (elim (eqb n found.0) as (λ b. length (cond b unlisted after_listed) ≡ inside) [ true ↦ here | false ↦ there ])

-- so many parts are open
pub length-open_from : (n k : ℕ) (es : List Event) → length (open_from n k es) ≡ unclosed es
length-open_from n k [] = refl
length-open_from n k (byte b ∷ es) = length-open_from (n + 1) k es
length-open_from n k (opened p ∷ es) =
    length_if_open n k p (end_of n 0 es) (open_from n k es) (open_from n (k + 1) es) (strays es) (unclosed es)
    (end_of_none n 0 es) (end_of_some n 0 es) (length-open_from n k es) (length-open_from n (k + 1) es)
length-open_from n k (closed ∷ es) = length-open_from n k es
