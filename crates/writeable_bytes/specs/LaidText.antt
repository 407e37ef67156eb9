-- What a sink over bytes of the caller's takes: their text is laid over the bytes, after what lies there.
-- Defined in docs/annotated-text.md, "Bytes of the caller's".
-- Cited by `BytesSink`; the laws serve its impl of `Sink`.
use Rattle.std.proofs.Common.{◌≡◌, ℕ, zero, suc, ◌+◌, ◌≤◌, ◌^◌, List, [], ◌∷◌, ◌++◌, length, Option, None, Some, arith, refl, sym, ap, ◌∙◌}
use Rattle.std.proofs.lemmas.List.{length-append}
use Rattle.std.specs.Borrow.{MutBor}
use Rattle.writeable.specs.AnnotatedText.{Event, text_of}
use Rattle.writeable.specs.SinkLaws.{text_of_joined}
use Rattle.writeable_bytes.specs.Laid.{laid_from}

-- bytes under a text of n bytes, and the same under these events after it
pub record LaysText (s : MutBor (List ℕ)) (n : ℕ) (es : List Event) (t : MutBor (List ℕ)) (m : ℕ) : Type 0 where
  pub same : t.ghost_name ≡ s.ghost_name
  pub length : m ≡ n + length (text_of es)
  pub bytes : t.now ≡ laid_from n (text_of es) s.now

-- no `usize` holds the length of a text of n bytes with these events after it
abbrev pub PassesLength : ℕ → List Event → Type 0
PassesLength n es = 2 ^ 64 ≤ n + length (text_of es)

pub passes_more : (n : ℕ) (first second : List Event) → PassesLength n first → PassesLength n (first ++ second)
passes_more n first second passes =
    rw (text_of_joined first second, length-append (text_of first) (text_of second)) (omega arith)

-- no text changes nothing
pub laid_nothing : (n : ℕ) (out : List ℕ) → laid_from n [] out ≡ out
laid_nothing n [] = refl
laid_nothing zero (b ∷ out) = refl
laid_nothing (suc n) (b ∷ out) = ap (λ rest. b ∷ rest) (laid_nothing n out)

pub lays_nothing : (s : MutBor (List ℕ)) (n : ℕ) → LaysText s n [] s n
lays_nothing s n = record { same = refl; length = omega arith; bytes = sym (laid_nothing n s.now) }

-- a text after another is laid where that ends
pub laid_joined : (n m : ℕ) (first second out : List ℕ) → m ≡ n + length first
    → laid_from m second (laid_from n first out) ≡ laid_from n (first ++ second) out
laid_joined n m first second [] ends = refl
laid_joined (suc n) (suc m) first second (b ∷ out) ends = ap (λ rest. b ∷ rest) (laid_joined n m first second out (omega arith))
laid_joined (suc n) zero first second (b ∷ out) ends = absurd (omega arith)
laid_joined zero m [] second (b ∷ out) ends = ap (λ k. laid_from k second (b ∷ out)) {x = m} {y = 0} (omega arith)
laid_joined zero (suc m) (t ∷ first) second (b ∷ out) ends = ap (λ rest. t ∷ rest) (laid_joined zero m first second out (omega arith))
laid_joined zero zero (t ∷ first) second (b ∷ out) ends = absurd (omega arith)

pub lays_joined : (s t u : MutBor (List ℕ)) (n m k : ℕ) (first second : List Event) → LaysText s n first t m → LaysText t m second u k
    → LaysText s n (first ++ second) u k
lays_joined s t u n m k first second begun ended = record {
  same = ended.same ∙ begun.same;
  length = rw (text_of_joined first second, length-append (text_of first) (text_of second)) (omega (arith, begun.length, ended.length));
  bytes = ended.bytes ∙ ap (λ out. laid_from m (text_of second) out) begun.bytes
      ∙ laid_joined n m (text_of first) (text_of second) s.now begun.length
      ∙ ap (λ text. laid_from n text s.now) (sym (text_of_joined first second));
}
