-- Proofs of the laws of annotated texts.
use Rattle.std.proofs.Common.{◌≡◌, ℕ, zero, suc, ◌+◌, ◌≤◌, ◌<◌, List, [], ◌∷◌, ◌++◌, length, map, Bool, true, false, cond, Option, None, Some, All, refl, sym, ◌∙◌, ap, arith, eqb}
use Rattle.std.proofs.lemmas.List.Elements.{All-nil, All-cons}
use Rattle.std.proofs.lemmas.List.{length-append}
use Rattle.writeable.specs.AnnotatedText.{Event, byte, opened, closed, bytes, text_of, without_parts, Interval, end_of, listed, intervals_from, annotated}
use Rattle.writeable.specs.HeldCount.{HeldCount, count_limit, Counts, PassesLimit}
use Rattle.writeable.specs.Taking.{HasBegun}
use Rattle.writeable.specs.Laws.{shifted, joined, IsClosed, IsWithin}
use Rattle.writeable.specs.PartName.{PartName}
use Rattle.writeable.specs.SinkLaws.{text_of_joined}
use Rattle.writeable.proofs.AnnotatedTextLemmas.{text_of_bytes}
use Rattle.writeable.proofs.EndsLemmas.{end_of_kept, strays, unclosed, unclosed_before, end_of_some, length-open_from}

-- everything begins d bytes later
abbrev later_end : ℕ → Option ℕ → Option ℕ
later_end d None = None
later_end d (Some m) = Some (m + d)

end_of_later : (n d k : ℕ) (es : List Event) → end_of (n + d) k es ≡ later_end d (end_of n k es)
end_of_later n d k [] = refl
end_of_later n d k (byte b ∷ es) = ap (λ start. end_of start k es) (omega arith) ∙ end_of_later (n + 1) d k es
end_of_later n d k (opened p ∷ es) = end_of_later n d (suc k) es
end_of_later n d zero (closed ∷ es) = refl
end_of_later n d (suc k) (closed ∷ es) = end_of_later n d k es

eqb_later : (n m d : ℕ) → eqb (n + d) (m + d) ≡ eqb n m
eqb_later n m d = grind arith

listed_later : (n d : ℕ) (end : Option ℕ) (p : PartName) (inner inner_later : List Interval) → inner_later ≡ map (shifted d) inner
    → listed (n + d) (later_end d end) p inner_later ≡ map (shifted d) (listed n end p inner)
listed_later n d None p inner inner_later same = same
listed_later n d (Some m) p inner inner_later same = rw (eqb_later n m d)
    (elim (eqb n m) as (λ b. cond b inner_later (record { start = n + d; end = m + d; part = p } ∷ inner_later) ≡ map (shifted d) (cond b inner (record { start = n; end = m; part = p } ∷ inner)))
    [ true ↦ same | false ↦ ap (λ xs. record { start = n + d; end = m + d; part = p } ∷ xs) same ])

intervals_later : (n d : ℕ) (es : List Event) → intervals_from (n + d) es ≡ map (shifted d) (intervals_from n es)
intervals_later n d [] = refl
intervals_later n d (byte b ∷ es) = ap (λ start. intervals_from start es) (omega arith) ∙ intervals_later (n + 1) d es
intervals_later n d (opened p ∷ es) =
    ap (λ end. listed (n + d) end p (intervals_from (n + d) es)) (end_of_later n d 0 es)
    ∙ listed_later n d (end_of n 0 es) p (intervals_from n es) (intervals_from (n + d) es) (intervals_later n d es)
intervals_later n d (closed ∷ es) = intervals_later n d es

listed_append : (n m : ℕ) (p : PartName) (inner more all : List Interval) → all ≡ inner ++ more
    → listed n (Some m) p all ≡ listed n (Some m) p inner ++ more
listed_append n m p inner more all same =
    elim (eqb n m) as (λ b. cond b all (record { start = n; end = m; part = p } ∷ all) ≡ cond b inner (record { start = n; end = m; part = p } ∷ inner) ++ more)
    [ true ↦ same | false ↦ ap (λ xs. record { start = n; end = m; part = p } ∷ xs) same ]

-- a part that opens in closed events ends in them
pub closed_inside : (before inside : ℕ) → unclosed_before before inside ≡ 0 → (0 < before) × (inside ≡ 0)
closed_inside zero inside none = absurd (omega arith)
closed_inside (suc before) inside none = (omega arith, none)

pub intervals_append : (n : ℕ) (first second : List Event) → unclosed first ≡ 0
    → intervals_from n (first ++ second) ≡ intervals_from n first ++ intervals_from (n + length (text_of first)) second
intervals_append n [] second none = ap (λ start. intervals_from start second) (omega arith)
intervals_append n (byte b ∷ es) second none =
    intervals_append (n + 1) es second none ∙ ap (λ start. intervals_from (n + 1) es ++ intervals_from start second) (omega arith)
intervals_append n (opened p ∷ es) second none =
    let inside = closed_inside (strays es) (unclosed es) none in
    let found = end_of_some n 0 es inside.0 in
    rw (found.1, end_of_kept n 0 es second found.0 found.1)
    (listed_append n found.0 p (intervals_from n es) (intervals_from (n + length (text_of es)) second) (intervals_from n (es ++ second))
    (intervals_append n es second inside.1))
intervals_append n (closed ∷ es) second none = intervals_append n es second none

pub joining : (first second : List Event) → IsClosed first → annotated (first ++ second) ≡ joined (annotated first) (annotated second)
joining first second whole =
    let none = sym (length-open_from 0 0 first) ∙ ap length whole in
    let parts = intervals_append 0 first second none
    ∙ ap (λ start. intervals_from 0 first ++ intervals_from start second) (omega arith)
    ∙ ap (λ rest. intervals_from 0 first ++ rest) (intervals_later 0 (length (text_of first)) second) in
    λ i. record { text = text_of_joined first second i; parts = parts i }

pub intervals_bytes_alone : (n : ℕ) (text : List ℕ) → intervals_from n (bytes text) ≡ []
unfolding bytes
intervals_bytes_alone n [] = refl
intervals_bytes_alone n (b ∷ text) = intervals_bytes_alone (n + 1) text

pub text_alone : (es : List Event) → annotated (without_parts es) ≡ record { text = (annotated es).text; parts = [] }
text_alone es = λ i. record { text = text_of_bytes (text_of es) i; parts = intervals_bytes_alone 0 (text_of es) i }

-- a count that went on stays within the limit
pub counted : (s t : HeldCount) (es : List Event) → s.count < count_limit → Counts s es t → s.count + length (annotated es).text < count_limit
counted s t es fitting counts = rw (sym counts.count) (counts.fits fitting)

-- one that was refused would have passed it
pub count_refused : (s t : HeldCount) (es : List Event) → HasBegun Counts PassesLimit s es t → count_limit ≤ s.count + length (annotated es).text
count_refused s t es begun =
    let whole = ap (λ events. length (text_of events)) begun.whole ∙ ap length (text_of_joined begun.front begun.rest)
    ∙ length-append (text_of begun.front) (text_of begun.rest) in
    omega (arith, whole, begun.taken.count, begun.short)

-- where a part ends, a bound on what is left
end_of_within : (n k m : ℕ) (es : List Event) → end_of n k es ≡ Some m → (n ≤ m) × (m ≤ n + length (text_of es))
end_of_within n k m [] found = absurd (cc)
end_of_within n k m (byte b ∷ es) found = let rest = end_of_within (n + 1) k m es found in (omega arith, omega arith)
end_of_within n k m (opened p ∷ es) found = end_of_within n (suc k) m es found
end_of_within n zero m (closed ∷ es) found = let same : n ≡ m = cc in (omega arith, omega arith)
end_of_within n (suc k) m (closed ∷ es) found = end_of_within n k m es found

apart : (n m : ℕ) → n ≤ m → eqb n m ≡ false → n < m
apart n m below differ = grind arith

listed_within_at : (b : Bool) (n e m : ℕ) (p : PartName) (inner : List Interval) → eqb n m ≡ b → (n ≤ m) × (m ≤ e)
    → All (IsWithin e) inner → All (IsWithin e) (cond b inner (record { start = n; end = m; part = p } ∷ inner))
listed_within_at true n e m p inner same bounds within = within
listed_within_at false n e m p inner differ bounds within =
    All-cons (IsWithin e) (record { start = n; end = m; part = p }) inner (record { nonempty = apart n m bounds.0 differ; ends = bounds.1 }) within

listed_within : (n e : ℕ) (end : Option ℕ) (p : PartName) (inner : List Interval)
    → ((m : ℕ) → end ≡ Some m → (n ≤ m) × (m ≤ e)) → All (IsWithin e) inner → All (IsWithin e) (listed n end p inner)
listed_within n e None p inner bounds within = within
listed_within n e (Some m) p inner bounds within = listed_within_at (eqb n m) n e m p inner refl (bounds m refl) within

parts_within_from : (n e : ℕ) (es : List Event) → n + length (text_of es) ≤ e → All (IsWithin e) (intervals_from n es)
parts_within_from n e [] fits = All-nil (IsWithin e)
parts_within_from n e (byte b ∷ es) fits = parts_within_from (n + 1) e es (omega arith)
parts_within_from n e (opened p ∷ es) fits =
    listed_within n e (end_of n 0 es) p (intervals_from n es)
    (λ m found. let bounds = end_of_within n 0 m es found in (bounds.0, omega arith)) (parts_within_from n e es fits)
parts_within_from n e (closed ∷ es) fits = parts_within_from n e es fits

pub parts_within : (es : List Event) → All (IsWithin (length (annotated es).text)) (annotated es).parts
parts_within es = parts_within_from 0 (length (text_of es)) es (omega arith)
