-- What one more step leaves of the parts held.
use Rattle.std.proofs.Common.{◌≡◌, ℕ, ◌+◌, ◌<◌, List, [], ◌∷◌, ◌++◌, length, Bool, true, false, cond, Option, None, Some, refl, sym, ◌∙◌, ap, arith, eqb, insert, drop}
use Rattle.std.proofs.lemmas.List.{append_assoc, append_cancel_left, take_at, drop_at, nil_from_length, length_push}
use Rattle.writeable.specs.AnnotatedText.{Event, byte, opened, closed, text_of, Interval, end_of, listed, intervals_from}
use Rattle.writeable.specs.HeldParts.{OpenInterval, if_open, open_from}
use Rattle.writeable.specs.PartName.{PartName}
use Rattle.writeable.proofs.EndsLemmas.{end_of_byte, end_of_opened, unclosed, Fate, ended, ends, goes_on, fate, length-open_from}

-- a byte after changes no part
pub intervals_byte : (n : ℕ) (es : List Event) (b : ℕ) → intervals_from n (es ++ byte b ∷ []) ≡ intervals_from n es
intervals_byte n [] b = refl
intervals_byte n (byte c ∷ es) b = intervals_byte (n + 1) es b
intervals_byte n (opened p ∷ es) b =
    ap (λ end. listed n end p (intervals_from n (es ++ byte b ∷ []))) (end_of_byte n 0 es b)
    ∙ ap (listed n (end_of n 0 es) p) (intervals_byte n es b)
intervals_byte n (closed ∷ es) b = intervals_byte n es b

pub open_byte : (n k : ℕ) (es : List Event) (b : ℕ) → open_from n k (es ++ byte b ∷ []) ≡ open_from n k es
open_byte n k [] b = refl
open_byte n k (byte c ∷ es) b = open_byte (n + 1) k es b
open_byte n k (opened p ∷ es) b =
    ap (λ end. if_open n k p end (open_from n k (es ++ byte b ∷ [])) (open_from n (k + 1) (es ++ byte b ∷ []))) (end_of_byte n 0 es b)
    ∙ ap (λ unlisted. if_open n k p (end_of n 0 es) unlisted (open_from n (k + 1) (es ++ byte b ∷ []))) (open_byte n k es b)
    ∙ ap (if_open n k p (end_of n 0 es) (open_from n k es)) (open_byte n (k + 1) es b)
open_byte n k (closed ∷ es) b = open_byte n k es b

-- a part that opens after is listed nowhere yet
pub intervals_opened : (n : ℕ) (es : List Event) (q : PartName) → intervals_from n (es ++ opened q ∷ []) ≡ intervals_from n es
intervals_opened n [] q = refl
intervals_opened n (byte c ∷ es) q = intervals_opened (n + 1) es q
intervals_opened n (opened p ∷ es) q =
    ap (λ end. listed n end p (intervals_from n (es ++ opened q ∷ []))) (end_of_opened n 0 es q)
    ∙ ap (listed n (end_of n 0 es) p) (intervals_opened n es q)
intervals_opened n (closed ∷ es) q = intervals_opened n es q

-- a part that opens at byte e, after so many intervals
abbrev pub open_at : ℕ → ℕ → PartName → List OpenInterval
open_at e place q = record { start = e; place = place; part = q } ∷ []

if_open_push : (n k e : ℕ) (p q : PartName) (end : Option ℕ) (unlisted after_listed unlisted_now after_listed_now : List OpenInterval) (later : List Interval)
    → unlisted_now ≡ unlisted ++ open_at e (k + length later) q → after_listed_now ≡ after_listed ++ open_at e (k + 1 + length later) q
    → if_open n k p end unlisted_now after_listed_now ≡ if_open n k p end unlisted after_listed ++ open_at e (k + length (listed n end p later)) q
if_open_push n k e p q None unlisted after_listed unlisted_now after_listed_now later one two =
    ap (λ parts. record { start = n; place = k; part = p } ∷ parts) one
if_open_push n k e p q (Some m) unlisted after_listed unlisted_now after_listed_now later one two =
    elim (eqb n m) as (λ b. cond b unlisted_now after_listed_now ≡ cond b unlisted after_listed ++ open_at e (k + length (cond b later (record { start = n; end = m; part = p } ∷ later))) q)
    [ true ↦ one | false ↦ two ∙ ap (λ place. after_listed ++ open_at e place q) (omega arith) ]

-- a part that opens after is the last that is open
pub open_opened : (n k : ℕ) (es : List Event) (q : PartName)
    → open_from n k (es ++ opened q ∷ []) ≡ open_from n k es ++ open_at (n + length (text_of es)) (k + length (intervals_from n es)) q
open_opened n k [] q = ap (λ e. open_at e k q) (omega arith) ∙ ap (λ place. open_at (n + 0) place q) (omega arith)
open_opened n k (byte c ∷ es) q =
    open_opened (n + 1) k es q ∙ ap (λ e. open_from (n + 1) k es ++ open_at e (k + length (intervals_from (n + 1) es)) q) (omega arith)
open_opened n k (opened p ∷ es) q =
    ap (λ end. if_open n k p end (open_from n k (es ++ opened q ∷ [])) (open_from n (k + 1) (es ++ opened q ∷ []))) (end_of_opened n 0 es q)
    ∙ if_open_push n k (n + length (text_of es)) p q (end_of n 0 es) (open_from n k es) (open_from n (k + 1) es)
    (open_from n k (es ++ opened q ∷ [])) (open_from n (k + 1) (es ++ opened q ∷ [])) (intervals_from n es)
    (open_opened n k es q) (open_opened n (k + 1) es q)
open_opened n k (closed ∷ es) q = open_opened n k es q

-- the open parts without the last
abbrev pub all_but_last : List OpenInterval → List OpenInterval
all_but_last [] = []
all_but_last (o ∷ []) = []
all_but_last (o ∷ (q ∷ parts)) = o ∷ all_but_last (q ∷ parts)

-- the intervals once the last open part ends at byte e
abbrev pub with_last_listed : ℕ → List Interval → List OpenInterval → List Interval
with_last_listed e parts [] = parts
with_last_listed e parts (o ∷ []) = cond (eqb o.start e) parts (insert parts o.place (record { start = o.start; end = e; part = o.part }))
with_last_listed e parts (o ∷ (q ∷ open_parts)) = with_last_listed e parts (q ∷ open_parts)

outer_stays : (o : OpenInterval) (parts : List OpenInterval) → 0 < length parts → all_but_last (o ∷ parts) ≡ o ∷ all_but_last parts
outer_stays o [] some = absurd (omega arith)
outer_stays o (q ∷ parts) some = refl

outer_waits : (e : ℕ) (listing : List Interval) (o : OpenInterval) (parts : List OpenInterval) → 0 < length parts
    → with_last_listed e listing (o ∷ parts) ≡ with_last_listed e listing parts
outer_waits e listing o [] some = absurd (omega arith)
outer_waits e listing o (q ∷ parts) some = refl

-- nothing is open, at any place
none_open : (n k : ℕ) (es : List Event) → unclosed es ≡ 0 → open_from n k es ≡ []
none_open n k es none = nil_from_length (open_from n k es) (length-open_from n k es ∙ none)

some_open : (n k : ℕ) (es : List Event) → 0 < unclosed es → 0 < length (open_from n k es)
some_open n k es some = rw (length-open_from n k es) some

cond_same : (b : Bool) (one two : List OpenInterval) → one ≡ [] → two ≡ [] → cond b one two ≡ []
cond_same true one two first second = first
cond_same false one two first second = second

open_closed_at : (n k : ℕ) (p : PartName) (es : List Event) → Fate n es
    → open_from n k (es ++ closed ∷ []) ≡ all_but_last (open_from n k es)
    → open_from n (k + 1) (es ++ closed ∷ []) ≡ all_but_last (open_from n (k + 1) es)
    → open_from n k (opened p ∷ (es ++ closed ∷ [])) ≡ all_but_last (open_from n k (opened p ∷ es))
open_closed_at n k p es (ended m before after) one two =
    rw (before, after) (elim (eqb n m) as (λ b. cond b (open_from n k (es ++ closed ∷ [])) (open_from n (k + 1) (es ++ closed ∷ [])) ≡ all_but_last (cond b (open_from n k es) (open_from n (k + 1) es))) [ true ↦ one | false ↦ two ])
open_closed_at n k p es (ends none before after) one two =
    rw (before, after, none_open n k es none)
    (cond_same (eqb n (n + length (text_of es))) _ _ (one ∙ ap all_but_last (none_open n k es none)) (two ∙ ap all_but_last (none_open n (k + 1) es none)))
open_closed_at n k p es (goes_on some before after) one two =
    rw (before, after) (ap (λ parts. record { start = n; place = k; part = p } ∷ parts) one
    ∙ sym (outer_stays (record { start = n; place = k; part = p }) (open_from n k es) (some_open n k es some)))

-- a closing after ends the last open part
pub open_closed : (n k : ℕ) (es : List Event) → open_from n k (es ++ closed ∷ []) ≡ all_but_last (open_from n k es)
open_closed n k [] = refl
open_closed n k (byte c ∷ es) = open_closed (n + 1) k es
open_closed n k (opened p ∷ es) = open_closed_at n k p es (fate n es) (open_closed n k es) (open_closed n (k + 1) es)
open_closed n k (closed ∷ es) = open_closed n k es

-- an interval put between two lists
insert_between : (before after : List Interval) (x : Interval) → insert (before ++ after) (length before) x ≡ before ++ x ∷ after
insert_between before after x =
    ap (λ front. front ++ x ∷ drop (length before) (before ++ after)) (take_at before after (length before) refl)
    ∙ ap (λ back. before ++ x ∷ back) (drop_at before after (length before) refl)

listing_here : (b : Bool) (before later later_now : List Interval) (x : Interval) → later_now ≡ later
    → before ++ cond b later_now (x ∷ later_now) ≡ cond b (before ++ later) (insert (before ++ later) (length before) x)
listing_here true before later later_now x same = ap (λ xs. before ++ xs) same
listing_here false before later later_now x same = ap (λ xs. before ++ x ∷ xs) same ∙ sym (insert_between before later x)

listing_passed : (b : Bool) (e : ℕ) (before later later_now : List Interval) (x : Interval) (unlisted after_listed : List OpenInterval)
    → before ++ later_now ≡ with_last_listed e (before ++ later) unlisted
    → (before ++ x ∷ []) ++ later_now ≡ with_last_listed e ((before ++ x ∷ []) ++ later) after_listed
    → before ++ cond b later_now (x ∷ later_now) ≡ with_last_listed e (before ++ cond b later (x ∷ later)) (cond b unlisted after_listed)
listing_passed true e before later later_now x unlisted after_listed one two = one
listing_passed false e before later later_now x unlisted after_listed one two =
    sym (append_assoc before (x ∷ []) later_now) ∙ two
    ∙ ap (λ listing. with_last_listed e listing after_listed) (append_assoc before (x ∷ []) later)

intervals_closed_at : (before : List Interval) (n e : ℕ) (p : PartName) (es : List Event) → e ≡ n + length (text_of es) → Fate n es
    → before ++ intervals_from n (es ++ closed ∷ []) ≡ with_last_listed e (before ++ intervals_from n es) (open_from n (length before) es)
    → ((x : Interval) → (before ++ x ∷ []) ++ intervals_from n (es ++ closed ∷ [])
    ≡ with_last_listed e ((before ++ x ∷ []) ++ intervals_from n es) (open_from n (length before + 1) es))
    → before ++ intervals_from n (opened p ∷ (es ++ closed ∷ []))
    ≡ with_last_listed e (before ++ intervals_from n (opened p ∷ es)) (open_from n (length before) (opened p ∷ es))
intervals_closed_at before n e p es at_end (ended m was is) one two =
    rw (was, is) (listing_passed (eqb n m) e before (intervals_from n es) (intervals_from n (es ++ closed ∷ []))
    (record { start = n; end = m; part = p }) (open_from n (length before) es) (open_from n (length before + 1) es) one (two (record { start = n; end = m; part = p })))
intervals_closed_at before n e p es at_end (ends none was is) one two =
    let nothing_open = none_open n (length before) es none in
    let same = append_cancel_left before (intervals_from n (es ++ closed ∷ [])) (intervals_from n es)
    (one ∙ ap (with_last_listed e (before ++ intervals_from n es)) nothing_open) in
    rw (was, is, nothing_open, sym at_end)
    (listing_here (eqb n e) before (intervals_from n es) (intervals_from n (es ++ closed ∷ [])) (record { start = n; end = e; part = p }) same)
intervals_closed_at before n e p es at_end (goes_on some was is) one two =
    rw (was, is) (one ∙ sym (outer_waits e (before ++ intervals_from n es) (record { start = n; place = length before; part = p })
    (open_from n (length before) es) (some_open n (length before) es some)))

-- a closing after lists the last open part at its place, unless it has no bytes
pub intervals_closed : (before : List Interval) (n e : ℕ) (es : List Event) → e ≡ n + length (text_of es)
    → before ++ intervals_from n (es ++ closed ∷ []) ≡ with_last_listed e (before ++ intervals_from n es) (open_from n (length before) es)
intervals_closed before n e [] at_end = refl
intervals_closed before n e (byte c ∷ es) at_end = intervals_closed before (n + 1) e es (at_end ∙ omega arith)
intervals_closed before n e (opened p ∷ es) at_end =
    intervals_closed_at before n e p es at_end (fate n es) (intervals_closed before n e es at_end)
    (λ x. intervals_closed (before ++ x ∷ []) n e es at_end
    ∙ ap (λ place. with_last_listed e ((before ++ x ∷ []) ++ intervals_from n es) (open_from n place es)) (length_push before x))
intervals_closed before n e (closed ∷ es) at_end = intervals_closed before n e es at_end
