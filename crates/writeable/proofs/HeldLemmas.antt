-- What one call leaves in a `PartsSink`.
use Rattle.std.proofs.Common.{◌≡◌, ℕ, ◌+◌, List, [], ◌∷◌, ◌++◌, length, refl, sym, ◌∙◌, ap, arith}
use Rattle.std.proofs.lemmas.List.{append_assoc, append-nil}
use Rattle.writeable.specs.AnnotatedText.{Event, byte, opened, closed, bytes, opening, closing, text_of, Interval, intervals_from}
use Rattle.writeable.specs.HeldParts.{OpenInterval, open_from, Held, held_after}
use Rattle.writeable.specs.PartName.{PartName}
use Rattle.writeable.specs.SinkLaws.{text_of_joined}
use Rattle.writeable.proofs.AnnotatedTextLemmas.{text_of_bytes}
use Rattle.writeable.proofs.HeldPartsLemmas.{intervals_byte, open_byte, intervals_opened, open_at, open_opened, all_but_last, with_last_listed, open_closed, intervals_closed}

-- by its three fields
same_held : (t : Held) (text : List ℕ) (parts : List Interval) (open_parts : List OpenInterval)
    → t.text ≡ text → t.parts ≡ parts → t.open_parts ≡ open_parts → t ≡ record { text = text; parts = parts; open_parts = open_parts }
same_held t text parts open_parts one two three = λ i. record { text = one i; parts = two i; open_parts = three i }

intervals_bytes : (before : List Event) (text : List ℕ) → intervals_from 0 (before ++ bytes text) ≡ intervals_from 0 before
unfolding bytes
intervals_bytes before [] = ap (intervals_from 0) (append-nil before)
intervals_bytes before (b ∷ text) =
    ap (intervals_from 0) (sym (append_assoc before (byte b ∷ []) (bytes text)))
    ∙ intervals_bytes (before ++ byte b ∷ []) text ∙ intervals_byte 0 before b

open_bytes : (before : List Event) (text : List ℕ) → open_from 0 0 (before ++ bytes text) ≡ open_from 0 0 before
unfolding bytes
open_bytes before [] = ap (open_from 0 0) (append-nil before)
open_bytes before (b ∷ text) =
    ap (open_from 0 0) (sym (append_assoc before (byte b ∷ []) (bytes text)))
    ∙ open_bytes (before ++ byte b ∷ []) text ∙ open_byte 0 0 before b

-- bytes go after the text
pub holds_bytes : (s t : Held) (before : List Event) (text : List ℕ) → s ≡ held_after before
    → t.text ≡ s.text ++ text → t.parts ≡ s.parts → t.open_parts ≡ s.open_parts → t ≡ held_after (before ++ bytes text)
holds_bytes s t before text is one two three = same_held t _ _ _
    (one ∙ ap (λ (held : Held). held.text ++ text) is
    ∙ sym (text_of_joined before (bytes text) ∙ ap (λ more. text_of before ++ more) (text_of_bytes text)))
    (two ∙ ap (λ (held : Held). held.parts) is ∙ sym (intervals_bytes before text))
    (three ∙ ap (λ (held : Held). held.open_parts) is ∙ sym (open_bytes before text))

text_unchanged : (before more : List Event) → text_of more ≡ [] → text_of before ≡ text_of (before ++ more)
text_unchanged before more none =
    sym (text_of_joined before more ∙ ap (λ text. text_of before ++ text) none ∙ append-nil (text_of before))

-- a part that opens is the last that is open
pub holds_opening : (s t : Held) (before : List Event) (part : PartName) → s ≡ held_after before
    → t.text ≡ s.text → t.parts ≡ s.parts → t.open_parts ≡ s.open_parts ++ open_at (length s.text) (length s.parts) part
    → t ≡ held_after (before ++ opening part)
unfolding opening
holds_opening s t before part is one two three = same_held t _ _ _
    (one ∙ ap (λ (held : Held). held.text) is ∙ text_unchanged before (opened part ∷ []) refl)
    (two ∙ ap (λ (held : Held). held.parts) is ∙ sym (intervals_opened 0 before part))
    (three ∙ ap (λ (held : Held). held.open_parts ++ open_at (length held.text) (length held.parts) part) is
    ∙ ap (λ end. open_from 0 0 before ++ open_at end (length (intervals_from 0 before)) part) (omega arith)
    ∙ ap (λ place. open_from 0 0 before ++ open_at (0 + length (text_of before)) place part) (omega arith)
    ∙ sym (open_opened 0 0 before part))

closed_parts : (before : List Event) → intervals_from 0 (before ++ closed ∷ [])
    ≡ with_last_listed (length (text_of before)) (intervals_from 0 before) (open_from 0 0 before)
closed_parts before = intervals_closed [] 0 (length (text_of before)) before (omega arith)

-- where none is open, nothing closes
pub holds_stray : (s : Held) (before : List Event) → s ≡ held_after before → s.open_parts ≡ [] → s ≡ held_after (before ++ closing)
unfolding closing
holds_stray s before is none =
    let none_before = sym (ap (λ (held : Held). held.open_parts) is) ∙ none in
    same_held s _ _ _
    (ap (λ (held : Held). held.text) is ∙ text_unchanged before (closed ∷ []) refl)
    (ap (λ (held : Held). held.parts) is
    ∙ sym (closed_parts before ∙ ap (with_last_listed (length (text_of before)) (intervals_from 0 before)) none_before))
    (none ∙ sym (open_closed 0 0 before ∙ ap all_but_last none_before))

all_but_pushed : (front : List OpenInterval) (last : OpenInterval) → all_but_last (front ++ last ∷ []) ≡ front
all_but_pushed [] last = refl
all_but_pushed (o ∷ []) last = refl
all_but_pushed (o ∷ (q ∷ front)) last = ap (λ rest. o ∷ rest) (all_but_pushed (q ∷ front) last)

with_pushed_listed : (end : ℕ) (parts : List Interval) (front : List OpenInterval) (last : OpenInterval)
    → with_last_listed end parts (front ++ last ∷ []) ≡ with_last_listed end parts (last ∷ [])
with_pushed_listed end parts [] last = refl
with_pushed_listed end parts (o ∷ []) last = refl
with_pushed_listed end parts (o ∷ (q ∷ front)) last = with_pushed_listed end parts (q ∷ front) last

-- the last open part is listed at its place, unless it has no bytes
pub holds_closing : (s t : Held) (before : List Event) (front : List OpenInterval) (last : OpenInterval) → s ≡ held_after before
    → s.open_parts ≡ front ++ last ∷ [] → t.text ≡ s.text → t.parts ≡ with_last_listed (length s.text) s.parts (last ∷ [])
    → t.open_parts ≡ front → t ≡ held_after (before ++ closing)
unfolding closing
holds_closing s t before front last is open_now one two three =
    let open_before = sym (ap (λ (held : Held). held.open_parts) is) ∙ open_now in
    same_held t _ _ _
    (one ∙ ap (λ (held : Held). held.text) is ∙ text_unchanged before (closed ∷ []) refl)
    (two ∙ ap (λ (held : Held). with_last_listed (length held.text) held.parts (last ∷ [])) is
    ∙ sym (closed_parts before ∙ ap (with_last_listed (length (text_of before)) (intervals_from 0 before)) open_before
    ∙ with_pushed_listed (length (text_of before)) (intervals_from 0 before) front last))
    (three ∙ sym (open_closed 0 0 before ∙ ap all_but_last open_before ∙ all_but_pushed front last))
