-- Balanced events: each part that opens in them is closed in them, and each closing is one of theirs.
use Rattle.std.proofs.Common.{◌≡◌, ℕ, zero, suc, ◌-◌, ◌<◌, List, [], ◌∷◌, ◌++◌, length, Option, None, Some, refl, sym, ◌∙◌, ap, arith}
use Rattle.std.proofs.lemmas.List.{append-nil, nil_from_length}
use Rattle.writeable.specs.AnnotatedText.{Event, byte, opened, closed, bytes, opening, closing, text_of, end_of, listed, intervals_from, annotated}
use Rattle.writeable.specs.HeldParts.{open_from}
use Rattle.writeable.specs.Laws.{IsBalanced, around}
use Rattle.writeable.specs.PartName.{PartName}
use Rattle.writeable.specs.SinkLaws.{text_of_joined}
use Rattle.writeable.proofs.LawsLemmas.{closed_inside, intervals_append}
use Rattle.writeable.proofs.EndsLemmas.{strays, unclosed, unclosed_before, end_of_none, end_of_some, end_of_closed, length-open_from}

-- balanced events, by counts
pub record IsEven (es : List Event) : Type 0 where
  none_open : unclosed es ≡ 0
  own : strays es ≡ 0

pub own_closings : (closings : ℕ) (end : Option ℕ) → (0 < closings → (m : ℕ) × (end ≡ Some m)) → end ≡ None → closings ≡ 0
own_closings zero end some none = refl
own_closings (suc closings) end some none = let found = some (omega arith) in let clash : Some found.0 ≡ None = sym found.1 ∙ none in cc

pub even_from : (es : List Event) → IsBalanced es → IsEven es
even_from es balanced = record {
  none_open = sym (length-open_from 0 0 es) ∙ ap length balanced.closed;
  own = own_closings (strays es) (end_of 0 0 es) (end_of_some 0 0 es) balanced.own;
}

balanced_from : (es : List Event) → IsEven es → IsBalanced es
balanced_from es even = record {
  closed = nil_from_length (open_from 0 0 es) (length-open_from 0 0 es ∙ even.none_open);
  own = end_of_none 0 0 es (omega (arith, even.own));
}

bytes_even : (text : List ℕ) → IsEven (bytes text)
unfolding bytes
bytes_even [] = record { none_open = refl; own = refl }
bytes_even (b ∷ text) = let rest = bytes_even text in record { none_open = rest.none_open; own = rest.own }

strays_append : (first second : List Event) → strays second ≡ 0 → strays (first ++ second) ≡ strays first
strays_append [] second own = own
strays_append (byte b ∷ es) second own = strays_append es second own
strays_append (opened p ∷ es) second own = ap (λ n. n - 1) (strays_append es second own)
strays_append (closed ∷ es) second own = ap suc (strays_append es second own)

unclosed_append : (first second : List Event) → strays second ≡ 0 → unclosed second ≡ 0 → unclosed (first ++ second) ≡ unclosed first
unclosed_append [] second own none = none
unclosed_append (byte b ∷ es) second own none = unclosed_append es second own none
unclosed_append (opened p ∷ es) second own none =
    ap (λ before. unclosed_before before (unclosed (es ++ second))) (strays_append es second own)
    ∙ ap (unclosed_before (strays es)) (unclosed_append es second own none)
unclosed_append (closed ∷ es) second own none = unclosed_append es second own none

append_even : (first second : List Event) → IsEven first → IsEven second → IsEven (first ++ second)
append_even first second one two = record {
  none_open = unclosed_append first second two.own two.none_open ∙ one.none_open;
  own = strays_append first second two.own ∙ one.own;
}

closing_strays : (es : List Event) → unclosed es ≡ 0 → strays (es ++ closed ∷ []) ≡ suc (strays es)
closing_strays [] none = refl
closing_strays (byte b ∷ es) none = closing_strays es none
closing_strays (opened p ∷ es) none = let inside = closed_inside (strays es) (unclosed es) none in omega (arith, inside.0, closing_strays es inside.1)
closing_strays (closed ∷ es) none = ap suc (closing_strays es none)

closing_unclosed : (es : List Event) → unclosed es ≡ 0 → unclosed (es ++ closed ∷ []) ≡ 0
closing_unclosed [] none = refl
closing_unclosed (byte b ∷ es) none = closing_unclosed es none
closing_unclosed (opened p ∷ es) none =
    let inside = closed_inside (strays es) (unclosed es) none in
    ap (λ before. unclosed_before before (unclosed (es ++ closed ∷ []))) (closing_strays es inside.1) ∙ closing_unclosed es inside.1
closing_unclosed (closed ∷ es) none = closing_unclosed es none

around_even : (part : PartName) (es : List Event) → IsEven es → IsEven (opening part ++ (es ++ closing))
unfolding opening closing
around_even part es even = record {
  none_open = ap (λ before. unclosed_before before (unclosed (es ++ closed ∷ []))) (closing_strays es even.none_open) ∙ closing_unclosed es even.none_open;
  own = omega (arith, closing_strays es even.none_open, even.own);
}

pub balanced_none : IsBalanced []
balanced_none = balanced_from [] (record { none_open = refl; own = refl })

pub balanced_text : (text : List ℕ) → IsBalanced (bytes text)
balanced_text text = balanced_from (bytes text) (bytes_even text)

pub balanced_append : (first second : List Event) → IsBalanced first → IsBalanced second → IsBalanced (first ++ second)
balanced_append first second one two = balanced_from (first ++ second) (append_even first second (even_from first one) (even_from second two))

pub balanced_part : (part : PartName) (es : List Event) → IsBalanced es → IsBalanced (opening part ++ (es ++ closing))
balanced_part part es balanced = balanced_from (opening part ++ (es ++ closing)) (around_even part es (even_from es balanced))

-- a part around balanced events
pub part_around : (part : PartName) (es : List Event) → IsBalanced es → annotated (opening part ++ (es ++ closing)) ≡ around part (annotated es)
unfolding opening closing
part_around part es balanced =
    let even = even_from es balanced in
    let text = text_of_joined es (closed ∷ []) ∙ append-nil (text_of es) in
    let end = end_of_closed 0 0 es even.none_open even.own ∙ ap Some (omega arith) in
    let inner = intervals_append 0 es (closed ∷ []) even.none_open ∙ append-nil (intervals_from 0 es) in
    let parts = ap (λ ends. listed 0 ends part (intervals_from 0 (es ++ closed ∷ []))) end ∙ ap (listed 0 (Some (length (text_of es))) part) inner in
    λ i. record { text = text i; parts = parts i }
