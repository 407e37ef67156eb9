-- The intervals of events one after the other, and of a part around events.
use Rattle.std.proofs.Common.{◌≡◌, ℕ, suc, ◌+◌, true, false, cond, List, [], ◌∷◌, ◌++◌, length, Some, sym, ap, ◌∙◌, arith, eqb}
use Rattle.std.proofs.lemmas.List.{append-nil}
use Rattle.writeable.specs.AnnotatedText.{Event, Interval, bytes, closed, closing, end_of, intervals_from, listed, opening, text_of}
use Rattle.writeable.specs.Laws.{IsBalanced}
use Rattle.writeable.specs.PartName.{PartName}
use Rattle.writeable.proofs.AnnotatedTextLemmas.{text_of_bytes}
use Rattle.writeable.proofs.BalancedLemmas.{balanced_part, balanced_text, own_closings}
use Rattle.writeable.proofs.EndsLemmas.{end_of_closed, end_of_some, length-open_from, strays, unclosed}
use Rattle.writeable.proofs.LawsLemmas.{intervals_append, intervals_bytes_alone}
use Rattle.icu_decimal_plain.specs.Affixes.{as_part}
use Rattle.icu_decimal_plain.specs.PartIntervals.{part_at}

none_open : (es : List Event) → IsBalanced es → unclosed es ≡ 0
none_open es balanced = sym (length-open_from 0 0 es) ∙ ap length balanced.closed

pub both_from : (n : ℕ) (first second : List Event) (text : List ℕ) → IsBalanced first → text_of first ≡ text → intervals_from n (first ++ second) ≡ intervals_from n first ++ intervals_from (n + length text) second
both_from n first second text balanced same =
    intervals_append n first second (none_open first balanced)
    ∙ ap (λ written. intervals_from n first ++ intervals_from (n + length written) second) same

eqb_none : (n : ℕ) → eqb n (n + 0) ≡ true
eqb_none n = grind arith

eqb_more : (n m : ℕ) → eqb n (n + suc m) ≡ false
eqb_more n m = grind arith

listed_at : (n : ℕ) (text : List ℕ) (part : PartName) (inner : List Interval) → listed n (Some (n + length text)) part inner ≡ part_at n text part ++ inner
listed_at n [] part inner = ap (λ b. cond b inner (record { start = n; end = n + 0; part = part } ∷ inner)) (eqb_none n)
listed_at n (b ∷ text) part inner =
    ap (λ same. cond same inner (record { start = n; end = n + length (b ∷ text); part = part } ∷ inner)) (eqb_more n (length text))

-- a part around balanced events that write a text, before the parts inside it
pub part_from : (n : ℕ) (part : PartName) (es : List Event) (text : List ℕ) → IsBalanced es → text_of es ≡ text → intervals_from n (opening part ++ (es ++ closing)) ≡ part_at n text part ++ intervals_from n es
unfolding opening closing
part_from n part es text balanced same =
    let none : unclosed es ≡ 0 = none_open es balanced in
    let own : strays es ≡ 0 = own_closings (strays es) (end_of 0 0 es) (end_of_some 0 0 es) balanced.own in
    ap (λ end. listed n end part (intervals_from n (es ++ closed ∷ []))) (end_of_closed n 0 es none own)
    ∙ ap (λ inner. listed n (Some (n + length (text_of es))) part inner) (intervals_append n es (closed ∷ []) none ∙ append-nil (intervals_from n es))
    ∙ ap (λ written. listed n (Some (n + length written)) part (intervals_from n es)) same
    ∙ listed_at n text part (intervals_from n es)

pub text_part_from : (n : ℕ) (part : PartName) (text : List ℕ) → intervals_from n (as_part part text) ≡ part_at n text part
text_part_from n part text =
    part_from n part (bytes text) text (balanced_text text) (text_of_bytes text)
    ∙ ap (λ inner. part_at n text part ++ inner) (intervals_bytes_alone n text)
    ∙ append-nil (part_at n text part)

pub text_part_balanced : (part : PartName) (text : List ℕ) → IsBalanced (as_part part text)
text_part_balanced part text = balanced_part part (bytes text) (balanced_text text)
