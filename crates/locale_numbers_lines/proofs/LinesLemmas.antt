-- What the lines of joined bytes are.
use Rattle.std.proofs.Common.{◌≡◌, ℕ, false, ◌==◌, List, [], ◌∷◌, ◌++◌, refl, sym, ap, ◌∙◌, append_assoc, append-nil, ⊎_elim}
use Rattle.std.proofs.lemmas.Bool.{cases_Bool, eqb-true}
use Rattle.std.specs.List.{flat_map, onto_first}
use Rattle.std.proofs.lemmas.List.Concat.{flat_map-append}
use Rattle.locale_numbers_lines.specs.Lines.{lines_of, whole_lines, onto_whole, ended, HasNoFeed, AreLines, Splits, last_line, answers_to, output_of}

-- bytes with no feed are one line where there are any
pub lines_of-none : (rest : List ℕ) → HasNoFeed rest → lines_of rest ≡ last_line rest
lines_of-none [] none = refl
lines_of-none (byte ∷ []) none = rw none.0 refl
lines_of-none (byte ∷ next ∷ rest) none = rw none.0 (ap (onto_first byte) (lines_of-none (next ∷ rest) none.1))

pub lines_of-ended : (line more : List ℕ) → HasNoFeed line → lines_of (line ++ (10 ∷ more)) ≡ line ∷ lines_of more
lines_of-ended [] more none = refl
lines_of-ended (byte ∷ line) more none = rw none.0 (ap (onto_first byte) (lines_of-ended line more none.1))

-- the first of some ended lines, put before the rest
ended_first : (line : List ℕ) (lines : List (List ℕ)) (rest : List ℕ) → flat_map ended (line ∷ lines) ++ rest ≡ line ++ (10 ∷ (flat_map ended lines ++ rest))
ended_first line lines rest = append_assoc (line ++ 10 ∷ []) (flat_map ended lines) rest ∙ append_assoc line (10 ∷ []) (flat_map ended lines ++ rest)

pub lines_of-split : (lines : List (List ℕ)) (rest : List ℕ) → AreLines lines → lines_of (flat_map ended lines ++ rest) ≡ lines ++ lines_of rest
lines_of-split [] rest are = refl
lines_of-split (line ∷ lines) rest are =
    ap lines_of (ended_first line lines rest) ∙ lines_of-ended line (flat_map ended lines ++ rest) are.0 ∙ ap (λ after. line ∷ after) (lines_of-split lines rest are.1)

pub whole_lines-none : (rest : List ℕ) → HasNoFeed rest → whole_lines rest ≡ []
whole_lines-none [] none = refl
whole_lines-none (byte ∷ rest) none = rw none.0 (ap (onto_whole byte) (whole_lines-none rest none.1))

pub whole_lines-ended : (line more : List ℕ) → HasNoFeed line → whole_lines (line ++ (10 ∷ more)) ≡ line ∷ whole_lines more
whole_lines-ended [] more none = refl
whole_lines-ended (byte ∷ line) more none = rw none.0 (ap (onto_whole byte) (whole_lines-ended line more none.1))

pub whole_lines-split : (lines : List (List ℕ)) (rest : List ℕ) → AreLines lines → whole_lines (flat_map ended lines ++ rest) ≡ lines ++ whole_lines rest
whole_lines-split [] rest are = refl
whole_lines-split (line ∷ lines) rest are =
    ap whole_lines (ended_first line lines rest) ∙ whole_lines-ended line (flat_map ended lines ++ rest) are.0 ∙ ap (λ after. line ∷ after) (whole_lines-split lines rest are.1)

-- the lines of bytes that are cut into lines and a rest
pub lines_are : (bytes : List ℕ) (lines : List (List ℕ)) (rest : List ℕ) → Splits bytes lines rest → lines_of bytes ≡ lines ++ last_line rest
lines_are bytes lines rest splits = ap lines_of splits.whole ∙ lines_of-split lines rest splits.each ∙ ap (λ after. lines ++ after) (lines_of-none rest splits.cut)

pub whole_lines_are : (bytes : List ℕ) (lines : List (List ℕ)) (rest : List ℕ) → Splits bytes lines rest → whole_lines bytes ≡ lines
whole_lines_are bytes lines rest splits =
    ap whole_lines splits.whole ∙ whole_lines-split lines rest splits.each ∙ ap (λ after. lines ++ after) (whole_lines-none rest splits.cut) ∙ append-nil lines

pub AreLines-push : (lines : List (List ℕ)) (line : List ℕ) → AreLines lines → HasNoFeed line → AreLines (lines ++ line ∷ [])
AreLines-push [] line are none = (none, tt)
AreLines-push (first ∷ lines) line are none = (are.0, AreLines-push lines line are.1 none)

-- the pieces of some bytes, after one more byte in front
onto_split : (byte : ℕ) (bytes : List ℕ) (lines : List (List ℕ)) (rest : List ℕ) → (byte == 10) ≡ false → Splits bytes lines rest
    → (lines' : List (List ℕ)) × (rest' : List ℕ) × Splits (byte ∷ bytes) lines' rest'
onto_split byte bytes [] rest other splits = ([], byte ∷ rest, record { whole = ap (λ l. byte ∷ l) splits.whole; each = tt; cut = (other, splits.cut) })
onto_split byte bytes (line ∷ lines) rest other splits =
    ((byte ∷ line) ∷ lines, rest, record { whole = ap (λ l. byte ∷ l) splits.whole; each = ((other, splits.each.0), splits.each.1); cut = splits.cut })

pub splits_of : (bytes : List ℕ) → (lines : List (List ℕ)) × (rest : List ℕ) × Splits bytes lines rest
splits_of [] = ([], [], record { whole = refl; each = tt; cut = tt })
splits_of (byte ∷ bytes) =
    let (lines, rest, splits) = splits_of bytes in
    ⊎_elim
    (λ feed. ([] ∷ lines, rest, record { whole = ap (λ b. b ∷ bytes) (eqb-true byte 10 feed) ∙ ap (λ l. 10 ∷ l) splits.whole; each = (tt, splits.each); cut = splits.cut }))
    (λ other. onto_split byte bytes lines rest other splits)
    (cases_Bool (byte == 10))

-- bytes that end with a feed are lines alone
splits_ended : (first : List ℕ) → (lines : List (List ℕ)) × (ended first ≡ flat_map ended lines) × AreLines lines
splits_ended first =
    let (lines, rest, splits) = splits_of first in (
      lines ++ rest ∷ [],
      ap (λ l. l ++ 10 ∷ []) splits.whole ∙ append_assoc (flat_map ended lines) rest (10 ∷ []) ∙ ap (λ l. flat_map ended lines ++ l) (sym (append-nil (ended rest))) ∙ sym (flat_map-append ended lines (rest ∷ [])),
      AreLines-push lines rest splits.each splits.cut,
    )

pub output_of-joined : (answer : List ℕ → List ℕ) (first second : List ℕ) → output_of answer (ended first ++ second) ≡ output_of answer (ended first) ++ output_of answer second
output_of-joined answer first second =
    let (lines, whole, are) = splits_ended first in
    let alone : lines_of (ended first) ≡ lines =
    ap lines_of (whole ∙ sym (append-nil (flat_map ended lines))) ∙ lines_of-split lines [] are ∙ append-nil lines in
    let joined : lines_of (ended first ++ second) ≡ lines ++ lines_of second =
    ap (λ l. lines_of (l ++ second)) whole ∙ lines_of-split lines second are in
    ap (answers_to answer) joined ∙ flat_map-append (λ line. ended (answer line)) lines (lines_of second) ∙ ap (λ l. answers_to answer l ++ output_of answer second) (sym alone)
