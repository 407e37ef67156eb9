-- How each step of a run moves what was answered.
use Rattle.std.proofs.Common.{lit<, ◌≡◌, ℕ, ◌+◌, ◌<◌, ◌^◌, min, List, [], ◌∷◌, ◌++◌, take, drop, Option, refl, sym, ap, ◌∙◌, subst, arith, append_assoc, append-nil, length-append, take-append-drop}
use Rattle.std.specs.List.{flat_map}
use Rattle.std.proofs.lemmas.List.Concat.{flat_map-append}
use Rattle.std.specs.Io.KnownBytes.{Appends}
use Rattle.std.proofs.KnownBytes.{Appends-nil, Appends-trans}
use Rattle.locale_numbers_lines.specs.Lines.{ended, HasNoFeed, answers_to}
use Rattle.locale_numbers_lines.specs.Run.{most, WritesFront}
use Rattle.locale_numbers_lines.specs.Progress.{FirstLine, Moves, Counts, Progress, Answered, AnsweredPart}
use Rattle.locale_numbers_lines.proofs.LinesLemmas.{AreLines-push}
use Rattle.locale_numbers_lines.proofs.WriteLemmas.{front_written}

pub HasNoFeed-append : (front rest : List ℕ) → HasNoFeed front → HasNoFeed rest → HasNoFeed (front ++ rest)
HasNoFeed-append [] rest none after = after
HasNoFeed-append (byte ∷ front) rest none after = (none.0, HasNoFeed-append front rest none.1 after)

-- nothing was looked at
pub progress_begun : (answer : List ℕ → List ℕ) (held left ready : List ℕ) (before : Option (List ℕ)) (count : ℕ) (over : List (List ℕ) → ℕ) → HasNoFeed held → ready ≡ [] → count < 2 ^ 64
    → Progress answer (held ++ left) held left ready before before count count over over
progress_begun answer held left ready before count over cut nothing fits = record {
  lines = [];
  whole = refl;
  each = tt;
  cut = cut;
  sent = [];
  wrote = Appends-nil before;
  kept = nothing;
  counts = record { counted = omega (arith, fits); made = λ more. refl };
}

-- bytes before a line, the line and what follows its feed
line_joined : (before line rest : List ℕ) → before ++ (line ++ (10 ∷ rest)) ≡ (before ++ (ended line ++ [])) ++ rest
line_joined before line rest = simp append_assoc

-- one line more
flat_map_push : (piece : List ℕ → List ℕ) (lines : List (List ℕ)) (line : List ℕ) → flat_map piece (lines ++ line ∷ []) ≡ flat_map piece lines ++ piece line
flat_map_push piece lines line = flat_map-append piece lines (line ∷ []) ∙ ap (λ l. flat_map piece lines ++ l) (append-nil (piece line))

-- bytes after some lines are one line more, and a rest
line_more : (bytes held left line rest : List ℕ) (lines : List (List ℕ)) → bytes ≡ flat_map ended lines ++ (held ++ left) → FirstLine left line rest
    → bytes ≡ flat_map ended (lines ++ (held ++ line) ∷ []) ++ rest
line_more bytes held left line rest lines whole first =
    whole ∙ ap (λ l. flat_map ended lines ++ (held ++ l)) first.whole ∙ ap (λ l. flat_map ended lines ++ l) (sym (append_assoc held line (10 ∷ rest)))
    ∙ line_joined (flat_map ended lines) (held ++ line) rest ∙ ap (λ l. l ++ rest) (sym (flat_map-append ended lines ((held ++ line) ∷ [])))

-- its answer follows the others
answer_more : (answer answer' : List ℕ → List ℕ) (sent ready ready' line : List ℕ) (lines : List (List ℕ)) → answer' ≡ answer → ready' ≡ ready ++ ended (answer' line) → sent ++ ready ≡ answers_to answer lines
    → sent ++ ready' ≡ answers_to answer (lines ++ line ∷ [])
answer_more answer answer' sent ready ready' line lines same text kept =
    ap (λ l. sent ++ l) (text ∙ ap (λ f. ready ++ ended (f line)) same) ∙ sym (append_assoc sent ready (ended (answer line))) ∙ ap (λ l. l ++ ended (answer line)) kept
    ∙ sym (flat_map_push (λ l. ended (answer l)) lines line)

counts_more : (lines : List (List ℕ)) (line : List ℕ) (old new new' : ℕ) (over next next' : List (List ℕ) → ℕ) → Counts lines old new over next → new' ≡ min (new + 1) most
    → ((more : List (List ℕ)) → next (line ∷ more) ≡ next' more) → Counts (lines ++ line ∷ []) old new' over next'
counts_more lines line old new new' over next next' counts one_more made_line = record {
  counted = omega (arith, one_more, counts.counted, length-append lines (line ∷ []));
  made = λ more. ap over (append_assoc lines (line ∷ []) more) ∙ counts.made (line ∷ more) ∙ made_line more;
}

-- the next line's answer is ready
pub progress_line : (answer answer' : List ℕ → List ℕ) (bytes held left ready : List ℕ) (before after : Option (List ℕ)) (old new : ℕ) (over next : List (List ℕ) → ℕ)
    (line held' rest ready' : List ℕ) (new' : ℕ) (next' : List (List ℕ) → ℕ) → Progress answer bytes held left ready before after old new over next → FirstLine left line rest
    → answer' ≡ answer → ready' ≡ ready ++ ended (answer' (held ++ line)) → ((more : List (List ℕ)) → next ((held ++ line) ∷ more) ≡ next' more) → new' ≡ min (new + 1) most → held' ≡ []
    → Progress answer bytes held' rest ready' before after old new' over next'
progress_line answer answer' bytes held left ready before after old new over next line held' rest ready' new' next' came first same text made_line one_more gone =
    record {
      lines = came.lines ++ (held ++ line) ∷ [];
      whole = line_more bytes held left line rest came.lines came.whole first ∙ ap (λ l. flat_map ended (came.lines ++ (held ++ line) ∷ []) ++ l) (ap (λ l. l ++ rest) (sym gone));
      each = AreLines-push came.lines (held ++ line) came.each (HasNoFeed-append held line came.cut first.cut);
      cut = subst HasNoFeed (sym gone) tt;
      sent = came.sent;
      wrote = came.wrote;
      kept = answer_more answer answer' came.sent ready ready' (held ++ line) came.lines same text came.kept;
      counts = counts_more came.lines (held ++ line) old new new' over next next' came.counts one_more made_line;
    }

-- a front of the ready answers was written
pub progress_moved : (answer : List ℕ → List ℕ) (bytes held left ready : List ℕ) (before after : Option (List ℕ)) (old new : ℕ) (over next : List (List ℕ) → ℕ) (ready' : List ℕ) (after' : Option (List ℕ))
    → Progress answer bytes held left ready before after old new over next → Moves ready ready' after after' → Progress answer bytes held left ready' before after' old new over next
progress_moved answer bytes held left ready before after old new over next ready' after' came moved = record {
  lines = came.lines;
  whole = came.whole;
  each = came.each;
  cut = came.cut;
  sent = came.sent ++ moved.sent;
  wrote = Appends-trans before after after' came.sent moved.sent came.wrote moved.wrote;
  kept = append_assoc came.sent moved.sent ready' ∙ ap (λ l. came.sent ++ l) (sym moved.whole) ∙ came.kept;
  counts = came.counts;
}

-- what has no feed is held
pub progress_held : (answer : List ℕ → List ℕ) (bytes held left ready : List ℕ) (before after : Option (List ℕ)) (old new : ℕ) (over next : List (List ℕ) → ℕ) (held' : List ℕ)
    → Progress answer bytes held left ready before after old new over next → HasNoFeed left → held' ≡ held ++ left → Progress answer bytes held' [] ready before after old new over next
progress_held answer bytes held left ready before after old new over next held' came none more = record {
  lines = came.lines;
  whole = came.whole ∙ ap (λ l. flat_map ended came.lines ++ l) (sym more ∙ sym (append-nil held'));
  each = came.each;
  cut = subst HasNoFeed (sym more) (HasNoFeed-append held left came.cut none);
  sent = came.sent;
  wrote = came.wrote;
  kept = came.kept;
  counts = came.counts;
}

-- so far some first lines were answered
pub progress_answered : (answer : List ℕ → List ℕ) (bytes held left ready : List ℕ) (before after : Option (List ℕ)) (old new : ℕ) (over next : List (List ℕ) → ℕ) (ready' : List ℕ)
    → Progress answer bytes held left ready before after old new over next → ready' ≡ ready → Answered answer bytes ready' before after
progress_answered answer bytes held left ready before after old new over next ready' came same = record {
  lines = came.lines;
  rest = held ++ left;
  whole = came.whole;
  each = came.each;
  sent = came.sent;
  wrote = came.wrote;
  kept = ap (λ l. came.sent ++ l) same ∙ came.kept;
}

-- the ready answers were written
pub answered_written : (answer : List ℕ → List ℕ) (bytes ready : List ℕ) (before after after' : Option (List ℕ)) → Answered answer bytes ready before after → Appends after after' ready → Answered answer bytes [] before after'
answered_written answer bytes ready before after after' came wrote = record {
  lines = came.lines;
  rest = came.rest;
  whole = came.whole;
  each = came.each;
  sent = came.sent ++ ready;
  wrote = Appends-trans before after after' came.sent ready came.wrote wrote;
  kept = append-nil (came.sent ++ ready) ∙ came.kept;
}

-- a front of the ready answers was written
pub answered_part : (answer : List ℕ → List ℕ) (bytes ready : List ℕ) (before after after' : Option (List ℕ)) → Answered answer bytes ready before after → WritesFront ready after after' → AnsweredPart answer bytes before after'
answered_part answer bytes ready before after after' came front =
    let sent = came.sent ++ take front.count ready in
    let whole : answers_to answer came.lines ≡ sent ++ drop front.count ready =
    sym came.kept ∙ ap (λ l. came.sent ++ l) (sym (take-append-drop front.count ready)) ∙ sym (append_assoc came.sent (take front.count ready) (drop front.count ready)) in
    let written = front_written (answers_to answer came.lines) sent (drop front.count ready) before after' whole (Appends-trans before after after' came.sent (take front.count ready) came.wrote front.wrote) in
    record { lines = came.lines; rest = came.rest; whole = came.whole; each = came.each; count = written.count; wrote = written.wrote }

-- all ready answers were written
pub progress_written : (answer : List ℕ → List ℕ) (bytes held left ready : List ℕ) (before after : Option (List ℕ)) (old new : ℕ) (over next : List (List ℕ) → ℕ) (after' : Option (List ℕ))
    → Progress answer bytes held left ready before after old new over next → Appends after after' ready → Progress answer bytes held left [] before after' old new over next
progress_written answer bytes held left ready before after old new over next after' came wrote =
    progress_moved answer bytes held left ready before after old new over next [] after' came (record { sent = ready; whole = sym (append-nil ready); wrote = wrote })

-- before the first read
pub progress_none : (answer : List ℕ → List ℕ) (held : List ℕ) (before : Option (List ℕ)) (over : List (List ℕ) → ℕ) → held ≡ [] → Progress answer [] held [] [] before before 0 0 over over
progress_none answer held before over none =
    subst (λ (l : List ℕ). Progress answer [] l [] [] before before 0 0 over over) (sym none) (progress_begun answer [] [] [] before 0 over tt refl (lit< tt))
