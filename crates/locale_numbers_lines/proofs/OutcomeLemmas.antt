-- From how far a run has come to what it leaves at each of its outcomes.
use Rattle.std.proofs.Common.{◌≡◌, ℕ, min, List, [], ◌∷◌, ◌++◌, length, take, drop, Option, None, Some, sym, ap, ◌∙◌, subst, arith, append_assoc, append-nil, length-append, take-append-drop}
use Rattle.std.specs.List.{flat_map}
use Rattle.std.proofs.lemmas.List.Concat.{flat_map-append}
use Rattle.std.proofs.Math.Seq.{take-append_seam, take-length}
use Rattle.std.specs.Io.KnownBytes.{Appends, Consumes, Keeps, IsAtEnd}
use Rattle.std.proofs.KnownBytes.{Appends-trans, Appends-kept, Consumes-trans, Consumes-whole}
use Rattle.locale_numbers_lines.specs.Lines.{lines_of, last_line, ended, AreLines, Splits, answers_to, output_of}
use Rattle.locale_numbers_lines.specs.Run.{most, WritesFront, WritesTold, WritesPart, WritesFirst, MayReadOnceAnswered}
use Rattle.locale_numbers_lines.specs.Progress.{Counts, Progress, Answered, AnsweredPart, Finishes, AnswersAll}
use Rattle.locale_numbers_lines.proofs.LinesLemmas.{lines_of-split, lines_are, whole_lines_are}
use Rattle.locale_numbers_lines.proofs.WriteLemmas.{front_written}

AreLines-append : (lines more : List (List ℕ)) → AreLines lines → AreLines more → AreLines (lines ++ more)
AreLines-append [] more are next = next
AreLines-append (line ∷ lines) more are next = (are.0, AreLines-append lines more are.1 next)

-- what is cut so far
came_splits : (answer : List ℕ → List ℕ) (told held : List ℕ) (before after : Option (List ℕ)) (old new : ℕ) (over next : List (List ℕ) → ℕ)
    → (came : Progress answer told held [] [] before after old new over next) → Splits told came.lines held
came_splits answer told held before after old new over next came = record {
  whole = came.whole ∙ ap (λ l. flat_map ended came.lines ++ l) (append-nil held);
  each = came.each;
  cut = came.cut;
}

-- all answers so far were written
came_wrote : (answer : List ℕ → List ℕ) (told held : List ℕ) (before after : Option (List ℕ)) (old new : ℕ) (over next : List (List ℕ) → ℕ)
    → (came : Progress answer told held [] [] before after old new over next) → Appends before after (answers_to answer came.lines)
came_wrote answer told held before after old new over next came = subst (Appends before after) (sym (append-nil came.sent) ∙ came.kept) came.wrote

-- the lines of one part of the bytes, and then those of the next
lines_fed : (told held piece rest : List ℕ) (lines more : List (List ℕ)) → told ≡ flat_map ended lines ++ held → held ++ piece ≡ flat_map ended more ++ rest
    → told ++ piece ≡ flat_map ended (lines ++ more) ++ rest
lines_fed told held piece rest lines more first second =
    ap (λ l. l ++ piece) first ∙ append_assoc (flat_map ended lines) held piece ∙ ap (λ l. flat_map ended lines ++ l) second
    ∙ sym (append_assoc (flat_map ended lines) (flat_map ended more) rest) ∙ ap (λ l. l ++ rest) (sym (flat_map-append ended lines more))

-- a front of the second answers after all of the first
answers_fed : (answer : List ℕ → List ℕ) (lines more : List (List ℕ)) (before between after : Option (List ℕ)) → Appends before between (answers_to answer lines)
    → Appends between after (answers_to answer more) → Appends before after (answers_to answer (lines ++ more))
answers_fed answer lines more before between after first second =
    subst (Appends before after) (sym (flat_map-append (λ l. ended (answer l)) lines more)) (Appends-trans before between after (answers_to answer lines) (answers_to answer more) first second)

counts_fed : (lines more : List (List ℕ)) (old new new' : ℕ) (over next next' : List (List ℕ) → ℕ) → Counts lines old new over next → Counts more new new' next next' → Counts (lines ++ more) old new' over next'
counts_fed lines more old new new' over next next' first second = record {
  counted = omega (arith, first.counted, second.counted, length-append lines more);
  made = λ after. ap over (append_assoc lines more after) ∙ first.made (more ++ after) ∙ second.made after;
}

-- a piece was fed
pub progress_fed : (answer answer' : List ℕ → List ℕ) (told held piece held' : List ℕ) (before between after : Option (List ℕ)) (old new new' : ℕ) (over next next' : List (List ℕ) → ℕ)
    → Progress answer told held [] [] before between old new over next → answer' ≡ answer → Progress answer' (held ++ piece) held' [] [] between after new new' next next'
    → Progress answer (told ++ piece) held' [] [] before after old new' over next'
progress_fed answer answer' told held piece held' before between after old new new' over next next' came same fed =
    let first = came_splits answer told held before between old new over next came in
    let second = came_splits answer' (held ++ piece) held' between after new new' next next' fed in
    let wrote = subst (λ (f : List ℕ → List ℕ). Appends between after (answers_to f fed.lines)) same (came_wrote answer' (held ++ piece) held' between after new new' next next' fed) in
    record {
      lines = came.lines ++ fed.lines;
      whole = lines_fed told held piece held' came.lines fed.lines first.whole second.whole ∙ ap (λ l. flat_map ended (came.lines ++ fed.lines) ++ l) (sym (append-nil held'));
      each = AreLines-append came.lines fed.lines came.each fed.each;
      cut = fed.cut;
      sent = answers_to answer (came.lines ++ fed.lines);
      wrote = answers_fed answer came.lines fed.lines before between after (came_wrote answer told held before between old new over next came) wrote;
      kept = append-nil (answers_to answer (came.lines ++ fed.lines));
      counts = counts_fed came.lines fed.lines old new new' over next next' came.counts fed.counts;
    }

-- the first lines of some bytes are first lines of any input that begins with them
first_lines : (input bytes more rest : List ℕ) (lines : List (List ℕ)) → input ≡ bytes ++ more → bytes ≡ flat_map ended lines ++ rest → AreLines lines → lines_of input ≡ lines ++ lines_of (rest ++ more)
first_lines input bytes more rest lines begins whole are =
    ap lines_of (begins ∙ ap (λ l. l ++ more) whole ∙ append_assoc (flat_map ended lines) rest more) ∙ lines_of-split lines (rest ++ more) are

-- so their answers are a front of the output
first_output : (answer : List ℕ → List ℕ) (input bytes more rest : List ℕ) (lines : List (List ℕ)) → input ≡ bytes ++ more → bytes ≡ flat_map ended lines ++ rest → AreLines lines
    → output_of answer input ≡ answers_to answer lines ++ output_of answer (rest ++ more)
first_output answer input bytes more rest lines begins whole are =
    ap (answers_to answer) (first_lines input bytes more rest lines begins whole are) ∙ flat_map-append (λ l. ended (answer l)) lines (lines_of (rest ++ more))

-- some first lines were answered, each whole
pub first_answered : (answer : List ℕ → List ℕ) (bytes rest : List ℕ) (lines : List (List ℕ)) (had has before after : Option (List ℕ)) → Consumes had has bytes → bytes ≡ flat_map ended lines ++ rest → AreLines lines
    → Appends before after (answers_to answer lines) → WritesFirst answer had before after
first_answered answer bytes rest lines None has before after gave whole are wrote = tt
first_answered answer bytes rest lines (Some input) None before after gave whole are wrote = absurd gave
first_answered answer bytes rest lines (Some input) (Some more) before after gave whole are wrote =
    let first : take (length lines) (lines_of input) ≡ lines = ap (take (length lines)) (first_lines input bytes more rest lines gave whole are) ∙ take-append_seam lines (lines_of (rest ++ more)) in
    record { count = length lines; wrote = subst (λ (l : List (List ℕ)). Appends before after (answers_to answer l)) (sym first) wrote }

-- a front of the first answers was written
pub front_answered : (answer : List ℕ → List ℕ) (bytes rest : List ℕ) (lines : List (List ℕ)) (count : ℕ) (had has before after : Option (List ℕ)) → Consumes had has bytes → bytes ≡ flat_map ended lines ++ rest → AreLines lines
    → Appends before after (take count (answers_to answer lines)) → WritesPart answer had before after
front_answered answer bytes rest lines count None has before after gave whole are wrote = tt
front_answered answer bytes rest lines count (Some input) None before after gave whole are wrote = absurd gave
front_answered answer bytes rest lines count (Some input) (Some more) before after gave whole are wrote =
    let all = answers_to answer lines in
    let later = output_of answer (rest ++ more) in
    front_written (output_of answer input) (take count all) (drop count all ++ later) before after
    (first_output answer input bytes more rest lines gave whole are ∙ ap (λ l. l ++ later) (sym (take-append-drop count all)) ∙ append_assoc (take count all) (drop count all) later) wrote

-- the lines told were answered when the reader failed
pub told_answered : (answer : List ℕ → List ℕ) (told held : List ℕ) (before between after : Option (List ℕ)) (old new : ℕ) (over next : List (List ℕ) → ℕ) (had has : Option (List ℕ))
    → Progress answer told held [] [] before between old new over next → Consumes had has told → Keeps between after → WritesTold answer had has before after
told_answered answer told held before between after old new over next had has came gave same = record {
  told = told;
  gave = gave;
  wrote = subst (λ (l : List (List ℕ)). Appends before after (answers_to answer l)) (sym (whole_lines_are told came.lines held (came_splits answer told held before between old new over next came)))
      (Appends-kept before between after (answers_to answer came.lines) (came_wrote answer told held before between old new over next came) same);
}

-- the lines told whole were answered, so the reader may be read
pub read_allowed : {R W : Type 0} (may_read : R → Type 0) (remaining : R → Option (List ℕ)) (contents : W → Option (List ℕ)) (answer : List ℕ → List ℕ) (first_reader reader : R) (first_writer writer : W)
    (told held : List ℕ) (old new : ℕ) (over next : List (List ℕ) → ℕ) → MayReadOnceAnswered may_read remaining contents answer first_reader first_writer
    → Consumes (remaining first_reader) (remaining reader) told → Progress answer told held [] [] (contents first_writer) (contents writer) old new over next → may_read reader
read_allowed may_read remaining contents answer first_reader reader first_writer writer told held old new over next may gave came =
    let before = contents first_writer in
    let after = contents writer in
    may reader writer told gave
    (subst (λ (l : List (List ℕ)). Appends before after (answers_to answer l)) (sym (whole_lines_are told came.lines held (came_splits answer told held before after old new over next came)))
    (came_wrote answer told held before after old new over next came))

-- they are a front of the output when the writer then failed
pub told_part : (answer : List ℕ → List ℕ) (told held : List ℕ) (before between after : Option (List ℕ)) (old new : ℕ) (over next : List (List ℕ) → ℕ) (had has : Option (List ℕ))
    → Progress answer told held [] [] before between old new over next → Consumes had has told → Keeps between after → WritesPart answer had before after
told_part answer told held before between after old new over next had has came gave same =
    let all = answers_to answer came.lines in
    let wrote = Appends-kept before between after all (came_wrote answer told held before between old new over next came) same in
    front_answered answer told held came.lines (length all) had has before after gave (came_splits answer told held before between old new over next came).whole came.each (subst (Appends before after) (sym (take-length all)) wrote)

-- the writer failed within a piece
pub part_fed : (answer answer' : List ℕ → List ℕ) (told held piece : List ℕ) (before between after : Option (List ℕ)) (old new : ℕ) (over next : List (List ℕ) → ℕ) (had has : Option (List ℕ))
    → Progress answer told held [] [] before between old new over next → answer' ≡ answer → AnsweredPart answer' (held ++ piece) between after → Consumes had has (told ++ piece) → WritesPart answer had before after
part_fed answer answer' told held piece before between after old new over next had has came same part gave =
    let first = came_splits answer told held before between old new over next came in
    let lines = came.lines ++ part.lines in
    let sent = answers_to answer part.lines in
    let wrote = subst (λ (f : List ℕ → List ℕ). Appends between after (take part.count (answers_to f part.lines))) same part.wrote in
    let begins : answers_to answer lines ≡ (answers_to answer came.lines ++ take part.count sent) ++ drop part.count sent =
    flat_map-append (λ l. ended (answer l)) came.lines part.lines ∙ ap (λ l. answers_to answer came.lines ++ l) (sym (take-append-drop part.count sent))
    ∙ sym (append_assoc (answers_to answer came.lines) (take part.count sent) (drop part.count sent)) in
    let front = front_written (answers_to answer lines) (answers_to answer came.lines ++ take part.count sent) (drop part.count sent) before after begins
    (Appends-trans before between after (answers_to answer came.lines) (take part.count sent) (came_wrote answer told held before between old new over next came) wrote) in
    front_answered answer (told ++ piece) part.rest lines front.count had has before after gave (lines_fed told held piece part.rest came.lines part.lines first.whole part.whole) (AreLines-append came.lines part.lines came.each part.each) front.wrote

-- memory ran out within a piece
pub first_fed : (answer answer' : List ℕ → List ℕ) (told held piece : List ℕ) (before between after : Option (List ℕ)) (old new : ℕ) (over next : List (List ℕ) → ℕ) (had has : Option (List ℕ))
    → Progress answer told held [] [] before between old new over next → answer' ≡ answer → Answered answer' (held ++ piece) [] between after → Consumes had has (told ++ piece) → WritesFirst answer had before after
first_fed answer answer' told held piece before between after old new over next had has came same more gave =
    let first = came_splits answer told held before between old new over next came in
    let kept = sym (append-nil more.sent) ∙ more.kept ∙ ap (λ (f : List ℕ → List ℕ). answers_to f more.lines) same in
    first_answered answer (told ++ piece) more.rest (came.lines ++ more.lines) had has before after gave (lines_fed told held piece more.rest came.lines more.lines first.whole more.whole)
    (AreLines-append came.lines more.lines came.each more.each)
    (answers_fed answer came.lines more.lines before between after (came_wrote answer told held before between old new over next came) (subst (Appends between after) kept more.wrote))

-- memory ran out for the last line
pub first_finished : (answer : List ℕ → List ℕ) (told held : List ℕ) (before between after : Option (List ℕ)) (old new : ℕ) (over next : List (List ℕ) → ℕ) (had has : Option (List ℕ))
    → Progress answer told held [] [] before between old new over next → Consumes had has told → Keeps between after → WritesFirst answer had before after
first_finished answer told held before between after old new over next had has came gave same =
    first_answered answer told held came.lines had has before after gave (came_splits answer told held before between old new over next came).whole came.each
    (Appends-kept before between after (answers_to answer came.lines) (came_wrote answer told held before between old new over next came) same)

-- the output to what was told is the answers so far and that to the last line
told_output : (answer : List ℕ → List ℕ) (told held : List ℕ) (lines : List (List ℕ)) → Splits told lines held → output_of answer told ≡ answers_to answer lines ++ answers_to answer (last_line held)
told_output answer told held lines splits = ap (answers_to answer) (lines_are told lines held splits) ∙ flat_map-append (λ l. ended (answer l)) lines (last_line held)

-- the writer failed at the last line
pub part_finished : (answer answer' : List ℕ → List ℕ) (told held : List ℕ) (before between after : Option (List ℕ)) (old new : ℕ) (over next : List (List ℕ) → ℕ) (had has : Option (List ℕ))
    → Progress answer told held [] [] before between old new over next → answer' ≡ answer → Consumes had has told → IsAtEnd has → WritesFront (answers_to answer' (last_line held)) between after → WritesPart answer had before after
part_finished answer answer' told held before between after old new over next had has came same gave end front =
    let last = answers_to answer (last_line held) in
    let sent = answers_to answer came.lines ++ take front.count last in
    let wrote = subst (λ (f : List ℕ → List ℕ). Appends between after (take front.count (answers_to f (last_line held)))) same front.wrote in
    let begins : output_of answer told ≡ sent ++ drop front.count last =
    told_output answer told held came.lines (came_splits answer told held before between old new over next came) ∙ ap (λ l. answers_to answer came.lines ++ l) (sym (take-append-drop front.count last))
    ∙ sym (append_assoc (answers_to answer came.lines) (take front.count last) (drop front.count last)) in
    Consumes-whole had has told (λ input. WritesFront (output_of answer input) before after) gave end
    (front_written (output_of answer told) sent (drop front.count last) before after begins (Appends-trans before between after (answers_to answer came.lines) (take front.count last) (came_wrote answer told held before between old new over next came) wrote))

-- all of the output to what was told
output_written : (answer answer' : List ℕ → List ℕ) (told held : List ℕ) (before between after : Option (List ℕ)) (old new new' : ℕ) (over next next' : List (List ℕ) → ℕ)
    → Progress answer told held [] [] before between old new over next → answer' ≡ answer → Finishes answer' held between after new new' next next' → Appends before after (output_of answer told)
output_written answer answer' told held before between after old new new' over next next' came same finishes =
    subst (Appends before after) (sym (told_output answer told held came.lines (came_splits answer told held before between old new over next came)))
    (Appends-trans before between after (answers_to answer came.lines) (answers_to answer (last_line held)) (came_wrote answer told held before between old new over next came)
    (subst (λ (f : List ℕ → List ℕ). Appends between after (answers_to f (last_line held))) same finishes.wrote))

-- the flush failed after all
pub all_part : (answer answer' : List ℕ → List ℕ) (told held : List ℕ) (before between written after : Option (List ℕ)) (old new new' : ℕ) (over next next' : List (List ℕ) → ℕ) (had has : Option (List ℕ))
    → Progress answer told held [] [] before between old new over next → answer' ≡ answer → Finishes answer' held between written new new' next next' → Consumes had has told → IsAtEnd has → Keeps written after
    → WritesPart answer had before after
all_part answer answer' told held before between written after old new new' over next next' had has came same finishes gave end kept =
    Consumes-whole had has told (λ input. WritesFront (output_of answer input) before after) gave end
    (front_written (output_of answer told) (output_of answer told) [] before after (sym (append-nil (output_of answer told)))
    (Appends-kept before written after (output_of answer told) (output_written answer answer' told held before between written old new new' over next next' came same finishes) kept))

-- all lines were answered
pub all_answered : (answer answer' : List ℕ → List ℕ) (told held : List ℕ) (before between written after : Option (List ℕ)) (new new' : ℕ) (over next next' : List (List ℕ) → ℕ) (had has : Option (List ℕ))
    → Progress answer told held [] [] before between 0 new over next → answer' ≡ answer → Finishes answer' held between written new new' next next' → Consumes had has told → IsAtEnd has → Keeps written after
    → AnswersAll answer had before after new' over next'
all_answered answer answer' told held before between written after new new' over next next' had has came same finishes gave end kept =
    let counts = counts_fed came.lines (last_line held) 0 new new' over next next' came.counts finishes.counts in
    let lines : lines_of told ≡ came.lines ++ last_line held = lines_are told came.lines held (came_splits answer told held before between 0 new over next came) in
    record {
      wrote = Consumes-whole had has told (λ input. Appends before after (output_of answer input)) gave end
          (Appends-kept before written after (output_of answer told) (output_written answer answer' told held before between written 0 new new' over next next' came same finishes) kept);
      counted = Consumes-whole had has told (λ input. new' ≡ min (length (lines_of input)) most) gave end (omega (arith, counts.counted, ap (length {A = List ℕ}) lines));
      made = Consumes-whole had has told (λ input. next' [] ≡ over (lines_of input)) gave end (sym (ap over (lines ∙ sym (append-nil (came.lines ++ last_line held))) ∙ counts.made []));
    }

-- a read at the end gives nothing
pub told_ended : (had between has : Option (List ℕ)) (told : List ℕ) → Consumes had between told → Consumes between has [] → Consumes had has told
told_ended had between has told gave none = subst (Consumes had has) (append-nil told) (Consumes-trans had between has told [] gave none)
