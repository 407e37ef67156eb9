-- How answers over buffers grow by a line, and what is left where they end.
use Rattle.std.proofs.Common.{◌≡◌, ℕ, ◌+◌, ◌-◌, ◌≤◌, List, [], ◌∷◌, ◌++◌, length, take, drop, Ok, Err, refl, sym, ◌∙◌, ap, subst, arith}
use Rattle.std.proofs.lemmas.List.{append-nil, append_assoc, drop-drop, drop_at, length-append, length-drop, take_at}
use Rattle.std.proofs.lemmas.List.Concat.{flat_map-append}
use Rattle.std.specs.List.{flat_map}
use Rattle.locale_numbers_lines.specs.Lines.{HasNoFeed, answers_to, ended}
use Rattle.locale_numbers_lines.specs.Progress.{FirstLine}
use Rattle.locale_numbers_lines.proofs.LinesLemmas.{AreLines-push}
use Rattle.legumeyet_c_values.specs.LineBuffers.{Answered, Buffers, IsAnswered, buffers}
use Rattle.legumeyet_c_values.specs.Putting.{IsCut, IsPut}
use Rattle.legumeyet_c_values.specs.declared.call_error.CallError.{CallError}
use Rattle.legumeyet_c_values.specs.declared.call_error.CallError.TheVariants.{Memory}

-- one more piece at the end
flat_push : (f : List ℕ → List ℕ) (lines : List (List ℕ)) (line : List ℕ) → flat_map f (lines ++ line ∷ []) ≡ flat_map f lines ++ f line
flat_push f lines line = flat_map-append f lines (line ∷ []) ∙ ap (λ (t : List ℕ). flat_map f lines ++ t) (append-nil (f line))

module _ (answer : List ℕ → List ℕ) (lines : List ℕ) (before : Buffers) where
  pub answered_none : (bytes : List ℕ) (read written needs : ℕ) → before.bytes ≡ bytes → read ≡ 0 → written ≡ 0 → needs ≡ 0
      → Answered answer lines lines before (buffers bytes read written needs)
  answered_none bytes read written needs same none_read none_written none = record {
    answered = [];
    all = refl;
    each = tt;
    read = none_read;
    written = none_written;
    bytes = sym same ∙ ap (λ (n : ℕ). drop n before.bytes) (sym none_written);
    none = none;
    fits = omega arith;
  }

  module _ (left : List ℕ) (after : Buffers) (r : Answered answer lines left before after) where
    front : take after.written after.bytes ≡ answers_to answer r.answered
    front = ap (λ (b : List ℕ). take after.written b) r.bytes ∙ take_at (answers_to answer r.answered) (drop after.written before.bytes) after.written (sym r.written)

    rest_is : drop after.written after.bytes ≡ drop after.written before.bytes
    rest_is = ap (λ (b : List ℕ). drop after.written b) r.bytes ∙ drop_at (answers_to answer r.answered) (drop after.written before.bytes) after.written (sym r.written)

    -- all whole lines are answered
    pub answered_all : HasNoFeed left → IsAnswered answer lines before after (Ok tt)
    answered_all none = record {
      answered = r.answered;
      left = left;
      all = r.all;
      each = r.each;
      read = r.read;
      written = r.written;
      bytes = front;
      done = λ is. (none, record { rest = rest_is; none = r.none });
      cut = λ is. absurd (cc is);
      refused = tt;
    }

  module _ (bytes : List ℕ) (read written needs : ℕ) (left line rest : List ℕ) (r : Answered answer lines left before (buffers bytes read written needs))
      (first : FirstLine left line rest) (part_was part : List ℕ) (told : ℕ) (was : part_was ≡ drop written bytes) where
    part_before : part_was ≡ drop written before.bytes
    part_before = was ∙ rest_is left (buffers bytes read written needs) r

    all_is : lines ≡ flat_map ended (r.answered ++ line ∷ []) ++ rest
    all_is =
        r.all
        ∙ ap (λ (l : List ℕ). flat_map ended r.answered ++ l) (first.whole ∙ sym (append_assoc line (10 ∷ []) rest))
        ∙ sym (append_assoc (flat_map ended r.answered) (ended line) rest)
        ∙ ap (λ (l : List ℕ). l ++ rest) (sym (flat_push ended r.answered line))

    -- the next line is answered
    pub answered_more : IsPut (λ text. text ≡ ended (answer line)) (λ error. error ≡ Memory) part_was part needs told (Ok tt) → length part ≡ length part_was
        → Answered answer lines rest before (buffers (take written bytes ++ part) (length lines - length rest) (written + told) 0)
    answered_more put kept =
        let whole = put.whole refl in
        let text = whole.text in
        let answers = answers_to answer r.answered in
        let more : answers_to answer (r.answered ++ line ∷ []) ≡ answers ++ text =
        flat_push (λ l. ended (answer l)) r.answered line ∙ ap (λ (t : List ℕ). answers ++ t) (sym whole.said) in
        let told_is : told ≡ length text = whole.length in
        let size : length part ≡ length text + length (drop (length text) part_was) =
        ap (λ (p : List ℕ). length p) whole.bytes ∙ length-append text (drop (length text) part_was) in
        let dropped : length (drop (length text) part_was) ≡ length part_was - length text = length-drop (length text) part_was in
        let part_size : length part_was ≡ length before.bytes - written = ap (λ (p : List ℕ). length p) part_before ∙ length-drop written before.bytes in
        let fits : written ≤ length before.bytes = r.fits in
        let read_size : length lines ≡ length (flat_map ended (r.answered ++ line ∷ [])) + length rest =
        ap (λ (l : List ℕ). length l) all_is ∙ length-append (flat_map ended (r.answered ++ line ∷ [])) rest in
        let is_read : length lines - length rest ≡ length (flat_map ended (r.answered ++ line ∷ [])) = omega arith in
        let is_fit : written + told ≤ length before.bytes = omega arith in
        record {
          answered = r.answered ++ line ∷ [];
          all = all_is;
          each = AreLines-push r.answered line r.each first.cut;
          read = is_read;
          written = ap (λ (n : ℕ). n + told) r.written ∙ ap (λ (n : ℕ). length answers + n) told_is ∙ sym (length-append answers text) ∙ ap (λ (t : List ℕ). length t) (sym more);
          bytes =
              ap (λ (f : List ℕ). f ++ part) (front left (buffers bytes read written needs) r)
              ∙ ap (λ (p : List ℕ). answers ++ p)
              (whole.bytes ∙ ap (λ (p : List ℕ). text ++ drop (length text) p) part_before
              ∙ ap (λ (p : List ℕ). text ++ p) (drop-drop (length text) written before.bytes ∙ ap (λ (n : ℕ). drop (written + n) before.bytes) (sym told_is)))
              ∙ sym (append_assoc answers text (drop (written + told) before.bytes))
              ∙ ap (λ (c : List ℕ). c ++ drop (written + told) before.bytes) (sym more);
          none = refl;
          fits = is_fit;
        }

    -- the next line is not
    pub answered_stops : (cause : CallError) → IsPut (λ text. text ≡ ended (answer line)) (λ error. error ≡ Memory) part_was part needs told (Err cause)
        → IsAnswered answer lines before (buffers (take written bytes ++ part) read written told) (Err cause)
    answered_stops cause put =
        let answers = answers_to answer r.answered in
        let now_front : take written bytes ++ part ≡ answers ++ part = ap (λ (f : List ℕ). f ++ part) (front left (buffers bytes read written needs) r) in
        let now : drop written (take written bytes ++ part) ≡ part = ap (λ (b : List ℕ). drop written b) now_front ∙ drop_at answers part written (sym r.written) in
        record {
          answered = r.answered;
          left = left;
          all = r.all;
          each = r.each;
          read = r.read;
          written = r.written;
          bytes = ap (λ (b : List ℕ). take written b) now_front ∙ take_at answers part written (sym r.written);
          done = λ is. absurd (cc is);
          cut = λ is. record {
            line = line;
            rest = rest;
            first = first;
            cut = subst (λ (p : List ℕ). IsCut (λ text. text ≡ ended (answer line)) p (drop written (take written bytes ++ part)) told) part_before
                (subst (λ (p : List ℕ). IsCut (λ text. text ≡ ended (answer line)) part_was p told) (sym now) (put.cut is));
          };
          refused = λ other. let untouched = put.refused other in
              (untouched.cause, record { line = line; rest = rest; first = first }, record { rest = now ∙ untouched.bytes ∙ part_before; none = untouched.length ∙ r.none });
        }
