-- The first number of a column, how what is written of it grows by a number, and what is left where it ends.
use Rattle.std.proofs.Common.{◌≡◌, ◌≢◌, ℕ, suc, ◌+◌, ◌-◌, ◌≤◌, ◌<◌, ◌==◌, Bool, true, false, if◌then◌else◌, List, [], ◌∷◌, ◌++◌, length, map, take, drop, set, get_or, Result, Ok, Err, refl, sym, ◌∙◌, ap, subst, inl, inr, arith}
use Rattle.std.proofs.lemmas.List.{append-nil, append_assoc, drop-drop, drop_all, drop_at, drop_more, length-append, length-drop, length_push, set_at, take_at, take_rest}
use Rattle.std.specs.List.{concat, onto_first}
use borrow.Rule.Slice.PartMut.{put_mid}
use Rattle.fixed_decimal.specs.Number.{Number}
use Rattle.fixed_decimal.specs.SignedValue.{SignedValue}
use Rattle.locale_numbers_lines.specs.Lines.{HasNoFeed, lines_of}
use Rattle.locale_numbers_lines.specs.Progress.{FirstLine}
use Rattle.locale_numbers_lines.proofs.LinesLemmas.{lines_of-ended, lines_of-none}
use Rattle.legumeyet_c_values.specs.Columns.{EachSays, IsWrittenColumn, OfFirst, Reaches, Room, ends_from, room, spelled_lines}
use Rattle.legumeyet_c_values.specs.Numbers.{Given, IsGiven, IsGivenFault, spelled}
use Rattle.legumeyet_c_values.specs.Putting.{IsCut, IsPut, IsWhole}
use Rattle.legumeyet_c_values.specs.declared.call_error.CallError.{CallError}
use Rattle.legumeyet_c_values.specs.declared.call_error.CallError.TheVariants.{TooSmall}
use Rattle.legumeyet_c_values.proofs.NumbersLemmas.{given_other}
use Rattle.legumeyet_c_values.proofs.PuttingLemmas.{put_refused}

-- ---- the first number

-- what holds of the first element holds of what is first given
pub of_first : {X : Type 0} (give : X → Given) (holds : Given → Type 0) (xs : List X) (x : X) → map give xs ≢ [] → holds (give (get_or xs 0 x)) → OfFirst holds (map give xs)
of_first give holds [] x some first = absurd (some refl)
of_first give holds (y ∷ xs) x some first = first

-- the others
pub map_rest : {X : Type 0} (give : X → Given) (xs : List X) → map give (take (length xs - 1) (drop 1 xs)) ≡ drop 1 (map give xs)
map_rest give [] = refl
map_rest give (x ∷ xs) = ap (λ (l : _). map give l) (take_rest (x ∷ xs) 1)

-- what is given first gives no number
pub first_refused : (says : Given → List ℕ → Type 0) (fails : Given → CallError → Type 0) (numbers : List Given) (out : List ℕ) (told : ℕ) (error : CallError)
    → ((given : Given) → IsGivenFault given error → fails given error) → OfFirst (λ given. IsGivenFault given error) numbers
    → OfFirst (λ given. IsPut (says given) (fails given) out out told told (Err error)) numbers
first_refused says fails [] out told error faults caused = absurd caused
first_refused says fails (given ∷ numbers) out told error faults caused =
    put_refused (says given) (fails given) out told error (given_other given error caused) (faults given caused)

-- what is given first is written
pub first_put : (says : Given → List ℕ → Type 0) (fails : Given → CallError → Type 0) (numbers : List Given) (value : SignedValue Number) (before after : List ℕ) (was told : ℕ)
    (outcome : Result (Unit {0}) CallError)
    → ((given : Given) → IsGiven given value → IsPut (says given) (fails given) before after was told outcome) → OfFirst (λ given. IsGiven given value) numbers
    → OfFirst (λ given. IsPut (says given) (fails given) before after was told outcome) numbers
first_put says fails [] value before after was told outcome writes first = absurd first
first_put says fails (given ∷ numbers) value before after was told outcome writes first = writes given first

onto_some : (byte : ℕ) (lines : List (List ℕ)) → onto_first byte lines ≢ []
onto_some byte [] = λ is. absurd (cc is)
onto_some byte (line ∷ lines) = λ is. absurd (cc is)

-- bytes have a line
pub lines_some : (bytes : List ℕ) → bytes ≢ [] → lines_of bytes ≢ []
lines_some [] some = absurd (some refl)
lines_some (byte ∷ bytes) some = at (byte == 10)
  where
    at : (b : Bool) → (if b then [] ∷ lines_of bytes else onto_first byte (lines_of bytes)) ≢ []
    at true = λ is. absurd (cc is)
    at false = onto_some byte (lines_of bytes)

pub texts_some : (bytes : List ℕ) → bytes ≢ [] → spelled_lines bytes ≢ []
texts_some bytes some = go (lines_of bytes) (lines_some bytes some)
  where
    go : (lines : List (List ℕ)) → lines ≢ [] → map (λ line. spelled line) lines ≢ []
    go [] none = absurd (none refl)
    go (line ∷ lines) none = λ is. absurd (cc is)

-- the first line that a line feed ends, and one that none ends
pub texts_first : (bytes line rest : List ℕ) → FirstLine bytes line rest → spelled_lines bytes ≡ spelled line ∷ spelled_lines rest
texts_first bytes line rest first =
    ap spelled_lines first.whole ∙ ap (λ (lines : List (List ℕ)). map (λ line. spelled line) lines) (lines_of-ended line rest first.cut)

pub texts_alone : (bytes : List ℕ) → bytes ≢ [] → HasNoFeed bytes → spelled_lines bytes ≡ spelled bytes ∷ spelled_lines []
texts_alone [] some none = absurd (some refl)
texts_alone (byte ∷ bytes) some none = ap (λ (lines : List (List ℕ)). map (λ line. spelled line) lines) (lines_of-none (byte ∷ bytes) none)

-- ---- texts

concat_push : (texts : List (List ℕ)) (text : List ℕ) → concat (texts ++ text ∷ []) ≡ concat texts ++ text
concat_push [] text = append-nil text
concat_push (first ∷ texts) text = ap (λ (t : List ℕ). first ++ t) (concat_push texts text) ∙ sym (append_assoc first (concat texts) text)

length_concat_push : (texts : List (List ℕ)) (text : List ℕ) → length (concat (texts ++ text ∷ [])) ≡ length (concat texts) + length text
length_concat_push texts text = ap (λ (t : List ℕ). length t) (concat_push texts text) ∙ length-append (concat texts) text

ends_push : (start : ℕ) (texts : List (List ℕ)) (text : List ℕ) → ends_from start (texts ++ text ∷ []) ≡ ends_from start texts ++ (start + length (concat texts) + length text) ∷ []
ends_push start [] text =
    let same : start + length text ≡ start + 0 + length text = omega arith in
    ap (λ (n : ℕ). n ∷ []) same
ends_push start (first ∷ texts) text =
    let joined : length (first ++ concat texts) ≡ length first + length (concat texts) = length-append first (concat texts) in
    let same : start + length first + length (concat texts) + length text ≡ start + length (first ++ concat texts) + length text = omega arith in
    ap (λ (t : List ℕ). (start + length first) ∷ t)
    (ends_push (start + length first) texts text ∙ ap (λ (n : ℕ). ends_from (start + length first) texts ++ n ∷ []) same)

length_ends : (start : ℕ) (texts : List (List ℕ)) → length (ends_from start texts) ≡ length texts
length_ends start [] = refl
length_ends start (first ∷ texts) = ap (λ (n : ℕ). suc n) (length_ends (start + length first) texts)

each_push : (says : Given → List ℕ → Type 0) (numbers : List Given) (texts : List (List ℕ)) (number : Given) (text : List ℕ)
    → EachSays says numbers texts → says number text → EachSays says (numbers ++ number ∷ []) (texts ++ text ∷ [])
each_push says [] [] number text each said = (said, tt)
each_push says [] (first ∷ texts) number text each said = absurd each
each_push says (other ∷ numbers) [] number text each said = absurd each
each_push says (other ∷ numbers) (first ∷ texts) number text each said = (each.0, each_push says numbers texts number text each.1 said)

-- ---- lists

-- a part that goes to the end was written
pub put_to_end : (bytes part : List ℕ) (end : ℕ) → put_mid end (length bytes - end) bytes part ≡ take end bytes ++ part
put_to_end bytes part end =
    let size : length (drop end bytes) ≡ length bytes - end = length-drop end bytes in
    let short : length (drop end bytes) ≤ length bytes - end = omega arith in
    ap (λ (p : List ℕ). take end bytes ++ p) (ap (λ (p : List ℕ). part ++ p) (drop_all (length bytes - end) (drop end bytes) short) ∙ append-nil part)

-- an end at the first free place
set_end : (ends were : List ℕ) (count end : ℕ) → length ends ≡ count → count < length were → set (ends ++ drop count were) count end ≡ (ends ++ end ∷ []) ++ drop (count + 1) were
set_end ends were count end is free =
    ap (λ (d : List ℕ). set (ends ++ d) count end) (drop_more were count 0 free)
    ∙ set_at ends _ (drop (count + 1) were) end count is
    ∙ sym (append_assoc ends (end ∷ []) (drop (count + 1) were))

-- ---- how far a column is written

pub reaches_none : (says : Given → List ℕ → Type 0) (numbers : List Given) (bytes ends : List ℕ) (was count : ℕ)
    → count ≡ 0 → Reaches says numbers numbers (room bytes ends was) (room bytes ends count) 0
reaches_none says numbers bytes ends was count none = record {
  written = [];
  all = refl;
  texts = [];
  said = tt;
  end_is = refl;
  bytes = refl;
  ends = refl;
  count = none;
  fits = omega arith;
  placed = omega arith;
}

module _ (says : Given → List ℕ → Type 0) (fails : Given → CallError → Type 0) (numbers : List Given) (before : Room) where
  -- the rest of the bytes is as it was
  same_rest : (left : List Given) (after : Room) (end : ℕ) → (r : Reaches says numbers left before after end) → drop (length (concat r.texts)) after.bytes ≡ drop (length (concat r.texts)) before.bytes
  same_rest left after end r =
      ap (λ (b : List ℕ). drop (length (concat r.texts)) b) r.bytes
      ∙ drop_at (concat r.texts) (drop end before.bytes) (length (concat r.texts)) refl
      ∙ ap (λ (n : ℕ). drop n before.bytes) r.end_is

  front : (left : List Given) (after : Room) (end : ℕ) → (r : Reaches says numbers left before after end) → take (length (concat r.texts)) after.bytes ≡ concat r.texts
  front left after end r =
      ap (λ (b : List ℕ). take (length (concat r.texts)) b) r.bytes ∙ take_at (concat r.texts) (drop end before.bytes) (length (concat r.texts)) refl

  -- all are written
  pub column_done : (left : List Given) (after : Room) (end : ℕ) → Reaches says numbers left before after end → left ≡ [] → IsWrittenColumn says fails numbers before after (Ok tt)
  column_done left after end r none = record {
    written = r.written;
    left = left;
    all = r.all;
    texts = r.texts;
    said = r.said;
    bytes = front left after end r;
    ends = r.ends;
    count = r.count;
    done = λ is. (none, same_rest left after end r);
    cut = λ is. absurd (cc is);
    refused = tt;
  }

  -- there is no place for one more end
  pub column_unplaced : (left : List Given) (after : Room) (end : ℕ) → Reaches says numbers left before after end → left ≢ [] → length after.ends ≤ after.count
      → length after.ends ≡ length before.ends → IsWrittenColumn says fails numbers before after (Err TooSmall)
  column_unplaced left after end r some full kept =
      let placed : length r.texts ≤ length before.ends = r.placed in
      let counted : after.count ≡ length r.texts = r.count in
      let is_full : length before.ends ≡ length r.texts = omega arith in
      record {
        written = r.written;
        left = left;
        all = r.all;
        texts = r.texts;
        said = r.said;
        bytes = front left after end r;
        ends = r.ends;
        count = r.count;
        done = λ is. absurd (cc is);
        cut = λ is. inl (is_full, some, same_rest left after end r);
        refused = λ other. absurd (other refl);
      }

  module _ (bytes ends : List ℕ) (count end : ℕ) (part_was part : List ℕ) (told : ℕ) (rest : part_was ≡ drop end bytes) where
    -- the bytes that are written so far, where the part after them holds this now
    front_is : (left : List Given) → (r : Reaches says numbers left before (room bytes ends count) end) → take end bytes ≡ concat r.texts
    front_is left r =
        ap (λ (b : List ℕ). take end b) r.bytes ∙ take_at (concat r.texts) (drop end before.bytes) end (sym r.end_is)

    rest_was : (left : List Given) → Reaches says numbers left before (room bytes ends count) end → drop end bytes ≡ drop end before.bytes
    rest_was left r =
        ap (λ (b : List ℕ). drop end b) r.bytes ∙ drop_at (concat r.texts) (drop end before.bytes) end (sym r.end_is)

    -- the text of the next number
    module _ (number : Given) (next : List Given) (r : Reaches says numbers (number ∷ next) before (room bytes ends count) end)
        (whole : IsWhole (says number) part_was part told) (kept : length part ≡ length part_was)
        (free : count < length ends) (same : length ends ≡ length before.ends) where
      new_bytes : take end bytes ++ part ≡ concat (r.texts ++ whole.text ∷ []) ++ drop (end + told) before.bytes
      new_bytes =
          ap (λ (f : List ℕ). f ++ part) (front_is (number ∷ next) r)
          ∙ ap (λ (p : List ℕ). concat r.texts ++ p)
          (whole.bytes
          ∙ ap (λ (p : List ℕ). whole.text ++ drop (length whole.text) p) (rest ∙ rest_was (number ∷ next) r)
          ∙ ap (λ (p : List ℕ). whole.text ++ p)
          (drop-drop (length whole.text) end before.bytes ∙ ap (λ (n : ℕ). drop (end + n) before.bytes) (sym whole.length)))
          ∙ sym (append_assoc (concat r.texts) whole.text (drop (end + told) before.bytes))
          ∙ ap (λ (c : List ℕ). c ++ drop (end + told) before.bytes) (sym (concat_push r.texts whole.text))

      new_end : end + told ≡ length (concat (r.texts ++ whole.text ∷ []))
      new_end =
          ap (λ (n : ℕ). n + told) r.end_is ∙ ap (λ (n : ℕ). length (concat r.texts) + n) whole.length ∙ sym (length_concat_push r.texts whole.text)

      is_free : length r.texts < length before.ends
      is_free = let counted : count ≡ length r.texts = r.count in omega arith

      end_is : end + told ≡ 0 + length (concat r.texts) + length whole.text
      end_is = let from : end ≡ length (concat r.texts) = r.end_is in let size : told ≡ length whole.text = whole.length in omega arith

      new_ends : set ends count (end + told) ≡ ends_from 0 (r.texts ++ whole.text ∷ []) ++ drop (length (r.texts ++ whole.text ∷ [])) before.ends
      new_ends =
          ap (λ (e : List ℕ). set e count (end + told)) r.ends
          ∙ ap (λ (n : ℕ). set (ends_from 0 r.texts ++ drop (length r.texts) before.ends) n (end + told)) r.count
          ∙ set_end (ends_from 0 r.texts) before.ends (length r.texts) (end + told) (length_ends 0 r.texts) is_free
          ∙ ap (λ (n : ℕ). (ends_from 0 r.texts ++ n ∷ []) ++ drop (length r.texts + 1) before.ends) end_is
          ∙ ap (λ (e : List ℕ). e ++ drop (length r.texts + 1) before.ends) (sym (ends_push 0 r.texts whole.text))
          ∙ ap (λ (n : ℕ). ends_from 0 (r.texts ++ whole.text ∷ []) ++ drop n before.ends) (sym (length_push r.texts whole.text))

      text_fits : end + told ≤ length before.bytes
      text_fits =
          let a : length part ≡ length (whole.text ++ drop (length whole.text) part_was) = ap (λ (p : List ℕ). length p) whole.bytes in
          let b : length (whole.text ++ drop (length whole.text) part_was) ≡ length whole.text + length (drop (length whole.text) part_was) =
          length-append whole.text (drop (length whole.text) part_was) in
          let c : length (drop (length whole.text) part_was) ≡ length part_was - length whole.text = length-drop (length whole.text) part_was in
          let d : length part_was ≡ length (drop end before.bytes) = ap (λ (p : List ℕ). length p) (rest ∙ rest_was (number ∷ next) r) in
          let e : length (drop end before.bytes) ≡ length before.bytes - end = length-drop end before.bytes in
          let f : end ≤ length before.bytes = r.fits in
          let t : told ≡ length whole.text = whole.length in
          omega arith

      placed_is : length (r.texts ++ whole.text ∷ []) ≤ length before.ends
      placed_is =
          let size : length (r.texts ++ whole.text ∷ []) ≡ length r.texts + 1 = length_push r.texts whole.text in
          let free_is : length r.texts < length before.ends = is_free in
          omega arith

      more : Reaches says numbers next before (room (take end bytes ++ part) (set ends count (end + told)) (count + 1)) (end + told)
      more = record {
        written = r.written ++ number ∷ [];
        all = r.all ∙ sym (append_assoc r.written (number ∷ []) next);
        texts = r.texts ++ whole.text ∷ [];
        said = each_push says r.written r.texts number whole.text r.said whole.said;
        end_is = new_end;
        bytes = new_bytes;
        ends = new_ends;
        count = ap (λ (n : ℕ). n + 1) r.count ∙ sym (length_push r.texts whole.text);
        fits = text_fits;
        placed = placed_is;
      }

    -- the next number is written
    pub reaches_more : (left : List Given) → Reaches says numbers left before (room bytes ends count) end
        → OfFirst (λ number. IsPut (says number) (fails number) part_was part 0 told (Ok tt)) left → length part ≡ length part_was → count < length ends → length ends ≡ length before.ends
        → Reaches says numbers (drop 1 left) before (room (take end bytes ++ part) (set ends count (end + told)) (count + 1)) (end + told)
    reaches_more [] r put kept free same = absurd put
    reaches_more (number ∷ next) r put kept free same = more number next r (put.whole refl) kept free same

    -- the next number is not
    pub column_stops : (left : List Given) (cause : CallError) → Reaches says numbers left before (room bytes ends count) end
        → OfFirst (λ number. IsPut (says number) (fails number) part_was part 0 told (Err cause)) left
        → IsWrittenColumn says fails numbers before (room (take end bytes ++ part) ends count) (Err cause)
    column_stops [] cause r put = absurd put
    column_stops (number ∷ next) cause r put =
        let size = length (concat r.texts) in
        let front : take end bytes ++ part ≡ concat r.texts ++ part = ap (λ (f : List ℕ). f ++ part) (front_is (number ∷ next) r) in
        let now : drop size (take end bytes ++ part) ≡ part = ap (λ (b : List ℕ). drop size b) front ∙ drop_at (concat r.texts) part size refl in
        let was_part : part_was ≡ drop size before.bytes = rest ∙ rest_was (number ∷ next) r ∙ ap (λ (n : ℕ). drop n before.bytes) r.end_is in
        record {
          written = r.written;
          left = number ∷ next;
          all = r.all;
          texts = r.texts;
          said = r.said;
          bytes = ap (λ (b : List ℕ). take size b) front ∙ take_at (concat r.texts) part size refl;
          ends = r.ends;
          count = r.count;
          done = λ is. absurd (cc is);
          cut = λ is. inr (
            told,
            subst (λ (p : List ℕ). IsCut (says number) p (drop size (take end bytes ++ part)) told) was_part
                (subst (λ (p : List ℕ). IsCut (says number) part_was p told) (sym now) (put.cut is)),
          );
          refused = λ other. let untouched = put.refused other in (untouched.cause, now ∙ untouched.bytes ∙ was_part);
        }
