-- Writing in a loop, and what a call that was not refused answered.
use Rattle.std.proofs.Common.{◌≡◌, ℕ, ◌+◌, ◌<◌, ◌≤◌, List, [], ◌++◌, length, drop, get_or, Bool, false, Result, Ok, Err, is_err, OnOk, refl, sym, ◌∙◌, ap, subst, arith}
use Rattle.std.specs.List.{flat_map}
use Rattle.std.proofs.lemmas.Bool.{false≢true}
use Rattle.std.proofs.lemmas.List.{append_assoc, append-nil, length-append, drop_more, drop_all}
use Rattle.writeable.specs.AnnotatedText.{Event, text_of, without_parts, HasText}
use Rattle.writeable.specs.SinkLaws.{text_of_joined}
use Rattle.writeable.specs.Taking.{HasBegun, IsWriting, begun_first, begun_then}
use Rattle.writeable.proofs.AnnotatedTextLemmas.{text_of_bytes}

-- a call that was not refused answered Ok
pub on_ok_where_fine : {T E P : Type 0} (r : Result T E) → false ≡ is_err r → OnOk r P → P
on_ok_where_fine (Ok x) fine holds = holds
on_ok_where_fine (Err e) fine holds = absurd (false≢true fine)

-- an empty text has no byte that could be left
pub no_text_is_left : (es front rest : List Event) → text_of es ≡ [] → without_parts es ≡ front ++ rest → HasText rest → ⊥
no_text_is_left es front rest none whole left =
    let texts : [] ≡ text_of front ++ text_of rest =
    sym none ∙ sym (text_of_bytes (text_of es)) ∙ ap text_of whole ∙ text_of_joined front rest in
    let lengths = ap length texts ∙ length-append (text_of front) (text_of rest) in
    omega (arith, lengths, left)

-- what the items from the i-th on write: the item, then those after it
pub flat_map_next : {X : Type 0} (f : X → List Event) (xs : List X) (i : ℕ) (x : X) → i < length xs → x ≡ get_or xs i x
    → flat_map f (drop i xs) ≡ f x ++ flat_map f (drop (i + 1) xs)
flat_map_next f xs i x within is = ap (flat_map f) (drop_more xs i x within)
    ∙ ap (λ item. f item ++ flat_map f (drop (i + 1) xs)) (sym is)

-- past the end there is nothing to write
pub flat_map_past : {X : Type 0} (f : X → List Event) (xs : List X) (i : ℕ) → length xs ≤ i → flat_map f (drop i xs) ≡ []
flat_map_past f xs i past = ap (flat_map f) (drop_all i xs past)

module _ {S : Type 0} (takes : S → List Event → S → Type 0) (refused : S → Bool) where
  -- before the first write
  pub writing_begins : ((s : S) → takes s [] s) → (s : S) (es : List Event) → refused s ≡ false → IsWriting takes refused s es s es
  writing_begins nothing s es going = record { front = []; whole = refl; taken = nothing s; going = going }

  -- after the last
  pub writing_ends : (s : S) (es : List Event) (t : S) → IsWriting takes refused s es t [] → takes s es t
  writing_ends s es t writing = subst (λ all. takes s all t) (sym (writing.whole ∙ append-nil writing.front)) writing.taken

  module _ (joins : (s t u : S) (first second : List Event) → takes s first t → refused t ≡ false → takes t second u → takes s (first ++ second) u) where
    -- one more write
    pub writing_goes_on : (s : S) (es : List Event) (t u : S) (now rest : List Event) → IsWriting takes refused s es t (now ++ rest)
        → takes t now u → refused u ≡ false → IsWriting takes refused s es u rest
    writing_goes_on s es t u now rest writing taken going = record {
      front = writing.front ++ now;
      whole = writing.whole ∙ sym (append_assoc writing.front now rest);
      taken = joins s t u writing.front now writing.taken writing.going taken;
      going = going;
    }

    -- a write that was refused
    pub writing_stops : (lacks_room : S → List Event → Type 0)
        → ((s : S) (first second : List Event) → lacks_room s first → lacks_room s (first ++ second))
        → (s : S) (es : List Event) (t u : S) (now rest : List Event) → IsWriting takes refused s es t (now ++ rest)
        → HasBegun takes lacks_room t now u → HasBegun takes lacks_room s es u
    writing_stops lacks_room lacks_more s es t u now rest writing begun =
        subst (λ all. HasBegun takes lacks_room s all u) (sym writing.whole)
        (begun_then takes lacks_room refused joins s t u writing.front (now ++ rest) writing.taken writing.going
        (begun_first takes lacks_room lacks_more t now rest u begun))
