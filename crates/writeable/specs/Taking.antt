-- What a refused write leaves: the sink has taken a beginning of the events, and had no room for the rest.
-- Defined in docs/annotated-text.md, "Refusals".
-- Cited by every call of `Sink` and by `Writeable::write_to`.
use Rattle.std.proofs.Common.{◌≡◌, List, ◌++◌, Bool, false, Result, Ok, Err, OnErr, sym, ap, ◌∙◌}
use Rattle.std.proofs.lemmas.List.{append_assoc}
use Rattle.writeable.specs.AnnotatedText.{Event}

-- the sink went from s to t by a beginning of these events, and t has no room for the rest
pub record HasBegun {S : Type 0} (takes : S → List Event → S → Type 0) (lacks_room : S → List Event → Type 0) (s : S) (es : List Event) (t : S) : Type 0 where
  pub front : List Event
  pub rest : List Event
  pub whole : es ≡ front ++ rest
  pub taken : takes s front t
  pub short : lacks_room t rest

-- amid the writing of these events: since s the sink took all but `rest`, and it still goes on
pub record IsWriting {S : Type 0} (takes : S → List Event → S → Type 0) (refused : S → Bool) (s : S) (es : List Event) (t : S) (rest : List Event) : Type 0 where
  pub front : List Event
  pub whole : es ≡ front ++ rest
  pub taken : takes s front t
  pub going : refused t ≡ false

-- a beginning of the first events is one of all
pub begun_first : {S : Type 0} (takes : S → List Event → S → Type 0) (lacks_room : S → List Event → Type 0)
    → ((s : S) (first second : List Event) → lacks_room s first → lacks_room s (first ++ second))
    → (s : S) (first second : List Event) (t : S)
    → HasBegun takes lacks_room s first t → HasBegun takes lacks_room s (first ++ second) t
begun_first takes lacks_room lacks_more s first second t begun = record {
  front = begun.front;
  rest = begun.rest ++ second;
  whole = ap (λ es. es ++ second) begun.whole ∙ append_assoc begun.front begun.rest second;
  taken = begun.taken;
  short = lacks_more t begun.rest second begun.short;
}

-- the first events, and a beginning of the second
pub begun_then : {S : Type 0} (takes : S → List Event → S → Type 0) (lacks_room : S → List Event → Type 0) (refused : S → Bool)
    → ((s t u : S) (first second : List Event) → takes s first t → refused t ≡ false → takes t second u → takes s (first ++ second) u)
    → (s t u : S) (first second : List Event) → takes s first t → refused t ≡ false
    → HasBegun takes lacks_room t second u → HasBegun takes lacks_room s (first ++ second) u
begun_then takes lacks_room refused joins s t u first second taken going begun = record {
  front = first ++ begun.front;
  rest = begun.rest;
  whole = ap (λ es. first ++ es) begun.whole ∙ sym (append_assoc first begun.front begun.rest);
  taken = joins s t u first begun.front taken going begun.taken;
  short = begun.short;
}

-- what holds anyway holds on a refusal
pub on_err : {T E P : Type 0} (r : Result T E) → P → OnErr r P
on_err (Ok x) holds = tt
on_err (Err e) holds = holds

-- what follows on a refusal
pub on_err_by : {T E P Q : Type 0} (r : Result T E) → (P → Q) → OnErr r P → OnErr r Q
on_err_by (Ok x) follows holds = tt
on_err_by (Err e) follows holds = follows holds
