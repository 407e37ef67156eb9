-- No events change nothing, and events one after another are taken as one list.
-- Defined in docs/annotated-text.md, "Sinks".
-- Cited by the laws of the sinks.
use Rattle.std.proofs.Common.{◌≡◌, ℕ, List, [], ◌∷◌, ◌++◌, Bool, false, arith, refl, sym, ap, ◌∙◌, subst}
use Rattle.std.proofs.lemmas.List.{append_assoc, append-nil, length-append}
use Rattle.std.specs.Borrow.{MutBor}
use Rattle.std.specs.Fmt.{WritesInCalls}
use Rattle.std.specs.List.{FoldsTo, concat}
use Rattle.std.specs.declared.fmt.Formatter.{Formatter}
use Rattle.writeable.specs.AnnotatedText.{Event, byte, opened, closed, text_of, HasText}
use Rattle.writeable.specs.HeldCount.{HeldCount, Counts, PassesLimit}
use Rattle.writeable.specs.HeldParts.{HeldParts, held_after, HoldsThen, NeedsRoom}
use Rattle.writeable.specs.HeldText.{HeldText}
use Rattle.writeable.specs.Order.{order_given, Comparison, Compares}
use Rattle.writeable.specs.Shown.{ShowsText}

-- the text of events one after another
pub text_of_joined : (first second : List Event) → text_of (first ++ second) ≡ text_of first ++ text_of second
text_of_joined [] second = refl
text_of_joined (byte b ∷ es) second = ap (λ rest. b ∷ rest) (text_of_joined es second)
text_of_joined (opened p ∷ es) second = text_of_joined es second
text_of_joined (closed ∷ es) second = text_of_joined es second

-- some byte is written, and more after it
pub has_text_joined : (first second : List Event) → HasText first → HasText (first ++ second)
has_text_joined first second written =
    rw (text_of_joined first second, length-append (text_of first) (text_of second)) (omega arith)

-- a text to which nothing was added
pub text_nothing : (s : HeldText) → s.text ≡ s.text ++ text_of []
text_nothing s = sym (append-nil s.text)

-- a text to which two texts were added
pub text_joins : (s t u : HeldText) (first second : List Event) → t.text ≡ s.text ++ text_of first
    → t.refused ≡ false → u.text ≡ t.text ++ text_of second → u.text ≡ s.text ++ text_of (first ++ second)
text_joins s t u first second begun going ended =
    ended ∙ ap (λ text. text ++ text_of second) begun ∙ append_assoc s.text (text_of first) (text_of second)
    ∙ ap (λ text. s.text ++ text) (sym (text_of_joined first second))

module _ {W : Type 0} (took : W → List ℕ → W → Type 0) where
  -- calls one after another
  calls_joined : (w : W) (pieces : List (List ℕ)) (v : W) (more : List (List ℕ)) (u : W)
      → FoldsTo took w pieces v → FoldsTo took v more u → FoldsTo took w (pieces ++ more) u
  calls_joined w [] v more u first second = subst (λ (x : W). FoldsTo took x more u) (sym first) second
  calls_joined w (piece ∷ pieces) v more u first second =
      (first.0, first.1, calls_joined first.0 pieces v more u first.2 second)

  concat_joined : (pieces more : List (List ℕ)) → concat (pieces ++ more) ≡ concat pieces ++ concat more
  concat_joined [] more = refl
  concat_joined (piece ∷ pieces) more =
      ap (λ text. piece ++ text) (concat_joined pieces more) ∙ sym (append_assoc piece (concat pieces) (concat more))

  -- a writer that took two texts
  written_joined : (w v u : W) (first second : List ℕ)
      → WritesInCalls took w first v → WritesInCalls took v second u → WritesInCalls took w (first ++ second) u
  written_joined w v u first second before after = record {
    parts = before.parts ++ after.parts;
    calls = calls_joined w before.parts v after.parts u before.calls after.calls;
    whole = concat_joined before.parts after.parts ∙ ap (λ text. text ++ concat after.parts) before.whole
        ∙ ap (λ text. first ++ text) after.whole;
  }

  -- a formatter that showed nothing
  pub shown_nothing : (s : MutBor (Formatter W)) (failed : Bool) → ShowsText took s [] s failed
  shown_nothing s failed = record {
    same = refl;
    wrote = λ _ plain. record { wrote = record { parts = []; calls = refl; whole = refl }; plain = plain };
  }

  -- a formatter that showed two texts
  pub shown_joins : (s t u : MutBor (Formatter W)) (before after : Bool) (first second : List Event)
      → ShowsText took s first t before → before ≡ false → ShowsText took t second u after
      → ShowsText took s (first ++ second) u after
  shown_joins s t u before after first second begun going ended = record {
    same = ended.same ∙ begun.same;
    wrote = λ fine plain.
        let one = begun.wrote going plain in
        let two = ended.wrote fine one.plain in
        record {
          wrote = subst (λ text. WritesInCalls took s.now.writer text u.now.writer) (sym (text_of_joined first second))
              (written_joined s.now.writer t.now.writer u.now.writer (text_of first) (text_of second) one.wrote two.wrote);
          plain = two.plain;
        };
  }

-- nothing was compared
pub compared_nothing : (s : Comparison) → Compares s (text_of []) s
compared_nothing s more = refl

-- two texts were compared, one after the other
pub compared_joins : (s t u : Comparison) (first second : List Event) → Compares s (text_of first) t
    → Compares t (text_of second) u → Compares s (text_of (first ++ second)) u
compared_joins s t u first second begun ended more =
    ended more ∙ begun (text_of second ++ more)
    ∙ ap (λ text. order_given s.so_far s.rest text)
    (sym (append_assoc (text_of first) (text_of second) more) ∙ ap (λ text. text ++ more) (sym (text_of_joined first second)))

-- a count that would pass the limit, and more after it
pub passes_more : (s : HeldCount) (first second : List Event) → PassesLimit s first → PassesLimit s (first ++ second)
passes_more s first second passes =
    rw (text_of_joined first second, length-append (text_of first) (text_of second)) (omega arith)

-- nothing was counted
pub counts_nothing : (s : HeldCount) → Counts s [] s
counts_nothing s = record { count = omega arith; fits = λ fitting. fitting }

-- two texts were counted
pub counts_joined : (s t u : HeldCount) (first second : List Event) → Counts s first t → Counts t second u
    → Counts s (first ++ second) u
counts_joined s t u first second begun ended = record {
  count = rw (text_of_joined first second, length-append (text_of first) (text_of second)) (omega (arith, begun.count, ended.count));
  fits = λ fitting. ended.fits (begun.fits fitting);
}

-- events that need room, and more after them
pub needs_more_room : (s : HeldParts) (first second : List Event) → NeedsRoom s first → NeedsRoom s (first ++ second)
needs_more_room s [] second needs = absurd needs
needs_more_room s (byte b ∷ es) second needs = needs
needs_more_room s (opened p ∷ es) second needs = needs
needs_more_room s (closed ∷ es) second needs = needs

-- nothing was taken
pub held_nothing : (s : HeldParts) → HoldsThen s [] s
held_nothing s before is = is ∙ ap held_after (sym (append-nil before))

-- two lists of events were taken
pub held_joins : (s t u : HeldParts) (first second : List Event) → HoldsThen s first t → HoldsThen t second u
    → HoldsThen s (first ++ second) u
held_joins s t u first second begun ended before is =
    ended (before ++ first) (begun before is) ∙ ap held_after (append_assoc before first second)
