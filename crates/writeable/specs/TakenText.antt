-- A sink that passes on the bytes of what it is given, and leaves out the parts.
-- Defined in docs/annotated-text.md, "Sinks".
-- Cited by the sink of `Writeable::write_text`, and by no public clause.
use Rattle.std.proofs.Common.{◌≡◌, List, [], ◌∷◌, ◌++◌, Bool, false, refl, sym, ap, ◌∙◌, subst}
use Rattle.std.specs.Borrow.{MutBor}
use Rattle.writeable.specs.AnnotatedText.{Event, byte, opened, closed, bytes, without_parts}

-- the borrowed sink is the same, and took the bytes
pub record TakesText {S : Type 0} (takes : S → List Event → S → Type 0) (s : MutBor S) (es : List Event) (t : MutBor S) : Type 0 where
  pub same : t.ghost_name ≡ s.ghost_name
  pub taken : takes s.now (without_parts es) t.now

-- events one after another, without their parts
pub without_joined : (first second : List Event) → without_parts (first ++ second) ≡ without_parts first ++ without_parts second
unfolding bytes
without_joined [] second = refl
without_joined (byte b ∷ es) second = ap (λ rest. byte b ∷ rest) (without_joined es second)
without_joined (opened part ∷ es) second = without_joined es second
without_joined (closed ∷ es) second = without_joined es second

module _ {S : Type 0} (takes : S → List Event → S → Type 0) where
  -- bytes that do not fit do not fit with more after them
  pub text_lacks_more : (lacks_room : S → List Event → Type 0) → ((s : S) (first second : List Event) → lacks_room s first → lacks_room s (first ++ second))
      → (s : S) (first second : List Event) → lacks_room s (without_parts first) → lacks_room s (without_parts (first ++ second))
  text_lacks_more lacks_room lacks_more s first second lacks =
      subst (λ es. lacks_room s es) (sym (without_joined first second)) (lacks_more s (without_parts first) (without_parts second) lacks)

  -- no events change nothing
  pub text_nothing_taken : ((s : S) → takes s [] s) → (s : MutBor S) → TakesText takes s [] s
  unfolding bytes
  text_nothing_taken nothing s = record { same = refl; taken = nothing s.now }

  -- events one after another
  pub text_taken_joins : (refused : S → Bool) → ((s t u : S) (first second : List Event) → takes s first t → refused t ≡ false → takes t second u → takes s (first ++ second) u)
      → (s t u : MutBor S) (first second : List Event) → TakesText takes s first t → refused t.now ≡ false → TakesText takes t second u → TakesText takes s (first ++ second) u
  text_taken_joins refused joins s t u first second begun going ended = record {
    same = ended.same ∙ begun.same;
    taken = subst (λ es. takes s.now es u.now) (sym (without_joined first second))
        (joins s.now t.now u.now (without_parts first) (without_parts second) begun.taken going ended.taken);
  }
