-- What a sink without parts leaves of the sink that it is lent.
use Rattle.std.proofs.Common.{◌≡◌, ℕ, List, [], ◌∷◌, ◌++◌, Result, OnErr, refl, sym, ap, ◌∙◌, subst}
use Rattle.std.specs.Borrow.{MutBor}
use Rattle.writeable.specs.AnnotatedText.{Event, byte, opened, closed, bytes, text_of, without_parts}
use Rattle.writeable.specs.TakenText.{TakesText, without_joined}
use Rattle.writeable.specs.declared.partless_sink.PartlessSink.{PartlessSink}
use Rattle.writeable.specs.Taking.{HasBegun, on_err_by}
use Rattle.writeable.proofs.AnnotatedTextLemmas.{no_bytes, text_of_bytes}

-- the sink that takes the bytes
abbrev pub lent_by : {S : Type 0} → PartlessSink S → MutBor S
lent_by sink = sink.to

-- what bytes begin and end with is bytes
front_of_bytes : (text : List ℕ) (front rest : List Event) → bytes text ≡ front ++ rest → without_parts front ≡ front
unfolding bytes
front_of_bytes text [] rest whole = refl
front_of_bytes [] (e ∷ es) rest whole = absurd (cc)
front_of_bytes (b ∷ text) (byte x ∷ es) rest whole = ap (λ more. byte x ∷ more) (front_of_bytes text es rest (cc))
front_of_bytes (b ∷ text) (opened part ∷ es) rest whole = absurd (cc)
front_of_bytes (b ∷ text) (closed ∷ es) rest whole = absurd (cc)

rest_of_bytes : (text : List ℕ) (front rest : List Event) → bytes text ≡ front ++ rest → without_parts rest ≡ rest
unfolding bytes
rest_of_bytes text [] rest whole = subst (λ es. without_parts es ≡ es) whole (ap bytes (text_of_bytes text))
rest_of_bytes [] (e ∷ es) rest whole = absurd (cc)
rest_of_bytes (b ∷ text) (e ∷ es) rest whole = rest_of_bytes text es rest (cc)

module _ {S : Type 0} (takes : S → List Event → S → Type 0) where
  -- events without text change nothing
  pub no_text_taken : ((s : S) → takes s [] s) → (s : MutBor S) (es : List Event) → text_of es ≡ [] → TakesText takes s es s
  no_text_taken nothing s es none = record { same = refl; taken = subst (λ fs. takes s.now fs s.now) (sym (ap bytes none ∙ no_bytes)) (nothing s.now) }

  module _ (lacks_room : S → List Event → Type 0) {W : Type 0} (to : W → MutBor S) where
    -- the sink that is lent took a beginning of the text
    abbrev pub TextBegun : W → List Event → W → Type 0
    TextBegun s es t = HasBegun (λ a fs b. TakesText takes (to a) fs (to b)) (λ a fs. lacks_room (to a).now (without_parts fs)) s es t

    -- a beginning of the events is one of their bytes
    text_begun : (s : W) (es : List Event) (t : W) → TextBegun s es t
        → HasBegun takes lacks_room (to s).now (without_parts es) (to t).now
    text_begun s es t begun = record {
      front = without_parts begun.front;
      rest = without_parts begun.rest;
      whole = ap without_parts begun.whole ∙ without_joined begun.front begun.rest;
      taken = begun.taken.taken;
      short = begun.short;
    }

    -- a beginning of bytes is one of themselves
    pub bytes_begun : (s : W) (text : List ℕ) (t : W) → (to t).ghost_name ≡ (to s).ghost_name
        → HasBegun takes lacks_room (to s).now (bytes text) (to t).now → TextBegun s (bytes text) t
    bytes_begun s text t same begun = record {
      front = begun.front;
      rest = begun.rest;
      whole = begun.whole;
      taken = record { same = same; taken = subst (λ es. takes (to s).now es (to t).now) (sym (front_of_bytes text begun.front begun.rest begun.whole)) begun.taken };
      short = subst (λ es. lacks_room (to t).now es) (sym (rest_of_bytes text begun.front begun.rest begun.whole)) begun.short;
    }

    -- what the sink is given back as, where a beginning was taken
    pub begun_at_end : {T E : Type 0} (r : Result T E) (s : W) (es : List Event) (t : W) (end : S) → OnErr r (TextBegun s es t)
        → ((to t).ghost_name ≡ (to s).ghost_name → end ≡ (to t).now)
        → OnErr r (HasBegun takes lacks_room (to s).now (without_parts es) end)
    begun_at_end r s es t end begun is = on_err_by r
        (λ h. subst (λ last. HasBegun takes lacks_room (to s).now (without_parts es) last) (sym (is h.taken.same)) (text_begun s es t h)) begun
