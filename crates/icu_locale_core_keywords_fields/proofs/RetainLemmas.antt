-- Asking a closure at each key in order, and taking the entries away at whose keys it answers false.
use Rattle.std.proofs.Common.{◌≡◌, ℕ, zero, suc, ◌+◌, ◌<◌, ◌≤◌, Bool, true, false, List, [], ◌∷◌, ◌++◌, length, map, take, drop, get_or, sym, refl, ap, ◌∙◌, subst, append_assoc, append-nil, arith, length-append, add-one}
use Rattle.std.proofs.lemmas.List.{take_more, drop_more, drop_all, take_all, map-append}
use Rattle.std.proofs.lemmas.List.Edits.{length-remove}
use Rattle.std.specs.List.{items_where_true, remove}
use Rattle.std.specs.List.Retain.{ReturnsInTurn}
use Rattle.icu_locale_core_keywords_fields.specs.Retained.{IsRetained}

-- ---- one more answer

asked_more : {F X : Type 0} (calls : F → X → Bool → F → Type 0) (f : F) (bs : List Bool) (xs : List X) (g : F) (b : Bool) (x : X) (h : F) → length bs ≡ length xs
    → ReturnsInTurn calls f bs xs g → calls g x b h → ReturnsInTurn calls f (bs ++ b ∷ []) (xs ++ x ∷ []) h
asked_more calls f [] [] g b x h e asked call = (h, subst (λ p. calls p x b h) (sym asked) call, refl)
asked_more calls f [] (y ∷ ys) g b x h e asked call = absurd (omega (arith, e))
asked_more calls f (c ∷ bs) [] g b x h e asked call = absurd asked
asked_more calls f (c ∷ bs) (y ∷ ys) g b x h e asked call = (asked.0, asked.1, asked_more calls asked.0 bs ys g b x h (omega (arith, e)) asked.2 call)

-- ---- lists

pushed : {A B : Type 0} (xs : List A) (ys : List B) (x : A) (y : B) → length xs ≡ length ys → length (xs ++ x ∷ []) ≡ length (ys ++ y ∷ [])
pushed xs ys x y e = length-append xs (x ∷ []) ∙ ap (λ n. n + 1) e ∙ sym (length-append ys (y ∷ []))

take_removed : {A : Type 0} (xs : List A) (i : ℕ) → i < length xs → take i (remove xs i) ≡ take i xs
take_removed [] i within = absurd (omega arith)
take_removed (x ∷ xs) zero within = refl
take_removed (x ∷ xs) (suc i) within = ap (λ l. x ∷ l) (take_removed xs i (omega arith))

drop_removed : {A : Type 0} (xs : List A) (i : ℕ) → i < length xs → drop i (remove xs i) ≡ drop (suc i) xs
drop_removed [] i within = absurd (omega arith)
drop_removed (x ∷ xs) zero within = refl
drop_removed (x ∷ xs) (suc i) within = drop_removed xs i (omega arith)

module _ {F X Y : Type 0} (calls : F → X → Bool → F → Type 0) where
  -- the entries before place i are kept, those from i on are still to be asked
  pub record IsRetaining (f : F) (before now : List (X × Y)) (i : ℕ) (g : F) : Type 0 where
    pub done : List (X × Y)
    pub answers : List Bool
    pub whole : length answers ≡ length done
    pub asked : ReturnsInTurn calls f answers (map (λ e. e.0) done) g
    pub kept : take i now ≡ items_where_true answers done
    pub parts : before ≡ done ++ drop i now
    pub fits : i ≤ length now

  picked_true : (cs : List Bool) (xs : List (X × Y)) (x : X × Y) → length cs ≡ length xs → items_where_true (cs ++ true ∷ []) (xs ++ x ∷ []) ≡ items_where_true cs xs ++ x ∷ []
  picked_true [] [] x e = refl
  picked_true [] (y ∷ ys) x e = absurd (omega (arith, e))
  picked_true (c ∷ cs) [] x e = absurd (omega (arith, e))
  picked_true (true ∷ cs) (y ∷ ys) x e = ap (λ l. y ∷ l) (picked_true cs ys x (omega (arith, e)))
  picked_true (false ∷ cs) (y ∷ ys) x e = picked_true cs ys x (omega (arith, e))

  picked_false : (cs : List Bool) (xs : List (X × Y)) (x : X × Y) → length cs ≡ length xs → items_where_true (cs ++ false ∷ []) (xs ++ x ∷ []) ≡ items_where_true cs xs
  picked_false [] [] x e = refl
  picked_false [] (y ∷ ys) x e = absurd (omega (arith, e))
  picked_false (c ∷ cs) [] x e = absurd (omega (arith, e))
  picked_false (true ∷ cs) (y ∷ ys) x e = ap (λ l. y ∷ l) (picked_false cs ys x (omega (arith, e)))
  picked_false (false ∷ cs) (y ∷ ys) x e = picked_false cs ys x (omega (arith, e))

  mapped : (xs : List (X × Y)) → length (map (λ (e : X × Y). e.0) xs) ≡ length xs
  mapped [] = refl
  mapped (x ∷ xs) = ap suc (mapped xs)

  module _ (f : F) (before now : List (X × Y)) (i : ℕ) (g h : F) (x : X × Y) (so_far : IsRetaining f before now i g) (within : i < length now) (here : x ≡ get_or now i x) where
    asked_at : (b : Bool) → calls g x.0 b h → ReturnsInTurn calls f (so_far.answers ++ b ∷ []) (map (λ e. e.0) (so_far.done ++ x ∷ [])) h
    asked_at b call =
        subst (λ ks. ReturnsInTurn calls f (so_far.answers ++ b ∷ []) ks h) (sym (map-append (λ (e : X × Y). e.0) so_far.done (x ∷ [])))
        (asked_more calls f so_far.answers (map (λ e. e.0) so_far.done) g b x.0 h (so_far.whole ∙ sym (mapped so_far.done)) so_far.asked call)

    cut : before ≡ (so_far.done ++ x ∷ []) ++ drop (i + 1) now
    cut =
        so_far.parts ∙ ap (λ l. so_far.done ++ l) (drop_more now i x within ∙ ap (λ y. y ∷ drop (i + 1) now) (sym here))
        ∙ sym (append_assoc so_far.done (x ∷ []) (drop (i + 1) now))

    pub retaining_keeps : calls g x.0 true h → IsRetaining f before now (i + 1) h
    retaining_keeps call = record {
      done = so_far.done ++ x ∷ [];
      answers = so_far.answers ++ true ∷ [];
      whole = pushed so_far.answers so_far.done true x so_far.whole;
      asked = asked_at true call;
      kept = take_more now i x within ∙ ap (λ y. take i now ++ y ∷ []) (sym here) ∙ ap (λ l. l ++ x ∷ []) so_far.kept ∙ sym (picked_true so_far.answers so_far.done x so_far.whole);
      parts = cut;
      fits = omega arith;
    }

    pub retaining_drops : (after : List (X × Y)) → after ≡ remove now i → calls g x.0 false h → IsRetaining f before after i h
    retaining_drops after edit call = record {
      done = so_far.done ++ x ∷ [];
      answers = so_far.answers ++ false ∷ [];
      whole = pushed so_far.answers so_far.done false x so_far.whole;
      asked = asked_at false call;
      kept = ap (take i) edit ∙ take_removed now i within ∙ so_far.kept ∙ sym (picked_false so_far.answers so_far.done x so_far.whole);
      parts = cut ∙ ap (λ l. (so_far.done ++ x ∷ []) ++ l) (sym (ap (drop i) edit ∙ drop_removed now i within ∙ ap (λ n. drop n now) (sym (add-one i))));
      fits = omega (arith, ap length edit, length-remove now i within, within);
    }

  pub retaining_begins : (f : F) (before : List (X × Y)) → IsRetaining f before before 0 f
  retaining_begins f before = record { done = []; answers = []; whole = refl; asked = refl; kept = refl; parts = refl; fits = omega arith }

  pub retaining_ends : (f : F) (before now : List (X × Y)) (i : ℕ) (g : F) → length now ≤ i → IsRetaining f before now i g → IsRetained calls f before now
  retaining_ends f before now i g past so_far =
      let all : before ≡ so_far.done = so_far.parts ∙ ap (λ l. so_far.done ++ l) (drop_all i now past) ∙ append-nil so_far.done in
      record {
        answers = so_far.answers;
        last = g;
        whole = so_far.whole ∙ ap length (sym all);
        asked = subst (λ l. ReturnsInTurn calls f so_far.answers (map (λ e. e.0) l) g) (sym all) so_far.asked;
        kept = sym (take_all i now past) ∙ so_far.kept ∙ ap (items_where_true so_far.answers) (sym all);
      }
