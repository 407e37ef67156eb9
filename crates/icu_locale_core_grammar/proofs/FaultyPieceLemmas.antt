-- Of any grammar: a list stops at one place at most, with one name, and a list that stops has no meaning.
use Rattle.std.proofs.Common.{◌≡◌, List, [], ◌∷◌, ◌++◌, Option, None, Some, ◌⊎◌, ◌↔◌, inl, inr, sym, refl, ap, ◌∙◌, subst, append_assoc, append-nil}
use Rattle.std.proofs.lemmas.List.{append_cancel_left}
use Rattle.icu_locale_core_grammar.specs.declared.error.ParseError.{ParseError}
use Rattle.icu_locale_core_grammar.specs.Subtags.{Text}
use Rattle.icu_locale_core_grammar.specs.FaultyPiece.{first_piece, IsAccepted, BeginsSome, StopsAt, IsDuplicate, IsNamed, HasFault}

-- of two fronts of one list, one begins with the other
pub record IsLonger (long left short rest : List Text) : Type 0 where
  pub more : List Text
  pub front : long ≡ short ++ more
  pub tail : rest ≡ more ++ left

pub compared : (xs tail ys rest : List Text) → xs ++ tail ≡ ys ++ rest → IsLonger ys rest xs tail ⊎ IsLonger xs tail ys rest
compared [] tail ys rest e = inl (record { more = ys; front = refl; tail = e })
compared (x ∷ xs) tail [] rest e = inr (record { more = x ∷ xs; front = refl; tail = sym e })
compared (x ∷ xs) tail (y ∷ ys) rest e = both x y (cc) (compared xs tail ys rest (cc))
  where
    both : (x y : Text) → x ≡ y → IsLonger ys rest xs tail ⊎ IsLonger xs tail ys rest → IsLonger (y ∷ ys) rest (x ∷ xs) tail ⊎ IsLonger (x ∷ xs) tail (y ∷ ys) rest
    both x y same (inl l) = inl (record { more = l.more; front = cc (same, l.front); tail = l.tail })
    both x y same (inr l) = inr (record { more = l.more; front = cc (same, l.front); tail = l.tail })

module _ {M : Type 0} (Means : List Text → M → Type 0) where
  -- the names exclude each other
  one_name : (e f : ParseError) (front : List Text) (place : Option Text) → IsNamed Means e front place → IsNamed Means f front place → e ≡ f
  one_name e f front place (inl a) (inl b) = a.1 ∙ sym b.1
  one_name e f front place (inl a) (inr b) = absurd (b.0 a.0)
  one_name e f front place (inr a) (inl b) = absurd (a.0 b.0)
  one_name e f front place (inr a) (inr b) = a.1 ∙ sym b.1

-- grammars that accept the same lists name alike
module _ {M : Type 0} (Means Other : List Text → M → Type 0) (alike : (ps : List Text) → IsAccepted Means ps ↔ IsAccepted Other ps) where
  other_duplicate : (front : List Text) (place : Option Text) → IsDuplicate Means front place → IsDuplicate Other front place
  other_duplicate front None d = d
  other_duplicate front (Some p) d = ((alike front).0 d.0, d.1, d.2)

  same_duplicate : (front : List Text) (place : Option Text) → IsDuplicate Other front place → IsDuplicate Means front place
  same_duplicate front None d = d
  same_duplicate front (Some p) d = ((alike front).1 d.0, d.1, d.2)

  pub named_alike : (e : ParseError) (front : List Text) (place : Option Text) → IsNamed Other e front place → IsNamed Means e front place
  named_alike e front place (inl n) = inl (same_duplicate front place n.0, n.1)
  named_alike e front place (inr n) = inr ((λ d. n.0 (other_duplicate front place d)), n.1)

module _ {M : Type 0} {Means : List Text → M → Type 0} where
  -- a list that stops has no meaning
  pub stops_unaccepted : (ps front rest : List Text) (m : M) → StopsAt Means ps front rest → Means ps m → ⊥
  stops_unaccepted ps front [] m s a = s.stops (m, subst (λ l. Means l m) (s.cut ∙ append-nil front) a)
  stops_unaccepted ps front (p ∷ rest) m s a = s.stops (rest, (m, subst (λ l. Means l m) (s.cut ∙ sym (append_assoc front (p ∷ []) rest)) a))

  -- what stops there has no longer front that begins an accepted list
  no_longer : (ps front rest : List Text) (z : Text) (zs tail : List Text) → StopsAt Means ps front rest → ps ≡ front ++ (z ∷ zs) ++ tail → BeginsSome Means (front ++ (z ∷ zs)) → ⊥
  no_longer ps front [] z zs tail s e b =
      let g = append_cancel_left front [] ((z ∷ zs) ++ tail) (sym s.cut ∙ e ∙ append_assoc front (z ∷ zs) tail) in
      cc
  no_longer ps front (p ∷ rest) z zs tail s e b =
      let g = append_cancel_left front (p ∷ rest) ((z ∷ zs) ++ tail) (sym s.cut ∙ e ∙ append_assoc front (z ∷ zs) tail) in
      let same : z ≡ p = cc in
      let long : (front ++ z ∷ zs) ++ b.0 ≡ (front ++ p ∷ []) ++ (zs ++ b.0) =
      append_assoc front (z ∷ zs) b.0 ∙ ap (λ q. front ++ q ∷ (zs ++ b.0)) same ∙ sym (append_assoc front (p ∷ []) (zs ++ b.0)) in
      s.stops (zs ++ b.0, (b.1.0, subst (λ l. Means l b.1.0) long b.1.1))

  not_longer : (ps front other rest left more : List Text) → StopsAt Means ps front rest → StopsAt Means ps other left → other ≡ front ++ more → other ≡ front
  not_longer ps front other rest left [] s t e = e ∙ append-nil front
  not_longer ps front other rest left (z ∷ zs) s t e = absurd (no_longer ps front rest z zs left s (t.cut ∙ ap (λ l. l ++ left) e) (subst (BeginsSome Means) e t.begins))

  pub one_front : (ps front other rest left : List Text) → StopsAt Means ps front rest → StopsAt Means ps other left → front ≡ other
  one_front ps front other rest left s t =
      elim (compared front rest other left (sym s.cut ∙ t.cut)) [
        | inl l ↦ sym (not_longer ps front other rest left l.more s t l.front)
        | inr l ↦ not_longer ps other front left rest l.more t s l.front
      ]

  pub one_rest : (ps front other rest left : List Text) → StopsAt Means ps front rest → StopsAt Means ps other left → rest ≡ left
  one_rest ps front other rest left s t =
      append_cancel_left front rest left (sym s.cut ∙ t.cut ∙ ap (λ l. l ++ left) (sym (one_front ps front other rest left s t)))

  -- a list has one fault at most
  pub one_fault : (ps : List Text) (e f : ParseError) → HasFault Means ps e → HasFault Means ps f → e ≡ f
  one_fault ps e f a b =
      let front = one_front ps a.front b.front a.rest b.rest a.stops b.stops in
      let rest = one_rest ps a.front b.front a.rest b.rest a.stops b.stops in
      let named : IsNamed Means f a.front (first_piece a.rest) =
      subst (λ l. IsNamed Means f l (first_piece a.rest)) (sym front) (subst (λ r. IsNamed Means f b.front (first_piece r)) (sym rest) b.named) in
      one_name Means e f a.front (first_piece a.rest) a.named named

  -- and none where it has a meaning
  pub never_both : (ps : List Text) (m : M) (e : ParseError) → Means ps m → HasFault Means ps e → ⊥
  never_both ps m e a b = stops_unaccepted ps b.front b.rest m b.stops a
