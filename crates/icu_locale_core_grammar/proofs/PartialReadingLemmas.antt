-- The longest front that is accepted is one, and a reader that stops where a piece does not fit has found it.
use Rattle.std.proofs.Common.{◌≡◌, List, [], ◌∷◌, ◌++◌, Option, None, Some, sym, refl, ap, ◌∙◌, subst, append_assoc, append-nil, ◌⊎◌, inl, inr}
use Rattle.std.proofs.lemmas.List.{append_cancel_left}
use Rattle.icu_locale_core_grammar.specs.Subtags.{Text}
use Rattle.icu_locale_core_grammar.specs.Stepping.{run, IsReader}
use Rattle.icu_locale_core_grammar.specs.PartialReading.{IsLongest, ReadsFront}
use Rattle.icu_locale_core_grammar.proofs.Runs.{stops_at_piece, one_meaning}
use Rattle.icu_locale_core_grammar.proofs.FaultyPieceLemmas.{compared, IsLonger}

module _ {M : Type 0} (Means : List Text → M → Type 0) where
  -- nothing longer is accepted
  none_longer : (taken rest more tail : List Text) (m : M) → IsLongest Means taken rest → rest ≡ more ++ tail → Means (taken ++ more) m → more ≡ []
  none_longer taken rest [] tail m longest e a = refl
  none_longer taken [] (z ∷ zs) tail m longest e a = cc
  none_longer taken (p ∷ rest) (z ∷ zs) tail m longest e a =
      let same : z ≡ p = cc in
      let long : taken ++ (z ∷ zs) ≡ (taken ++ p ∷ []) ++ zs = ap (λ q. taken ++ q ∷ zs) same ∙ sym (append_assoc taken (p ∷ []) zs) in
      absurd (longest (zs, (m, subst (λ l. Means l m) long a)))

  same_front : (taken rest short tail more : List Text) (m : M) → IsLongest Means short tail → Means taken m → taken ≡ short ++ more → tail ≡ more ++ rest → taken ≡ short
  same_front taken rest short tail more m longest a e f =
      e ∙ ap (λ l. short ++ l) (none_longer short tail more rest m longest f (subst (λ l. Means l m) e a)) ∙ append-nil short

module _ {M : Type 0} {Means : List Text → M → Type 0} where
  pub one_taken : (ps : List Text) (m n : M) (rest tail : List Text) (a : ReadsFront Means ps m rest) (b : ReadsFront Means ps n tail) → a.taken ≡ b.taken
  one_taken ps m n rest tail a b = by_length (compared a.taken rest b.taken tail (sym a.parts ∙ b.parts))
    where
      by_length : IsLonger b.taken tail a.taken rest ⊎ IsLonger a.taken rest b.taken tail → a.taken ≡ b.taken
      by_length (inl l) = sym (same_front Means b.taken tail a.taken rest l.more n a.longest b.meant l.front l.tail)
      by_length (inr l) = same_front Means a.taken rest b.taken tail l.more m b.longest a.meant l.front l.tail

  pub one_rest : (ps : List Text) (m n : M) (rest tail : List Text) → ReadsFront Means ps m rest → ReadsFront Means ps n tail → rest ≡ tail
  one_rest ps m n rest tail a b =
      append_cancel_left b.taken rest tail (ap (λ l. l ++ rest) (sym (one_taken ps m n rest tail a b)) ∙ sym a.parts ∙ b.parts)

-- the first piece of the rest is not taken
abbrev pub IsRefusedFirst : {S : Type 0} → (S → Text → Option S) → S → List Text → Type 0
IsRefusedFirst step s [] = Unit {0}
IsRefusedFirst step s (p ∷ rest) = step s p ≡ None

module _ {S M : Type 0} {step : S → Text → Option S} {start : S} {ends : S → Option M} {Means : List Text → M → Type 0} (right : IsReader step start ends Means) where
  longest_from : (taken rest : List Text) (s : S) → run step (Some start) taken ≡ Some s → IsRefusedFirst step s rest → IsLongest Means taken rest
  longest_from taken [] s e refused = tt
  longest_from taken (p ∷ rest) s e refused = (stops_at_piece right taken s p rest e refused).stops

  -- a stage that is an end, and does not take the first piece of the rest
  pub front_read : (taken rest : List Text) (s : S) (m : M) → run step (Some start) taken ≡ Some s → ends s ≡ Some m → IsRefusedFirst step s rest → ReadsFront Means (taken ++ rest) m rest
  front_read taken rest s m e f refused = record { taken = taken; parts = refl; meant = right.found taken s m e f; longest = longest_from taken rest s e refused }

  pub one_front_meaning : (ps : List Text) (m n : M) (rest tail : List Text) → ReadsFront Means ps m rest → ReadsFront Means ps n tail → m ≡ n
  one_front_meaning ps m n rest tail a b =
      one_meaning right b.taken m n (subst (λ l. Means l m) (one_taken ps m n rest tail a b) a.meant) b.meant
