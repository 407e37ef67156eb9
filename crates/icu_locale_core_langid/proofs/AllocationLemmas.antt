-- Where a loop along pieces may allocate at a piece or at the end, the walk along them says so.
use Rattle.std.proofs.Common.{◌≡◌, Bool, false, List, [], ◌∷◌, ◌++◌, Option, None, Some, sym, ap, ◌∙◌, subst}
use Rattle.std.proofs.lemmas.Bool.{or_parts}
use Rattle.icu_locale_core_grammar.specs.Subtags.{Text}
use Rattle.icu_locale_core_grammar.specs.Stepping.{run}
use Rattle.icu_locale_core_langid.specs.Allocation.{grows_along}

module _ {S : Type 0} (after : S → Text → Option S) (grows : S → Text → Bool) (ends : S → Bool) where
  -- a walk that allocates nothing allocates nothing after the pieces that were taken
  none_behind : (o : Option S) (taken left : List Text) (s : S) → run after o taken ≡ Some s → grows_along after grows ends o (taken ++ left) ≡ false
      → grows_along after grows ends (Some s) left ≡ false
  none_behind None taken left s reached none = cc
  none_behind (Some t) [] left s reached none = subst (λ o. grows_along after grows ends o left ≡ false) reached none
  none_behind (Some t) (p ∷ taken) left s reached none =
      none_behind (after t p) taken left s reached (or_parts (grows t p) (grows_along after grows ends (after t p) (taken ++ left)) none).1

  -- nor at the next piece
  pub no_growth : (start s : S) (ps taken left more : List Text) (p : Text) → ps ≡ taken ++ left → left ≡ p ∷ more → run after (Some start) taken ≡ Some s
      → grows_along after grows ends (Some start) ps ≡ false → grows s p ≡ false
  no_growth start s ps taken left more p parts cut reached none =
      let here = none_behind (Some start) taken left s reached (sym (ap (grows_along after grows ends (Some start)) parts) ∙ none) in
      (or_parts (grows s p) (grows_along after grows ends (after s p) more) (sym (ap (grows_along after grows ends (Some s)) cut) ∙ here)).0

  -- nor at the end
  pub no_growth_at_end : (start s : S) (ps taken left : List Text) → ps ≡ taken ++ left → left ≡ [] → run after (Some start) taken ≡ Some s
      → grows_along after grows ends (Some start) ps ≡ false → ends s ≡ false
  no_growth_at_end start s ps taken left parts ended reached none =
      let here = none_behind (Some start) taken left s reached (sym (ap (grows_along after grows ends (Some start)) parts) ∙ none) in
      sym (ap (grows_along after grows ends (Some s)) ended) ∙ here
