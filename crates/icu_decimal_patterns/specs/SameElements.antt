-- When two sets of values are one: slot by slot.
-- Defined in docs/compact-text.md, "Slots".
-- Cited by `==` of `PluralElements`.
use Rattle.std.specs.Prelude.{Bool, ◌&&◌, Option, None, Some}
use Rattle.std.proofs.Common.{◌≡◌, refl, ap, Decides}
use Rattle.std.specs.Cmp.{IsEquivalence, on_equiv, and_equiv}
use Rattle.std.specs.Cmp.Lexicographic.{options_equiv}
use Rattle.std.specs.Option.{option_eq}
use Rattle.std.proofs.lemmas.Bool.Decides.{Decides-and, Decides-like}
use Rattle.icu_decimal_patterns.specs.Elements.{Elements}

module _ {T : Type 0} (same : T → T → Bool) where
  abbrev pub same_explicit : Elements T → Elements T → Bool
  same_explicit a b = option_eq same a.explicit_zero b.explicit_zero && option_eq same a.explicit_one b.explicit_one

  abbrev pub same_small : Elements T → Elements T → Bool
  same_small a b = option_eq same a.zero b.zero && (option_eq same a.one b.one && option_eq same a.two b.two)

  abbrev pub same_large : Elements T → Elements T → Bool
  same_large a b = option_eq same a.few b.few && (option_eq same a.many b.many && same a.other b.other)

  abbrev pub same_elements : Elements T → Elements T → Bool
  same_elements a b = same_explicit a b && (same_small a b && same_large a b)

  pub same_elements_equiv : IsEquivalence same → IsEquivalence same_elements
  same_elements_equiv each =
      and_equiv (and_equiv (on_equiv (λ s. s.explicit_zero) (options_equiv each)) (on_equiv (λ s. s.explicit_one) (options_equiv each)))
      (and_equiv (and_equiv (on_equiv (λ s. s.zero) (options_equiv each)) (and_equiv (on_equiv (λ s. s.one) (options_equiv each)) (on_equiv (λ s. s.two) (options_equiv each))))
      (and_equiv (on_equiv (λ s. s.few) (options_equiv each)) (and_equiv (on_equiv (λ s. s.many) (options_equiv each)) (on_equiv (λ s. s.other) each))))

  options : ((a b : T) → Decides (same a b) (a ≡ b)) → (s t : Option T) → Decides (option_eq same s t) (s ≡ t)
  options each None None = (λ _. refl, λ _. refl)
  options each None (Some t) = (λ e. cc, λ e. cc)
  options each (Some s) None = (λ e. cc, λ e. cc)
  options each (Some s) (Some t) = (λ e. ap Some ((each s t).0 e), λ e. (each s t).1 (cc))

  pub same_elements_decides : ((a b : T) → Decides (same a b) (a ≡ b)) → (a b : Elements T) → Decides (same_elements a b) (a ≡ b)
  same_elements_decides each a b = Decides-like (same_elements a b)
      (λ h i. record { explicit_zero = h.0.0 i; explicit_one = h.0.1 i; zero = h.1.0.0 i; one = h.1.0.1.0 i; two = h.1.0.1.1 i; few = h.1.1.0 i; many = h.1.1.1.0 i; other = h.1.1.1.1 i })
      (λ e. (
        (ap (λ s. s.explicit_zero) e, ap (λ s. s.explicit_one) e),
        ((ap (λ s. s.zero) e, (ap (λ s. s.one) e, ap (λ s. s.two) e)), (ap (λ s. s.few) e, (ap (λ s. s.many) e, ap (λ s. s.other) e))),
      ))
      (Decides-and _ _
      (Decides-and _ _ (options each a.explicit_zero b.explicit_zero) (options each a.explicit_one b.explicit_one))
      (Decides-and _ _
      (Decides-and _ _ (options each a.zero b.zero) (Decides-and _ _ (options each a.one b.one) (options each a.two b.two)))
      (Decides-and _ _ (options each a.few b.few) (Decides-and _ _ (options each a.many b.many) (each a.other b.other)))))
