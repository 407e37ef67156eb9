-- When the values of two are the same: those of each category.
-- Defined in docs/words.md, "Tables of words".
-- Cited by `==` of `ByCategory`.
use Rattle.std.specs.Prelude.{Bool, ◌&&◌}
use Rattle.std.specs.Cmp.{IsEquivalence, on_equiv, and_equiv}
use Rattle.std.specs.Cmp.Lexicographic.{options_equiv}
use Rattle.std.specs.Option.{option_eq}
use Rattle.locale_numbers_words.specs.Categories.{Values}

module _ {T : Type 0} (same : T → T → Bool) where
  abbrev pub same_small : Values T → Values T → Bool
  same_small a b = option_eq same a.zero b.zero && (option_eq same a.one b.one && option_eq same a.two b.two)

  abbrev pub same_large : Values T → Values T → Bool
  same_large a b = option_eq same a.few b.few && (option_eq same a.many b.many && same a.other b.other)

  abbrev pub same_values : Values T → Values T → Bool
  same_values a b = same_small a b && same_large a b

  pub same_values_equiv : IsEquivalence same → IsEquivalence same_values
  same_values_equiv each =
      and_equiv
      (and_equiv (on_equiv (λ v. v.zero) (options_equiv each)) (and_equiv (on_equiv (λ v. v.one) (options_equiv each)) (on_equiv (λ v. v.two) (options_equiv each))))
      (and_equiv (on_equiv (λ v. v.few) (options_equiv each)) (and_equiv (on_equiv (λ v. v.many) (options_equiv each)) (on_equiv (λ v. v.other) each)))
