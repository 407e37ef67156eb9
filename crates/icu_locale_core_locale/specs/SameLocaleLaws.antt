-- The laws of `==` and of `hash` of locales.
-- Defined in docs/tags.md, "Orders".
-- Cited by the impls of `PartialEq`, `Eq` and `Hash` of `Locale`, whose laws it proves.
use Rattle.std.proofs.Common.{◌≡◌, true, ap, subst, Decides}
use Rattle.std.specs.Cmp.{IsEquivalence, on_equiv, and_equiv}
use Rattle.std.proofs.lemmas.Bool.{and_parts}
use Rattle.icu_locale_core_grammar.specs.Meaning.{TagMeaning}
use Rattle.icu_locale_core_langid.specs.SameLanguage.{same_language}
use Rattle.icu_locale_core_langid.specs.SameLanguageLaws.{same_equiv, same_decides}
use Rattle.icu_locale_core_extensions.specs.SameExtension.{same_extensions}
use Rattle.icu_locale_core_extensions.specs.SameExtensionLaws.{extensions_equiv, extensions_decide}
use Rattle.icu_locale_core_locale.specs.SameLocale.{same_locale, extensions_of, locale_fed}

pub locale_equiv : IsEquivalence same_locale
locale_equiv = and_equiv (on_equiv (λ (m : TagMeaning). m.language) same_equiv) (on_equiv extensions_of extensions_equiv)

locale_equal : (a b : TagMeaning) → same_locale a b ≡ true → a ≡ b
locale_equal a b e =
    let parts = and_parts (same_language a.language b.language) (same_extensions (extensions_of a) (extensions_of b)) e in
    let front : a.language ≡ b.language = (same_decides a.language b.language).0 parts.0 in
    let behind : extensions_of a ≡ extensions_of b = (extensions_decide (extensions_of a) (extensions_of b)).0 parts.1 in
    λ i. record { language = front i; extensions = (behind i).blocks; private_use = (behind i).own }

-- equal exactly where each part is the same
pub locale_decides : (a b : TagMeaning) → Decides (same_locale a b) (a ≡ b)
locale_decides a b = (locale_equal a b, λ e. subst (λ c. same_locale a c ≡ true) e (locale_equiv.refl a))

pub locale_alike : (a b : TagMeaning) → same_locale a b ≡ true → locale_fed a ≡ locale_fed b
locale_alike a b e = ap locale_fed (locale_equal a b e)
