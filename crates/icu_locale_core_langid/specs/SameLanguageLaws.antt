-- The laws of `==` and of `hash` of language identifiers.
-- Defined in docs/tags.md, "Orders".
-- Cited by `PartialEq`, `Eq` and `Hash` of `LanguageIdentifier`, whose laws it proves; `laws` cites the statements.
use Rattle.std.proofs.Common.{◌≡◌, true, ◌&&◌, ap, subst, Decides}
use Rattle.std.specs.Cmp.{IsEquivalence, on_equiv, and_equiv}
use Rattle.std.specs.Cmp.Lexicographic.{pointwise, bytes_decides, pointwise_decides, nat_list_eq_equiv, lists_equiv, options_equiv}
use Rattle.std.specs.Option.{option_eq}
use Rattle.std.proofs.lemmas.Bool.{and_parts}
use Rattle.icu_locale_core_grammar.specs.Subtags.{same_text}
use Rattle.icu_locale_core_grammar.specs.LanguagePart.{LanguageId}
use Rattle.icu_locale_core_grammar.proofs.SameLemmas.{texts_decide}
use Rattle.icu_locale_core_langid.specs.SameLanguage.{language_fed, same_language}

pub same_equiv : IsEquivalence same_language
same_equiv =
    and_equiv (on_equiv (λ a. a.language) nat_list_eq_equiv)
    (and_equiv (on_equiv (λ a. a.script) (options_equiv nat_list_eq_equiv))
    (and_equiv (on_equiv (λ a. a.region) (options_equiv nat_list_eq_equiv)) (on_equiv (λ a. a.variants) (lists_equiv nat_list_eq_equiv))))

-- equal exactly where each part is the same
pub same_decides : (a b : LanguageId) → Decides (same_language a b) (a ≡ b)
same_decides a b = (equal, λ e. subst (λ c. same_language a c ≡ true) e (same_equiv.refl a))
  where
    equal : same_language a b ≡ true → a ≡ b
    equal e =
        let first = and_parts (same_text a.language b.language) (option_eq same_text a.script b.script && (option_eq same_text a.region b.region && pointwise same_text a.variants b.variants)) e in
        let second = and_parts (option_eq same_text a.script b.script) (option_eq same_text a.region b.region && pointwise same_text a.variants b.variants) first.1 in
        let third = and_parts (option_eq same_text a.region b.region) (pointwise same_text a.variants b.variants) second.1 in
        let language = (bytes_decides a.language b.language).0 first.0 in
        let script = (texts_decide a.script b.script).0 second.0 in
        let region = (texts_decide a.region b.region).0 third.0 in
        let variants = (pointwise_decides bytes_decides a.variants b.variants).0 third.1 in
        λ i. record { language = language i; script = script i; region = region i; variants = variants i }

pub same_alike : (a b : LanguageId) → same_language a b ≡ true → language_fed a ≡ language_fed b
same_alike a b e = ap language_fed ((same_decides a b).0 e)
