-- The laws of `==` and of `hash` of extensions.
-- Defined in docs/tags.md, "Extensions as values".
-- Cited by `PartialEq`, `Eq` and `Hash` of `Unicode`, `Transform`, `Other` and `Extensions`, whose laws it proves. It uses many modules, since an extension is the same where each of its parts is.
use Rattle.std.proofs.Common.{◌≡◌, true, ◌&&◌, ◌++◌, Option, None, Some, refl, ap, subst, Decides}
use Rattle.std.specs.Cmp.{IsEquivalence, on_equiv, and_equiv}
use Rattle.std.specs.Cmp.Lexicographic.{pointwise, bytes_decides, pointwise_decides, nat_list_eq_equiv, lists_equiv, options_equiv}
use Rattle.std.specs.Option.{option_eq}
use Rattle.std.specs.Hash as fed
use Rattle.std.proofs.lemmas.Bool.{and_parts}
use Rattle.icu_locale_core_grammar.specs.Subtags.{same_text}
use Rattle.icu_locale_core_grammar.specs.Collections.{Entry}
use Rattle.icu_locale_core_grammar.specs.LanguagePart.{LanguageId}
use Rattle.icu_locale_core_grammar.specs.Meaning.{UnicodeMeaning, TransformMeaning}
use Rattle.icu_locale_core_langid.specs.SameLanguage.{same_language}
use Rattle.icu_locale_core_langid.specs.SameLanguageLaws.{same_equiv, same_decides}
use Rattle.icu_locale_core_keywords_fields.specs.Orders.{same_entries, same_value}
use Rattle.icu_locale_core_keywords_fields.specs.OrderLaws.{entries_equiv, entries_decide}
use Rattle.icu_locale_core_extensions.specs.ExtensionsValue.{ExtensionsValue}
use Rattle.icu_locale_core_extensions.specs.SameExtension.{same_unicode, same_transform, same_other, same_extensions, unicode_fed, transform_fed, other_fed, extensions_fed}

pub unicode_equiv : IsEquivalence same_unicode
unicode_equiv = and_equiv (on_equiv (λ (a : UnicodeMeaning). a.head) (lists_equiv nat_list_eq_equiv)) (on_equiv (λ (a : UnicodeMeaning). a.entries) entries_equiv)

pub transform_equiv : IsEquivalence same_transform
transform_equiv = and_equiv (on_equiv (λ (a : TransformMeaning). a.head) (options_equiv same_equiv)) (on_equiv (λ (a : TransformMeaning). a.entries) entries_equiv)

pub other_equiv : IsEquivalence same_other
other_equiv = and_equiv (on_equiv (λ (a : Entry). a.0) nat_list_eq_equiv) (on_equiv (λ (a : Entry). a.1) (lists_equiv nat_list_eq_equiv))

pub extensions_equiv : IsEquivalence same_extensions
extensions_equiv =
    and_equiv (on_equiv (λ (e : ExtensionsValue). e.blocks.unicode) unicode_equiv)
    (and_equiv (on_equiv (λ (e : ExtensionsValue). e.blocks.transform) transform_equiv)
    (and_equiv (on_equiv (λ (e : ExtensionsValue). e.own) (lists_equiv nat_list_eq_equiv)) (on_equiv (λ (e : ExtensionsValue). e.blocks.others) entries_equiv)))

-- ---- what is the same is equal

unicode_equal : (a b : UnicodeMeaning) → same_unicode a b ≡ true → a ≡ b
unicode_equal a b e =
    let parts = and_parts (pointwise same_text a.head b.head) (same_entries a.entries b.entries) e in
    let head : a.head ≡ b.head = (pointwise_decides bytes_decides a.head b.head).0 parts.0 in
    let entries : a.entries ≡ b.entries = (entries_decide a.entries b.entries).0 parts.1 in
    λ i. record { head = head i; entries = entries i }

same_option : (s t : Option LanguageId) → option_eq same_language s t ≡ true → s ≡ t
same_option None None e = refl
same_option None (Some t) e = cc
same_option (Some s) None e = cc
same_option (Some s) (Some t) e = ap Some ((same_decides s t).0 e)

transform_equal : (a b : TransformMeaning) → same_transform a b ≡ true → a ≡ b
transform_equal a b e =
    let parts = and_parts (option_eq same_language a.head b.head) (same_entries a.entries b.entries) e in
    let head : a.head ≡ b.head = same_option a.head b.head parts.0 in
    let entries : a.entries ≡ b.entries = (entries_decide a.entries b.entries).0 parts.1 in
    λ i. record { head = head i; entries = entries i }

extensions_equal : (a b : ExtensionsValue) → same_extensions a b ≡ true → a ≡ b
extensions_equal a b e =
    let own_and_others = pointwise same_text a.own b.own && same_entries a.blocks.others b.blocks.others in
    let first = and_parts (same_unicode a.blocks.unicode b.blocks.unicode) (same_transform a.blocks.transform b.blocks.transform && own_and_others) e in
    let second = and_parts (same_transform a.blocks.transform b.blocks.transform) own_and_others first.1 in
    let third = and_parts (pointwise same_text a.own b.own) (same_entries a.blocks.others b.blocks.others) second.1 in
    let u = unicode_equal a.blocks.unicode b.blocks.unicode first.0 in
    let t = transform_equal a.blocks.transform b.blocks.transform second.0 in
    let own : a.own ≡ b.own = (pointwise_decides bytes_decides a.own b.own).0 third.0 in
    let others : a.blocks.others ≡ b.blocks.others = (entries_decide a.blocks.others b.blocks.others).0 third.1 in
    λ i. record { blocks = record { unicode = u i; transform = t i; others = others i }; own = own i }

pub extensions_decide : (a b : ExtensionsValue) → Decides (same_extensions a b) (a ≡ b)
extensions_decide a b = (extensions_equal a b, λ e. subst (λ c. same_extensions a c ≡ true) e (extensions_equiv.refl a))

-- ---- what is the same is hashed alike

pub unicode_alike : (a b : UnicodeMeaning) → same_unicode a b ≡ true → unicode_fed a ≡ unicode_fed b
unicode_alike a b e = ap unicode_fed (unicode_equal a b e)

pub transform_alike : (a b : TransformMeaning) → same_transform a b ≡ true → transform_fed a ≡ transform_fed b
transform_alike a b e = ap transform_fed (transform_equal a b e)

pub other_alike : (a b : Entry) → same_other a b ≡ true → other_fed a ≡ other_fed b
other_alike a b e =
    let parts = and_parts (same_text a.0 b.0) (same_value a.1 b.1) e in
    let singleton : a.0 ≡ b.0 = (bytes_decides a.0 b.0).0 parts.0 in
    let own : a.1 ≡ b.1 = (pointwise_decides bytes_decides a.1 b.1).0 parts.1 in
    λ i. fed.str (singleton i) ++ fed.slice fed.str (own i)

pub extensions_alike : (a b : ExtensionsValue) → same_extensions a b ≡ true → extensions_fed a ≡ extensions_fed b
extensions_alike a b e = ap extensions_fed (extensions_equal a b e)
