-- The text of a locale, part by part.
use Rattle.std.proofs.Common.{◌≡◌, List, ◌++◌, sym, ap, ◌∙◌, append_assoc}
use Rattle.std.specs.Prelude.{flat_map, option_to_list}
use Rattle.std.proofs.lemmas.List.Concat.{flat_map-append}
use Rattle.writeable.specs.AnnotatedText.{bytes}
use Rattle.icu_locale_core_grammar.specs.Subtags.{Text}
use Rattle.icu_locale_core_grammar.specs.Pieces.{hyphened}
use Rattle.icu_locale_core_grammar.specs.Meaning.{TagMeaning}
use Rattle.icu_locale_core_grammar.specs.NormalText.{normal_text}
use Rattle.icu_locale_core_langid.specs.LanguageText.{language_text}
use Rattle.icu_locale_core_extensions.specs.ExtensionText.{extension_pieces}
use Rattle.icu_locale_core_subtag_lists.proofs.PrintingLemmas.{bytes_joined}
use Rattle.icu_locale_core_locale.specs.LocaleText.{locale_tail, locale_events}

module _ (m : TagMeaning) where
  abbrev behind_language : List Text
  behind_language = option_to_list m.language.script ++ (option_to_list m.language.region ++ m.language.variants)

  text_joined : normal_text m ≡ language_text m.language ++ locale_tail m
  text_joined =
      ap (λ l. m.language.language ++ l) (flat_map-append hyphened behind_language (extension_pieces m.extensions m.private_use))
      ∙ sym (append_assoc m.language.language (flat_map hyphened behind_language) (locale_tail m))

  pub locale_joined : bytes (normal_text m) ≡ locale_events m
  locale_joined = ap bytes text_joined ∙ bytes_joined (language_text m.language) (locale_tail m)
