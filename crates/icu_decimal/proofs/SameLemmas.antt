-- `==`, part by part, holds exactly of equal identifiers and of equal preferences.
use Rattle.std.proofs.Common.{◌≡◌, Bool, ◌&&◌, ap, Decides}
use Rattle.std.specs.Option.{option_eq}
use Rattle.std.specs.Cmp.Lexicographic.{bytes_decides}
use Rattle.std.proofs.lemmas.Bool.Decides.{Decides-and, Decides-like}
use Rattle.icu_locale_core.specs.Subtags.{same_text}
use Rattle.icu_locale_core.specs.TagPreferences.{Preferences}
use Rattle.icu_locale_core.proofs.SameLemmas.{same_data, same_data_locales, same_locale, same_locale_preferences, same_preferences, texts_decide}
use Rattle.icu_decimal.specs.Identifiers.{Identifier}

abbrev same_identifier : Identifier → Identifier → Bool
same_identifier a b = same_data a.locale b.locale && same_text a.attributes b.attributes

pub identifiers_decide : (a b : Identifier) → Decides (same_identifier a b) (a ≡ b)
identifiers_decide a b = Decides-like (same_identifier a b)
    (λ h i. record { locale = h.0 i; attributes = h.1 i })
    (λ e. (ap (λ d. d.locale) e, ap (λ d. d.attributes) e))
    (Decides-and _ _ (same_data_locales a.locale b.locale) (bytes_decides a.attributes b.attributes))

pub preferences_decide : (a b : Preferences) → Decides (same_preferences a b) (a ≡ b)
preferences_decide a b = Decides-like (same_preferences a b)
    (λ h i. record { locale = h.0 i; numbering_system = h.1 i })
    (λ e. (ap (λ p. p.locale) e, ap (λ p. p.numbering_system) e))
    (Decides-and _ _ (same_locale_preferences a.locale b.locale) (texts_decide a.numbering_system b.numbering_system))
