-- `==`, part by part, holds exactly of equal values.
use Rattle.std.proofs.Common.{◌≡◌, Bool, Option, None, Some, refl, ap, Decides}
use Rattle.std.specs.Option.{option_eq}
use Rattle.std.specs.Cmp.Lexicographic.{bytes_decides}
use Rattle.std.proofs.lemmas.Bool.Decides.{Decides-and, Decides-like}
use Rattle.icu_locale_core_grammar.specs.Subtags.{Text, same_text}
use Rattle.icu_locale_core_grammar.specs.TagPreferences.{Subdivision, LocalePreferencesMeaning, DataLocaleMeaning}
pub use Rattle.icu_locale_core_grammar.specs.SamePreferences.{same_subdivision, same_data, same_locale, same_preferences}

-- an option is tested as what it holds is
pub options_decide : {A : Type 0} (same : A → A → Bool) → ((a b : A) → Decides (same a b) (a ≡ b)) → (s t : Option A) → Decides (option_eq same s t) (s ≡ t)
options_decide same each None None = (λ _. refl, λ _. refl)
options_decide same each None (Some t) = (λ e. cc, λ e. cc)
options_decide same each (Some s) None = (λ e. cc, λ e. cc)
options_decide same each (Some s) (Some t) = (λ e. ap Some ((each s t).0 e), λ e. (each s t).1 (cc))

pub texts_decide : (s t : Option Text) → Decides (option_eq same_text s t) (s ≡ t)
texts_decide = options_decide same_text bytes_decides

subdivision_decides : (a b : Subdivision) → Decides (same_subdivision a b) (a ≡ b)
subdivision_decides a b = Decides-like (same_subdivision a b)
    (λ h i. record { region = h.0 i; suffix = h.1 i })
    (λ e. (ap (λ s. s.region) e, ap (λ s. s.suffix) e))
    (Decides-and _ _ (bytes_decides a.region b.region) (bytes_decides a.suffix b.suffix))

subdivisions_decide : (s t : Option Subdivision) → Decides (option_eq same_subdivision s t) (s ≡ t)
subdivisions_decide = options_decide same_subdivision subdivision_decides

-- ---- data locales

pub same_data_locales : (a b : DataLocaleMeaning) → Decides (same_data a b) (a ≡ b)
same_data_locales a b = Decides-like (same_data a b)
    (λ h i. record { language = h.0 i; script = h.1.0 i; region = h.1.1.0 i; variant = h.1.1.1.0 i; subdivision = h.1.1.1.1 i })
    (λ e. (ap (λ d. d.language) e, (ap (λ d. d.script) e, (ap (λ d. d.region) e, (ap (λ d. d.variant) e, ap (λ d. d.subdivision) e)))))
    (Decides-and _ _ (bytes_decides a.language b.language)
    (Decides-and _ _ (texts_decide a.script b.script)
    (Decides-and _ _ (texts_decide a.region b.region)
    (Decides-and _ _ (texts_decide a.variant b.variant) (subdivisions_decide a.subdivision b.subdivision)))))

-- ---- preferences

pub same_locale_preferences : (a b : LocalePreferencesMeaning) → Decides (same_locale a b) (a ≡ b)
same_locale_preferences a b = Decides-like (same_locale a b)
    (λ h i. record { language = h.0 i; script = h.1.0 i; region = h.1.1.0 i; variant = h.1.1.1.0 i; subdivision = h.1.1.1.1.0 i; region_override = h.1.1.1.1.1 i })
    (λ e. (ap (λ p. p.language) e, (ap (λ p. p.script) e, (ap (λ p. p.region) e, (ap (λ p. p.variant) e, (ap (λ p. p.subdivision) e, ap (λ p. p.region_override) e))))))
    (Decides-and _ _ (bytes_decides a.language b.language)
    (Decides-and _ _ (texts_decide a.script b.script)
    (Decides-and _ _ (texts_decide a.region b.region)
    (Decides-and _ _ (texts_decide a.variant b.variant)
    (Decides-and _ _ (subdivisions_decide a.subdivision b.subdivision) (subdivisions_decide a.region_override b.region_override))))))
