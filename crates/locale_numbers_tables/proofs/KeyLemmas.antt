-- Keys are one exactly where they are equal: `specs/Keys.antt`.
use Rattle.std.proofs.Common.{◌≡◌, refl, ap}
use Rattle.std.specs.Bool.{Decides}
use Rattle.std.proofs.lemmas.Slice.Eq.{bytes_eq-Decides}
use Rattle.std.proofs.lemmas.Bool.Decides.{Decides-and, Decides-like}
pub use Rattle.icu_locale_core.proofs.SameLemmas.{same_data_locales}
use Rattle.icu_decimal.specs.declared.plurals.PluralCategory.{PluralCategory}
use Rattle.icu_decimal.specs.declared.plurals.PluralCategory.TheVariants.{Zero, One, Two, Few, Many, Other}
use Rattle.icu_decimal.specs.Identifiers.{Identifier}
use Rattle.icu_decimal.specs.Reading.{is_same}
use Rattle.locale_numbers_tables.specs.Keys.{same_key}

pub same_keys : (a b : Identifier) → Decides (same_key a b) (a ≡ b)
same_keys a b = Decides-like (same_key a b)
    (λ h i. record { locale = h.0 i; attributes = h.1 i })
    (λ h. (ap (λ k. k.locale) h, ap (λ k. k.attributes) h))
    (Decides-and _ _ (same_data_locales a.locale b.locale) (bytes_eq-Decides a.attributes b.attributes))

pub is_same_symmetric : (a b : PluralCategory) → is_same a b ≡ is_same b a
is_same_symmetric Zero Zero = refl
is_same_symmetric Zero One = refl
is_same_symmetric Zero Two = refl
is_same_symmetric Zero Few = refl
is_same_symmetric Zero Many = refl
is_same_symmetric Zero Other = refl
is_same_symmetric One Zero = refl
is_same_symmetric One One = refl
is_same_symmetric One Two = refl
is_same_symmetric One Few = refl
is_same_symmetric One Many = refl
is_same_symmetric One Other = refl
is_same_symmetric Two Zero = refl
is_same_symmetric Two One = refl
is_same_symmetric Two Two = refl
is_same_symmetric Two Few = refl
is_same_symmetric Two Many = refl
is_same_symmetric Two Other = refl
is_same_symmetric Few Zero = refl
is_same_symmetric Few One = refl
is_same_symmetric Few Two = refl
is_same_symmetric Few Few = refl
is_same_symmetric Few Many = refl
is_same_symmetric Few Other = refl
is_same_symmetric Many Zero = refl
is_same_symmetric Many One = refl
is_same_symmetric Many Two = refl
is_same_symmetric Many Few = refl
is_same_symmetric Many Many = refl
is_same_symmetric Many Other = refl
is_same_symmetric Other Zero = refl
is_same_symmetric Other One = refl
is_same_symmetric Other Two = refl
is_same_symmetric Other Few = refl
is_same_symmetric Other Many = refl
is_same_symmetric Other Other = refl
