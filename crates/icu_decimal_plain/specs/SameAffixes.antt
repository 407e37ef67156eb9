-- When two values with a sign are one: where the values are, and the affixes.
-- Defined in docs/plain-text.md, "Affixes".
-- Cited by `==` of `FormattedSign`.
use Rattle.std.specs.Prelude.{Bool, ◌&&◌, nat_eq}
use Rattle.std.proofs.Common.{◌≡◌, ap, Decides}
use Rattle.std.specs.Cmp.{IsEquivalence, decided}
use Rattle.std.specs.Cmp.Lexicographic.{pointwise, bytes_decides}
use Rattle.std.proofs.lemmas.Bool.Decides.{Decides-and, Decides-like}
use Rattle.writeable.specs.PartName.{PartName}
use Rattle.icu_decimal_plain.specs.Affixes.{AffixTexts}

abbrev pub same_part : PartName → PartName → Bool
same_part a b = pointwise nat_eq a.category b.category && pointwise nat_eq a.value b.value

abbrev pub same_affixes : AffixTexts → AffixTexts → Bool
same_affixes a b = same_part a.part b.part && (pointwise nat_eq a.prefix b.prefix && pointwise nat_eq a.suffix b.suffix)

same_part_decides : (a b : PartName) → Decides (same_part a b) (a ≡ b)
same_part_decides a b = Decides-like (same_part a b)
    (λ h i. record { category = h.0 i; value = h.1 i })
    (λ e. (ap (λ p. p.category) e, ap (λ p. p.value) e))
    (Decides-and _ _ (bytes_decides a.category b.category) (bytes_decides a.value b.value))

same_affixes_decides : (a b : AffixTexts) → Decides (same_affixes a b) (a ≡ b)
same_affixes_decides a b = Decides-like (same_affixes a b)
    (λ h i. record { part = h.0 i; prefix = h.1.0 i; suffix = h.1.1 i })
    (λ e. (ap (λ p. p.part) e, (ap (λ p. p.prefix) e, ap (λ p. p.suffix) e)))
    (Decides-and _ _ (same_part_decides a.part b.part)
    (Decides-and _ _ (bytes_decides a.prefix b.prefix) (bytes_decides a.suffix b.suffix)))

pub same_affixes_equiv : IsEquivalence same_affixes
same_affixes_equiv = decided same_affixes same_affixes_decides
