-- When two patterns are one: both without a placeholder or both with one, and the same texts.
-- Defined in docs/compact-text.md, "Patterns".
-- Cited by `==` of `Pattern` and `Interpolated`.
use Rattle.std.specs.Prelude.{ℕ, Bool, false, ◌&&◌, List, []}
use Rattle.std.proofs.Common.{◌≡◌, ap, Decides}
use Rattle.std.specs.Cmp.{IsEquivalence, decided}
use Rattle.std.specs.Cmp.Lexicographic.{bytes_decides}
use Rattle.std.specs.Str.{bytes_eq}
use Rattle.std.proofs.lemmas.Bool.Decides.{Decides-and, Decides-like}
use Rattle.icu_decimal_patterns.specs.Pattern.{PatternText, literal, around}

abbrev pub same_pattern : PatternText → PatternText → Bool
same_pattern (literal a) (literal b) = bytes_eq a b
same_pattern (literal a) (around c d) = false
same_pattern (around a b) (literal c) = false
same_pattern (around a b) (around c d) = bytes_eq a c && bytes_eq b d

text_in : PatternText → List ℕ
text_in (literal a) = a
text_in (around a b) = a

behind : PatternText → List ℕ
behind (literal a) = []
behind (around a b) = b

pub same_pattern_decides : (a b : PatternText) → Decides (same_pattern a b) (a ≡ b)
unfolding text_in behind
same_pattern_decides (literal a) (literal b) = Decides-like (bytes_eq a b) (λ h. ap literal h) (λ e. ap text_in e) (bytes_decides a b)
same_pattern_decides (literal a) (around c d) = (λ e. cc, λ e. cc)
same_pattern_decides (around a b) (literal c) = (λ e. cc, λ e. cc)
same_pattern_decides (around a b) (around c d) = Decides-like (bytes_eq a c && bytes_eq b d)
    (λ h i. around (h.0 i) (h.1 i))
    (λ e. (ap text_in e, ap behind e))
    (Decides-and _ _ (bytes_decides a c) (bytes_decides b d))

pub same_pattern_equiv : IsEquivalence same_pattern
same_pattern_equiv = decided same_pattern same_pattern_decides
