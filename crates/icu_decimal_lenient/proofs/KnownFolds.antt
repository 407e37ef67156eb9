-- Values from outside that a wrong fold does not survive: the table of docs/reading.md.
use Rattle.std.proofs.Common.{◌≡◌, ℕ, List, [], ◌∷◌, ◌++◌, refl}
use Rattle.std.specs.Prelude.{codes}
use Rattle.icu_decimal_lenient.specs.Folding.{fold_of, folded_chars}
use Rattle.icu_decimal_lenient.specs.LenientReading.{filled}

abbrev arabic : List ℕ
arabic = 0x660 ∷ 0x661 ∷ 0x662 ∷ 0x663 ∷ 0x664 ∷ 0x665 ∷ 0x666 ∷ 0x667 ∷ 0x668 ∷ 0x669 ∷ []

-- what is typed, folded

latin_sample : folded_chars (codes "0123456789") (0x2212 ∷ 0xFF11 ∷ 0xA0 ∷ 0x200E ∷ codes "5") ≡ codes "-1 5"
unfolding fold_of
latin_sample = refl

arabic_sample : folded_chars arabic (0x61C ∷ 0x2D ∷ 0x661 ∷ 0x66C ∷ codes "234") ≡ codes "-1" ++ (0x66C ∷ codes "234")
unfolding fold_of
arabic_sample = refl

-- each row of the table: its first and its last characters

marks : folded_chars arabic (0x61C ∷ 0x200E ∷ 0x200F ∷ 0x202A ∷ 0x202E ∷ 0x2066 ∷ 0x2069 ∷ []) ≡ []
unfolding fold_of
marks = refl

minus_signs : folded_chars arabic (0x2D ∷ 0x2010 ∷ 0x2013 ∷ 0x207B ∷ 0x208B ∷ 0x2212 ∷ 0x2796 ∷ 0xFE63 ∷ 0xFF0D ∷ []) ≡ codes "---------"
unfolding fold_of
minus_signs = refl

plus_signs : folded_chars arabic (0x2B ∷ 0x207A ∷ 0x208A ∷ 0x2795 ∷ 0xFB29 ∷ 0xFE62 ∷ 0xFF0B ∷ []) ≡ codes "+++++++"
unfolding fold_of
plus_signs = refl

apostrophes : folded_chars arabic (0x27 ∷ 0x2018 ∷ 0x2019 ∷ 0x2BC ∷ 0xFF07 ∷ []) ≡ codes "'''''"
unfolding fold_of
apostrophes = refl

spaces : folded_chars arabic (0x20 ∷ 0xA0 ∷ 0x1680 ∷ 0x2000 ∷ 0x200A ∷ 0x202F ∷ 0x205F ∷ 0x3000 ∷ []) ≡ codes "        "
unfolding fold_of
spaces = refl

separators : folded_chars arabic (0x2E ∷ 0x2024 ∷ 0xFE52 ∷ 0xFF0E ∷ 0x2C ∷ 0xFE50 ∷ 0xFF0C ∷ []) ≡ codes "....,,,"
unfolding fold_of
separators = refl

digits : folded_chars arabic (0x660 ∷ 0x669 ∷ 0xFF10 ∷ 0xFF19 ∷ 0x30 ∷ 0x39 ∷ []) ≡ codes "090909"
unfolding fold_of
digits = refl

-- what the table does not have: separators of Arabic, digits of another system, longer dashes, a letter
others : folded_chars (codes "0123456789") (0x60C ∷ 0x66B ∷ 0x66C ∷ 0x661 ∷ 0x2014 ∷ 0x2015 ∷ 0x65 ∷ []) ≡ 0x60C ∷ 0x66B ∷ 0x66C ∷ 0x661 ∷ 0x2014 ∷ 0x2015 ∷ 0x65 ∷ []
unfolding fold_of
others = refl

-- filled

point_before : filled (codes ".") (codes "-.5") ≡ codes "-0.5"
point_before = refl

point_after : filled (codes ".") (codes "1,234.") ≡ codes "1,234"
point_after = refl

point_alone : filled (codes ".") (codes ".") ≡ codes "."
point_alone = refl

point_twice : filled (codes ".") (codes "1.5.") ≡ codes "1.5."
point_twice = refl

points_at_both_ends : filled (codes ".") (codes ".5.") ≡ codes "0.5."
points_at_both_ends = refl
