-- Which tables are readable: the first character of the text before exponents.
use Rattle.std.proofs.Common.{◌≡◌, ◌==◌, ℕ, Bool, true, false, not, ◌&&◌, List, [], ◌∷◌, is_none, sym, ap, ◌∙◌}
use Rattle.std.specs.List.{list_all}
use Rattle.std.specs.Str.{IsUtf8}
use Rattle.icu_decimal_plain.specs.PlainText.{Tables}
use Rattle.icu_decimal_reading.specs.Readable.{digit_of}
use Rattle.icu_decimal_reading.specs.ReadingLaws.{AreTables}
use Rattle.icu_decimal_scientific.specs.ScientificReading.{AreScientificTexts, begins_apart, lacks}
use Rattle.icu_decimal_scientific.specs.ExponentialText.{ScientificSettings}

-- ---- steps of the test whether a character is in a text

pub lacks_not : (mark c : ℕ) (cs rest : List ℕ) → cs ≡ c ∷ rest → (c == mark) ≡ true → false ≡ list_all (λ d. not (d == mark)) cs
lacks_not mark c cs rest is same = sym (ap (list_all (λ d. not (d == mark))) is ∙ ap (λ b. not b && list_all (λ d. not (d == mark)) rest) same)

pub lacks_more : (mark c : ℕ) (cs rest : List ℕ) (whole : Bool) → cs ≡ c ∷ rest → (c == mark) ≡ false → list_all (λ d. not (d == mark)) cs ≡ whole → list_all (λ d. not (d == mark)) rest ≡ whole
lacks_more mark c cs rest whole is other before = sym (ap (list_all (λ d. not (d == mark))) is ∙ ap (λ b. not b && list_all (λ d. not (d == mark)) rest) other) ∙ before

pub lacks_end : (mark : ℕ) (cs : List ℕ) (whole : Bool) → cs ≡ [] → list_all (λ d. not (d == mark)) cs ≡ whole → true ≡ whole
lacks_end mark cs whole is before = sym (ap (list_all (λ d. not (d == mark))) is) ∙ before

-- ---- the text before exponents

pub apart_some : (t : Tables) (cs rest : List ℕ) (c : ℕ) → cs ≡ c ∷ rest → begins_apart t cs ≡ (is_none (digit_of t.digits c) && (lacks c t.symbols.strings.decimal_separator && lacks c t.symbols.strings.grouping_separator))
apart_some t cs rest c is = ap (begins_apart t) is

pub apart_none : (t : Tables) (cs : List ℕ) → cs ≡ [] → false ≡ begins_apart t cs
apart_none t cs is = sym (ap (begins_apart t) is)

pub are_scientific_texts : (s : ScientificSettings) → AreTables s.tables → IsUtf8 s.separator → AreTables s.exponents → AreScientificTexts s
are_scientific_texts s tables separator exponents = record { tables = tables; separator = separator; exponents = exponents }
