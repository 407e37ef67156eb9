-- Which words are readable: the last character of a text, and the steps by which two texts are compared.
use Rattle.std.proofs.Common.{◌≡◌, ◌==◌, ℕ, Bool, true, false, ◌&&◌, List, [], ◌∷◌, ◌++◌, length, reverse, encode_utf8, IfSome, refl, sym, ap, ◌∙◌, arith}
use Rattle.std.proofs.lemmas.Bool.{eq-eqb, ne_eqb}
use Rattle.std.proofs.lemmas.List.{append-nil, reverse-append}
use Rattle.std.proofs.lemmas.Str.{IsUtf8-encode, chars-append, chars-nil, chars_past_char}
use Rattle.std.specs.Char.{IsScalar}
use Rattle.std.specs.Str.{IsUtf8, chars}
use Rattle.icu_decimal_plurals.specs.declared.category.PluralCategory.{PluralCategory}
use Rattle.icu_decimal_plurals.specs.declared.category.PluralCategory.TheVariants.{Zero, One, Two, Few, Many, Other}
use Rattle.icu_decimal_reading.specs.ReadingLaws.{AreTables}
use Rattle.icu_dimension_words.specs.Words.{own_word}
use Rattle.icu_dimension_words.specs.WordsReading.{AreWordTexts, IsWordText, is_first, may_clash}
use Rattle.icu_dimension_words.specs.WordsText.{WordSettings}

-- ---- the last character

one_char : (c : ℕ) → IsScalar c → chars (encode_utf8 c) ≡ c ∷ []
one_char c scalar = chars_past_char (encode_utf8 c) [] c (IsUtf8-encode c scalar) (sym (append-nil (encode_utf8 c))) ∙ ap (λ cs. c ∷ cs) chars-nil

pub last_character : (text rest : List ℕ) (c : ℕ) → IsUtf8 rest → IsScalar c → text ≡ rest ++ encode_utf8 c → reverse (chars text) ≡ c ∷ reverse (chars rest)
last_character text rest c utf8 scalar is =
    ap (λ bytes. reverse (chars bytes)) is
    ∙ ap reverse (chars-append rest (encode_utf8 c) utf8)
    ∙ reverse-append (chars rest) (chars (encode_utf8 c))
    ∙ ap (λ cs. reverse cs ++ reverse (chars rest)) (one_char c scalar)

empty_text : (text : List ℕ) → length text ≡ 0 → text ≡ []
empty_text [] none = refl
empty_text (b ∷ bs) none = absurd (omega (arith, none))

pub no_characters : (text : List ℕ) → length text ≡ 0 → reverse (chars text) ≡ []
no_characters text none = ap (λ bytes. reverse (chars bytes)) (empty_text text none) ∙ ap reverse chars-nil

-- ---- whether it is a character

pub first_some : (mark c : ℕ) (cs rest : List ℕ) → cs ≡ c ∷ rest → is_first mark cs ≡ (c == mark)
first_some mark c cs rest is = ap (is_first mark) is

pub first_none : (mark : ℕ) (cs : List ℕ) → cs ≡ [] → false ≡ is_first mark cs
first_none mark cs is = sym (ap (is_first mark) is)

-- ---- two texts, character by character

pub clash_more : (good : ℕ → Bool) (cs xs ds ys : List ℕ) (c d : ℕ) (whole : Bool) → cs ≡ c ∷ xs → ds ≡ d ∷ ys → c ≡ d → may_clash good cs ds ≡ whole → may_clash good xs ys ≡ whole
clash_more good cs xs ds ys c d whole is other same before =
    sym (ap (λ l. may_clash good l ds) is ∙ ap (may_clash good (c ∷ xs)) other ∙ ap (λ b. b && may_clash good xs ys) (eq-eqb c d same)) ∙ before

pub clash_not : (good : ℕ → Bool) (cs xs ds ys : List ℕ) (c d : ℕ) (whole : Bool) → cs ≡ c ∷ xs → ds ≡ d ∷ ys → (c ≡ d → ⊥) → may_clash good cs ds ≡ whole → false ≡ whole
clash_not good cs xs ds ys c d whole is other differ before =
    sym (ap (λ l. may_clash good l ds) is ∙ ap (may_clash good (c ∷ xs)) other ∙ ap (λ b. b && may_clash good xs ys) (ne_eqb c d differ)) ∙ before

pub clash_longer : (good : ℕ → Bool) (cs xs ds : List ℕ) (c : ℕ) (whole : Bool) → cs ≡ c ∷ xs → ds ≡ [] → may_clash good cs ds ≡ whole → good c ≡ whole
clash_longer good cs xs ds c whole is other before = sym (ap (λ l. may_clash good l ds) is ∙ ap (may_clash good (c ∷ xs)) other) ∙ before

pub clash_shorter : (good : ℕ → Bool) (cs ds ys : List ℕ) (d : ℕ) (whole : Bool) → cs ≡ [] → ds ≡ d ∷ ys → may_clash good cs ds ≡ whole → good d ≡ whole
clash_shorter good cs ds ys d whole is other before = sym (ap (λ l. may_clash good l ds) is ∙ ap (may_clash good []) other) ∙ before

pub clash_end : (good : ℕ → Bool) (cs ds : List ℕ) (whole : Bool) → cs ≡ [] → ds ≡ [] → may_clash good cs ds ≡ whole → true ≡ whole
clash_end good cs ds whole is other before = sym (ap (λ l. may_clash good l ds) is ∙ ap (may_clash good []) other) ∙ before

-- ---- texts

pub are_word_texts : (s : WordSettings) → AreTables s.tables → IfSome (own_word s.words Zero) IsWordText → IfSome (own_word s.words One) IsWordText → IfSome (own_word s.words Two) IsWordText → IfSome (own_word s.words Few) IsWordText → IfSome (own_word s.words Many) IsWordText → IfSome (own_word s.words Other) IsWordText → AreWordTexts s
are_word_texts s tables zero one two few many other = record { tables = tables; words = by }
  where
    by : (category : PluralCategory) → IfSome (own_word s.words category) IsWordText
    by Zero = zero
    by One = one
    by Two = two
    by Few = few
    by Many = many
    by Other = other
