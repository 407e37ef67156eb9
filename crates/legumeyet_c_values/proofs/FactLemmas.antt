-- What is left of characters and of spaced words to be written.
use Rattle.std.proofs.Common.{◌≡◌, ℕ, ◌+◌, ◌<◌, ◌≤◌, List, [], ◌∷◌, ◌++◌, drop, get_or, length, Option, Some, ap, sym, ◌∙◌}
use Rattle.std.specs.Borrow.{Bor}
use Rattle.std.specs.Prelude.{encode_utf8, encode_utf8_all, flat_map, option_map}
use Rattle.std.proofs.lemmas.List.{drop_all, drop_more}
use Rattle.icu_plurals.specs.Categories.{word}
use Rattle.icu_plurals.specs.ListedRules.{categories_of}
use Rattle.icu_plurals.specs.Rules.{Rules}
use Rattle.icu_plurals.specs.declared.PluralCategory.{PluralCategory}
use Rattle.writeable.specs.AnnotatedText.{Event, bytes}
use Rattle.writeable.proofs.AnnotatedTextLemmas.{bytes_joined, no_bytes}
use Rattle.legumeyet_c_values.specs.Facts.{Told, blank, fact_text, spaced, spaced_words, told_of}
use Rattle.legumeyet_c_values.specs.declared.fact_words.Fact.{Fact}
use Rattle.legumeyet_c_values.specs.declared.fact_words.Fact.TheVariants.{Categories}
use Rattle.legumeyet_c_values.specs.declared.facts.Facts.{Facts}

-- the character at i, and those after it
pub next_character : (characters : List ℕ) (i character : ℕ) → i < length characters → character ≡ get_or characters i character
    → bytes (encode_utf8_all (drop i characters)) ≡ bytes (encode_utf8 character) ++ bytes (encode_utf8_all (drop (i + 1) characters))
next_character characters i character within is =
    ap (λ (l : List ℕ). bytes (encode_utf8_all l)) (drop_more characters i character within)
    ∙ ap (λ (c : ℕ). bytes (encode_utf8_all (c ∷ drop (i + 1) characters))) (sym is)
    ∙ bytes_joined (encode_utf8 character) (encode_utf8_all (drop (i + 1) characters))

pub no_character : (characters : List ℕ) (i : ℕ) → length characters ≤ i → bytes (encode_utf8_all (drop i characters)) ≡ []
no_character characters i past = ap (λ (l : List ℕ). bytes (encode_utf8_all l)) (drop_all i characters past) ∙ no_bytes

-- the next category, and those after it
pub next_category : (category : PluralCategory) (rest : List PluralCategory)
    → bytes (flat_map spaced (category ∷ rest)) ≡ (bytes (blank ∷ []) ++ bytes (word category)) ++ bytes (flat_map spaced rest)
next_category category rest =
    bytes_joined (spaced category) (flat_map spaced rest) ∙ ap (λ (es : List Event). es ++ bytes (flat_map spaced rest)) (bytes_joined (blank ∷ []) (word category))

-- all of them
pub all_categories : (all : List PluralCategory) (first : PluralCategory) (others : List PluralCategory) → all ≡ first ∷ others
    → bytes (word first) ++ bytes (flat_map spaced others) ≡ bytes (spaced_words all)
all_categories all first others is =
    sym (ap (λ (l : List PluralCategory). bytes (spaced_words l)) is ∙ bytes_joined (word first) (flat_map spaced others))

-- ---- what is told

-- of a fact that is known
pub fact_told : (told : Told) (fact known : Fact) (text : List ℕ) → fact ≡ known → Some text ≡ fact_text told known → fact_text told fact ≡ Some text
fact_told told fact known text is same = ap (λ (f : Fact). fact_text told f) is ∙ sym same

pub categories_told : (facts : Facts) (fact : Fact) (rules : Bor Rules) (text : List ℕ) → fact ≡ Categories → facts.rules ≡ Some rules → text ≡ spaced_words (categories_of rules.now)
    → fact_text (told_of facts) fact ≡ Some text
categories_told facts fact rules text is some same =
    fact_told (told_of facts) fact Categories text is
    (ap Some same ∙ sym (ap (λ (o : Option (Bor Rules)). option_map (λ rules. spaced_words (categories_of rules)) (option_map (λ rules. rules.now) o)) some))
