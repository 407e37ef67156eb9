-- Words between no texts are the same words: `specs/FoundWords.antt`.
use Rattle.std.proofs.Common.{◌≡◌, ℕ, List, [], Option, None, Some, option_map, refl, ap, ◌∙◌}
use Rattle.std.specs.Prelude.{unwrap_or}
use Rattle.std.proofs.lemmas.List.{append-nil}
use Rattle.icu_decimal.specs.declared.plurals.PluralCategory.{PluralCategory}
use Rattle.icu_decimal.specs.declared.plurals.PluralCategory.TheVariants.{Zero, One, Two, Few, Many, Other}
use Rattle.icu_dimension_words.specs.Words.{Pair, Word, Words, around, bare}
use Rattle.locale_numbers_words.specs.Categories.{Values, of_category}
use Rattle.locale_numbers_words.specs.FoundLaws.{word_of_category}
use Rattle.locale_numbers_words.specs.FoundWords.{as_pair, between_all, named, pair_named, slot_named, word_between, words_of}
use Rattle.locale_numbers_words.specs.SlotTexts.{pair_of}

word_alone : (w : Word) → word_between (pair_of [] []) w ≡ w
word_alone (around pair) = ap (λ after. around (pair_of pair.before after)) (append-nil pair.after)
word_alone (bare text) = ap bare (append-nil text)

words_alone : (o : Option Word) → option_map (word_between (pair_of [] [])) o ≡ o
words_alone None = refl
words_alone (Some w) = ap Some (word_alone w)

all_alone : (v : Values Word) → between_all (pair_of [] []) v ≡ v
all_alone v = λ i. record {
  zero = words_alone v.zero i;
  one = words_alone v.one i;
  two = words_alone v.two i;
  few = words_alone v.few i;
  many = words_alone v.many i;
  other = word_alone v.other i;
}

-- words that are made between no texts
pub alone_words : (words : Words) (outer : Pair) (made own v : Values Word) → words ≡ words_of made → made ≡ between_all outer own → outer ≡ pair_of [] []
    → own ≡ v → words ≡ words_of v
alone_words words outer made own v is between none same =
    is ∙ ap words_of (between ∙ (ap (λ texts. between_all texts own) none ∙ (all_alone own ∙ same)))

-- ---- names in patterns

own_slot : (p : Option Pair) (n : Option (List ℕ)) (pattern : Pair) (name : List ℕ)
    → unwrap_or (slot_named p n pattern name) (around (pair_named pattern name)) ≡ around (pair_named (unwrap_or p pattern) (unwrap_or n name))
own_slot None None pattern name = refl
own_slot None (Some own) pattern name = refl
own_slot (Some own) None pattern name = refl
own_slot (Some own) (Some own_name) pattern name = refl

own_pair : (p : Option Pair) (n : Option (List ℕ)) (pattern : Pair) (name : List ℕ)
    → unwrap_or (option_map around (option_map as_pair (slot_named p n pattern name))) (around (pair_named pattern name))
    ≡ around (pair_named (unwrap_or p pattern) (unwrap_or n name))
own_pair None None pattern name = refl
own_pair None (Some own) pattern name = refl
own_pair (Some own) None pattern name = refl
own_pair (Some own) (Some own_name) pattern name = refl

pub names_in_patterns : (p : Values Pair) (n : Values (List ℕ)) (category : PluralCategory)
    → word_of_category (words_of (named p n)) category ≡ around (pair_named (of_category p category) (of_category n category))
names_in_patterns p n Zero = own_slot p.zero n.zero p.other n.other
names_in_patterns p n One = own_slot p.one n.one p.other n.other
names_in_patterns p n Two = own_slot p.two n.two p.other n.other
names_in_patterns p n Few = own_pair p.few n.few p.other n.other
names_in_patterns p n Many = own_pair p.many n.many p.other n.other
names_in_patterns p n Other = refl
