-- Which texts are a condition, and which lists of categories and texts are the rules of a language.
-- UTS 35, part 3 (numbers), section 5.1 (plural rules syntax); docs/plurals.md, "Reading rules".
-- Cited by `PluralRules::new`.
use Rattle.std.specs.Prelude.{◌≡◌, ⊤, ℕ, ◌≤◌, Bool, true, false, cond, ◌==◌, List, [], ◌∷◌, length, map, Option, None, Some, option_map, option_and_then}
use Rattle.std.specs.Borrow.{Bor}
use Rattle.std.specs.List.{before_first}
use Rattle.icu_decimal_plurals.specs.declared.category.PluralCategory.{PluralCategory}
use Rattle.icu_decimal_plurals.specs.declared.category.PluralCategory.TheVariants.{Zero, One, Two, Few, Many, Other}
use Rattle.icu_decimal_plurals.specs.Conditions.{ConditionData}
use Rattle.icu_decimal_plurals.specs.ConditionGrammar.{condition_of}
use Rattle.icu_decimal_plurals.specs.Rules.{Rules}
use Rattle.icu_decimal_plurals.specs.Tokens.{is_blank, tokens_of}

-- the character that begins the samples
abbrev pub samples_mark : ℕ
samples_mark = 64

abbrev pub before_samples : List ℕ → List ℕ
before_samples text = before_first (λ c. c == samples_mark) text

-- the condition that a text spells
abbrev pub condition_in : List ℕ → Option ConditionData
condition_in text = option_and_then condition_of (tokens_of (before_samples text))

abbrev pub is_same : PluralCategory → PluralCategory → Bool
is_same Zero Zero = true
is_same One One = true
is_same Two Two = true
is_same Few Few = true
is_same Many Many = true
is_same Other Other = true
is_same _ _ = false

-- categories and texts, as they are handed in
abbrev pub pairs_of : List (PluralCategory × Bor (List ℕ)) → List (PluralCategory × List ℕ)
pairs_of given = map (λ pair. (pair.0, pair.1.now)) given

-- the texts that are given for a category
abbrev pub texts_for : PluralCategory → List (PluralCategory × List ℕ) → List (List ℕ)
texts_for category [] = []
texts_for category ((other, text) ∷ rest) = cond (is_same other category) (text ∷ texts_for category rest) (texts_for category rest)

-- no text is no condition, one text is the condition that it spells, and two are refused
abbrev pub condition_by : List (List ℕ) → Option (Option ConditionData)
condition_by [] = Some None
condition_by (text ∷ []) = option_map (λ condition. Some condition) (condition_in text)
condition_by _ = None

-- for `other` at most one text is given, and it has no condition
abbrev pub is_free : List (List ℕ) → Bool
is_free [] = true
is_free (text ∷ []) = is_blank (before_samples text)
is_free _ = false

-- for no category two texts are given, and for `other` none that has a condition
pub record MayBeRules (given : List (PluralCategory × List ℕ)) : Type 0 where
  pub free : is_free (texts_for Other given) ≡ true
  pub once : (category : PluralCategory) → length (texts_for category given) ≤ 1

-- the rules of what is read for each category
abbrev pub rules_with : Option (Option ConditionData) → Option (Option ConditionData) → Option (Option ConditionData) → Option (Option ConditionData) → Option (Option ConditionData) → Option Rules
rules_with (Some zero) (Some one) (Some two) (Some few) (Some many) = Some (record { zero = zero; one = one; two = two; few = few; many = many })
rules_with _ _ _ _ _ = None

-- the rules that categories and their texts are
abbrev pub rules_of : List (PluralCategory × List ℕ) → Option Rules
rules_of given =
    let read : PluralCategory → Option (Option ConditionData) = λ category. condition_by (texts_for category given) in
    cond (is_free (texts_for Other given)) (rules_with (read Zero) (read One) (read Two) (read Few) (read Many)) None

-- no category but `other` is given
abbrev pub NamesOther : List (PluralCategory × List ℕ) → Type 0
NamesOther [] = ⊤
NamesOther ((category, text) ∷ rest) = (category ≡ Other) × NamesOther rest
