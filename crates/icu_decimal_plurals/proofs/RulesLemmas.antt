-- What is read of the texts that are given for a category.
use Rattle.std.proofs.Common.{refl, ◌≡◌, ◌<◌, ◌≤◌, arith, ℕ, length, Option, None, Some, Bool, true, false, List, [], ◌∷◌, ap, ◌∙◌, cond}
use Rattle.icu_decimal_plurals.specs.declared.category.PluralCategory.{PluralCategory}
use Rattle.icu_decimal_plurals.specs.declared.category.PluralCategory.TheVariants.{Zero, One, Two, Few, Many, Other}
use Rattle.icu_decimal_plurals.specs.Conditions.{ConditionData}
use Rattle.icu_decimal_plurals.specs.Reading.{MayBeRules, NamesOther, condition_by, is_free, is_same, rules_of, rules_with, texts_for}
use Rattle.icu_decimal_plurals.specs.Rules.{Rules}

pub no_text : (category : PluralCategory) (given : List (PluralCategory × List ℕ)) → is_same Other category ≡ false → NamesOther given → texts_for category given ≡ []
no_text category [] apart named = refl
no_text category ((other, text) ∷ rest) apart named =
    let none : is_same other category ≡ false = ap (λ k. is_same k category) named.0 ∙ apart in
    ap (λ b. cond b (text ∷ texts_for category rest) (texts_for category rest)) none ∙ no_text category rest apart named.1

pub two_conditions : (texts : List (List ℕ)) → 1 < length texts → condition_by texts ≡ None
two_conditions [] h = absurd (omega arith)
two_conditions (text ∷ []) h = absurd (omega arith)
two_conditions (text ∷ other ∷ rest) h = refl

pub two_are_not_free : (texts : List (List ℕ)) → 1 < length texts → is_free texts ≡ false
two_are_not_free [] h = absurd (omega arith)
two_are_not_free (text ∷ []) h = absurd (omega arith)
two_are_not_free (text ∷ other ∷ rest) h = refl

free_once : (texts : List (List ℕ)) → is_free texts ≡ true → length texts ≤ 1
free_once [] free = omega arith
free_once (text ∷ []) free = omega arith
free_once (text ∷ other ∷ rest) free = let apart : false ≡ true = free in absurd cc

-- six categories, each of them given once at most
pub once_each : (given : List (PluralCategory × List ℕ)) → is_free (texts_for Other given) ≡ true → length (texts_for Zero given) ≤ 1 → length (texts_for One given) ≤ 1
    → length (texts_for Two given) ≤ 1 → length (texts_for Few given) ≤ 1 → length (texts_for Many given) ≤ 1 → MayBeRules given
once_each given free zero one two few many = record { free = free; once = each }
  where
    each : (category : PluralCategory) → length (texts_for category given) ≤ 1
    each Zero = zero
    each One = one
    each Two = two
    each Few = few
    each Many = many
    each Other = free_once (texts_for Other given) free

abbrev Read : Type 0
Read = Option (Option ConditionData)

none_second : (a c d e : Read) → rules_with a None c d e ≡ None
none_second None c d e = refl
none_second (Some a) c d e = refl

none_third : (a b d e : Read) → rules_with a b None d e ≡ None
none_third None b d e = refl
none_third (Some a) None d e = refl
none_third (Some a) (Some b) d e = refl

none_fourth : (a b c e : Read) → rules_with a b c None e ≡ None
none_fourth None b c e = refl
none_fourth (Some a) None c e = refl
none_fourth (Some a) (Some b) None e = refl
none_fourth (Some a) (Some b) (Some c) e = refl

none_fifth : (a b c d : Read) → rules_with a b c d None ≡ None
none_fifth None b c d = refl
none_fifth (Some a) None c d = refl
none_fifth (Some a) (Some b) None d = refl
none_fifth (Some a) (Some b) (Some c) None = refl
none_fifth (Some a) (Some b) (Some c) (Some d) = refl

none_anyway : (free : Bool) (rules : Option Rules) → rules ≡ None → cond free rules None ≡ None
none_anyway true rules none = none
none_anyway false rules none = refl

-- where `other` has a condition, or a category is given twice, there are no rules
pub no_rules_unfree : (given : List (PluralCategory × List ℕ)) → is_free (texts_for Other given) ≡ false → rules_of given ≡ None
no_rules_unfree given unfree =
    let read : PluralCategory → Read = λ category. condition_by (texts_for category given) in
    ap (λ b. cond b (rules_with (read Zero) (read One) (read Two) (read Few) (read Many)) None) unfree

pub no_rules_zero : (given : List (PluralCategory × List ℕ)) → 1 < length (texts_for Zero given) → rules_of given ≡ None
no_rules_zero given twice =
    let read : PluralCategory → Read = λ category. condition_by (texts_for category given) in
    none_anyway (is_free (texts_for Other given)) _ (ap (λ r. rules_with r (read One) (read Two) (read Few) (read Many)) (two_conditions (texts_for Zero given) twice))

pub no_rules_one : (given : List (PluralCategory × List ℕ)) → 1 < length (texts_for One given) → rules_of given ≡ None
no_rules_one given twice =
    let read : PluralCategory → Read = λ category. condition_by (texts_for category given) in
    none_anyway (is_free (texts_for Other given)) _
    (ap (λ r. rules_with (read Zero) r (read Two) (read Few) (read Many)) (two_conditions (texts_for One given) twice) ∙ none_second (read Zero) (read Two) (read Few) (read Many))

pub no_rules_two : (given : List (PluralCategory × List ℕ)) → 1 < length (texts_for Two given) → rules_of given ≡ None
no_rules_two given twice =
    let read : PluralCategory → Read = λ category. condition_by (texts_for category given) in
    none_anyway (is_free (texts_for Other given)) _
    (ap (λ r. rules_with (read Zero) (read One) r (read Few) (read Many)) (two_conditions (texts_for Two given) twice) ∙ none_third (read Zero) (read One) (read Few) (read Many))

pub no_rules_few : (given : List (PluralCategory × List ℕ)) → 1 < length (texts_for Few given) → rules_of given ≡ None
no_rules_few given twice =
    let read : PluralCategory → Read = λ category. condition_by (texts_for category given) in
    none_anyway (is_free (texts_for Other given)) _
    (ap (λ r. rules_with (read Zero) (read One) (read Two) r (read Many)) (two_conditions (texts_for Few given) twice) ∙ none_fourth (read Zero) (read One) (read Two) (read Many))

pub no_rules_many : (given : List (PluralCategory × List ℕ)) → 1 < length (texts_for Many given) → rules_of given ≡ None
no_rules_many given twice =
    let read : PluralCategory → Read = λ category. condition_by (texts_for category given) in
    none_anyway (is_free (texts_for Other given)) _
    (ap (λ r. rules_with (read Zero) (read One) (read Two) (read Few) r) (two_conditions (texts_for Many given) twice) ∙ none_fifth (read Zero) (read One) (read Two) (read Few))
