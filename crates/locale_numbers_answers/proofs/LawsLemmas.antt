-- Each text has one reading, and the function answers it.
use Rattle.std.proofs.Common.{◌≡◌, ◌==◌, Bool, true, false, cond, List, [], ◌∷◌, ◌++◌, ℕ, Option, Some, None, refl, sym, ap, subst}
use Rattle.std.proofs.lemmas.Bool.{eqb-true, eqb-false}
use Rattle.fixed_decimal.specs.declared.Sign.{Sign}
use Rattle.fixed_decimal.specs.declared.Sign.TheVariants.{None as Unsigned, Positive, Negative}
use Rattle.fixed_decimal.specs.SignedText.{plus, sign_text, StartsNoSign}
use Rattle.fixed_decimal.specs.NumberText.{minus, Parts}
use Rattle.fixed_decimal.proofs.SignedTextLemmas.{no_signed_text}
use Rattle.locale_numbers_answers.specs.Laws.{IsReading, HasOneReading}
use Rattle.locale_numbers_answers.specs.NumberReading.{Reading, number, beyond, nothing, parts_of, is_within, reading_by, reading_of}
use Rattle.locale_numbers_answers.proofs.PartsLemmas.{IsPartsOf, parts_right}
use Rattle.locale_numbers_answers.proofs.ReadingLemmas.{within_shown, within_tested}
use Rattle.locale_numbers_answers.proofs.NumberReadingLemmas.{signed_number, signed_beyond, signed_nothing}

-- the reading after a sign
after_sign : (text rest : List ℕ) (sign : Sign) → text ≡ sign_text sign ++ rest → (sign ≡ Unsigned → StartsNoSign rest) → IsReading text (reading_by sign (parts_of rest))
after_sign text rest sign whole starts = at (parts_of rest) (parts_right rest)
  where
    test : (parts : Parts) (b : Bool) → is_within parts ≡ b → IsPartsOf rest (Some parts) → IsReading text (reading_by sign (Some parts))
    test parts true inside spells = rw inside (record { rest = rest; whole = whole; reads = record { parts = parts; spells = spells; within = within_shown parts inside; is = refl } })
    test parts false past spells = rw past (record { sign = sign; rest = rest; whole = whole; beyond = record { parts = parts; spells = spells; beyond = λ within. let inside : is_within parts ≡ true = within_tested parts within in cc } })

    at : (found : Option Parts) → IsPartsOf rest found → IsReading text (reading_by sign found)
    at None lacks = no_signed_text text rest sign whole starts lacks
    at (Some parts) spells = test parts (is_within parts) refl spells

pub reading_is : (text : List ℕ) → IsReading text (reading_of text)
reading_is [] = after_sign [] [] Unsigned refl (λ _. tt)
reading_is (c ∷ cs) = at (c == plus) (c == minus) refl refl
  where
    at : (a b : Bool) → (c == plus) ≡ a → (c == minus) ≡ b
        → IsReading (c ∷ cs) (cond a (reading_by Positive (parts_of cs)) (cond b (reading_by Negative (parts_of cs)) (reading_by Unsigned (parts_of (c ∷ cs)))))
    at true b first second = after_sign (c ∷ cs) cs Positive (ap (λ x. x ∷ cs) (eqb-true c plus first)) (λ never. absurd (cc))
    at false true first second = after_sign (c ∷ cs) cs Negative (ap (λ x. x ∷ cs) (eqb-true c minus second)) (λ never. absurd (cc))
    at false false first second = after_sign (c ∷ cs) (c ∷ cs) Unsigned refl (λ _. (eqb-false c minus second, eqb-false c plus first))

reading_is_one : (text : List ℕ) (reading : Reading) → IsReading text reading → reading ≡ reading_of text
reading_is_one text (number value) reads = sym (signed_number text value reads)
reading_is_one text beyond reads = sym (signed_beyond text reads)
reading_is_one text nothing reads = sym (signed_nothing text reads)

pub one_reading : HasOneReading
one_reading text reading = (reading_is_one text reading, λ is. subst (IsReading text) (sym is) (reading_is text))
