-- What the relations say of a text is what the function answers.
use Rattle.std.proofs.Common.{◌≡◌, ◌==◌, Bool, true, false, cond, List, [], ◌∷◌, ◌++◌, ℕ, Option, Some, None, refl, sym, ap, ◌∙◌, inl, inr}
use Rattle.std.proofs.lemmas.Bool.{eqb-true}
use Rattle.fixed_decimal.specs.declared.Sign.{Sign}
use Rattle.fixed_decimal.specs.declared.Sign.TheVariants.{None as Unsigned, Positive, Negative}
use Rattle.fixed_decimal.specs.SignedValue.{SignedValue}
use Rattle.fixed_decimal.specs.SignedText.{plus, sign_text, ReadsSigned, IsBeyondSigned, IsNoSignedText}
use Rattle.fixed_decimal.proofs.TextPartsLemmas.{no_sign}
use Rattle.fixed_decimal.specs.Number.{Number}
use Rattle.fixed_decimal.specs.NumberText.{minus, Parts, Spells, Reads, IsBeyond, IsNoText, number_of}
use Rattle.locale_numbers_answers.specs.NumberReading.{number, beyond, nothing, parts_of, is_within, reading_by, reading_of}
use Rattle.locale_numbers_answers.proofs.PartsLemmas.{IsPartsOf, parts_right}
use Rattle.locale_numbers_answers.proofs.ReadingLemmas.{parts_agree, numbers_agree, within_agree, within_shown, within_tested}

pub reads_number : (sign : Sign) (text : List ℕ) (value : Number) → Reads text value → reading_by sign (parts_of text) ≡ number (record { sign = sign; absolute = value })
reads_number sign text value read = at (parts_of text) (parts_right text)
  where
    at : (found : Option Parts) → IsPartsOf text found → reading_by sign found ≡ number (record { sign = sign; absolute = value })
    at None lacks = absurd (lacks read.parts read.spells)
    at (Some parts) spells =
        let agree = parts_agree text read.parts parts read.spells spells in
        let inside : is_within parts ≡ true = within_tested parts (within_agree read.parts parts agree read.within) in
        let same : number_of parts ≡ value = sym (read.is ∙ numbers_agree read.parts parts agree) in
        rw inside (ap (λ v. number (record { sign = sign; absolute = v })) same)

pub reads_beyond : (sign : Sign) (text : List ℕ) → IsBeyond text → reading_by sign (parts_of text) ≡ beyond
reads_beyond sign text read = at (parts_of text) (parts_right text)
  where
    outside : (parts : Parts) → (b : Bool) → is_within parts ≡ b → ¬ (is_within parts ≡ true) → b ≡ false
    outside parts true inside denies = absurd (denies inside)
    outside parts false inside denies = refl

    at : (found : Option Parts) → IsPartsOf text found → reading_by sign found ≡ beyond
    at None lacks = absurd (lacks read.parts read.spells)
    at (Some parts) spells =
        let agree = parts_agree text parts read.parts spells read.spells in
        let past : is_within parts ≡ false = outside parts (is_within parts) refl (λ inside. read.beyond (within_agree parts read.parts agree (within_shown parts inside))) in
        rw past

pub reads_nothing : (sign : Sign) (text : List ℕ) → IsNoText text → reading_by sign (parts_of text) ≡ nothing
reads_nothing sign text lacks = at (parts_of text) (parts_right text)
  where
    at : (found : Option Parts) → IsPartsOf text found → reading_by sign found ≡ nothing
    at None none = refl
    at (Some parts) spells = absurd (lacks parts spells)

-- a text that spells a number is read with no sign
unsigned_is : (text : List ℕ) (parts : Parts) → Spells text parts → reading_of text ≡ reading_by Unsigned (parts_of text)
unsigned_is [] parts spells = refl
unsigned_is (c ∷ cs) parts spells = at (c == plus) (c == minus) refl refl
  where
    at : (a b : Bool) → (c == plus) ≡ a → (c == minus) ≡ b
        → cond a (reading_by Positive (parts_of cs)) (cond b (reading_by Negative (parts_of cs)) (reading_by Unsigned (parts_of (c ∷ cs)))) ≡ reading_by Unsigned (parts_of (c ∷ cs))
    at true b first second = absurd (no_sign c cs parts spells (inl (eqb-true c plus first)))
    at false true first second = absurd (no_sign c cs parts spells (inr (eqb-true c minus second)))
    at false false first second = refl

signed_is : (sign : Sign) (rest : List ℕ) (parts : Parts) → Spells rest parts → reading_of (sign_text sign ++ rest) ≡ reading_by sign (parts_of rest)
signed_is Unsigned rest parts spells = unsigned_is rest parts spells
signed_is Negative rest parts spells = refl
signed_is Positive rest parts spells = refl

-- the reading of a text that spells a number
pub signed_number : (text : List ℕ) (value : SignedValue Number) → ReadsSigned text value → reading_of text ≡ number value
signed_number text value read =
    ap reading_of read.whole ∙ signed_is value.sign read.rest read.reads.parts read.reads.spells ∙ reads_number value.sign read.rest value.absolute read.reads

-- of one that spells a number beyond the limits
pub signed_beyond : (text : List ℕ) → IsBeyondSigned text → reading_of text ≡ beyond
signed_beyond text read =
    ap reading_of read.whole ∙ signed_is read.sign read.rest read.beyond.parts read.beyond.spells ∙ reads_beyond read.sign read.rest read.beyond

-- and of one that spells none
pub signed_nothing : (text : List ℕ) → IsNoSignedText text → reading_of text ≡ nothing
signed_nothing [] lacks = reads_nothing Unsigned [] (lacks Unsigned [] refl)
signed_nothing (c ∷ cs) lacks = at (c == plus) (c == minus) refl refl
  where
    at : (a b : Bool) → (c == plus) ≡ a → (c == minus) ≡ b
        → cond a (reading_by Positive (parts_of cs)) (cond b (reading_by Negative (parts_of cs)) (reading_by Unsigned (parts_of (c ∷ cs)))) ≡ nothing
    at true b first second = reads_nothing Positive cs (lacks Positive cs (ap (λ x. x ∷ cs) (eqb-true c plus first)))
    at false true first second = reads_nothing Negative cs (lacks Negative cs (ap (λ x. x ∷ cs) (eqb-true c minus second)))
    at false false first second = reads_nothing Unsigned (c ∷ cs) (lacks Unsigned (c ∷ cs) refl)
