-- Equality tells values apart, and so do their printed texts.
use Rattle.std.proofs.Common.{◌≡◌, ℕ, ◌==◌, Bool, List, refl, ap, arith}
use Rattle.std.specs.Bool.{Decides}
use Rattle.std.proofs.lemmas.Bool.Decides.{Decides-like, Decides-and, Decides-eqb}
use Rattle.fixed_decimal_signed.specs.Equality.{are_equal}
use Rattle.fixed_decimal_signed.specs.Number.{Number}
use Rattle.fixed_decimal_signed.proofs.EqualityLemmas.{equal_decides}
use Rattle.fixed_decimal.specs.CompactText.{CompactValue, IsCompact, compact_text_of}
use Rattle.fixed_decimal.specs.ScientificText.{ScientificValue, IsScientific, scientific_text_of}
use Rattle.fixed_decimal_signed.specs.SignedEquality.{sign_number, are_equal_decimals}
use Rattle.fixed_decimal.specs.ExponentEquality.{are_equal_compact, are_equal_scientific}
use Rattle.fixed_decimal_signed.specs.SignedText.{ReadsSigned, signed_text_of}
use Rattle.fixed_decimal_signed.specs.SignedValue.{SignedValue}
use Rattle.fixed_decimal.specs.TextLaws.{IsEqualityOfTexts, IsDecimal}
use Rattle.fixed_decimal_signed.specs.declared.Sign.{Sign}
use Rattle.fixed_decimal_signed.specs.declared.Sign.TheVariants.{None, Negative, Positive}
use Rattle.fixed_decimal.proofs.CompactReadOnceLemmas.{same_compact, compact_equal}
use Rattle.fixed_decimal.proofs.ScientificTextLemmas.{same_scientific, scientific_equal}
use Rattle.fixed_decimal.proofs.SignedReadOnceLemmas.{same_signed, signed_reads_once, signed_printed, same_printed}

same_sign : (a b : Sign) → sign_number a ≡ sign_number b → a ≡ b
same_sign None None e = refl
same_sign None Negative e = absurd (omega arith)
same_sign None Positive e = absurd (omega arith)
same_sign Negative None e = absurd (omega arith)
same_sign Negative Negative e = refl
same_sign Negative Positive e = absurd (omega arith)
same_sign Positive None e = absurd (omega arith)
same_sign Positive Negative e = absurd (omega arith)
same_sign Positive Positive e = refl

signs_decide : (a b : Sign) → Decides (sign_number a == sign_number b) (a ≡ b)
signs_decide a b = Decides-like (sign_number a == sign_number b) (same_sign a b) (ap sign_number) (Decides-eqb (sign_number a) (sign_number b))

pub decimals_decide : (a b : SignedValue Number) → Decides (are_equal_decimals a b) (a ≡ b)
decimals_decide a b =
    Decides-like (are_equal_decimals a b) (λ (h : (a.sign ≡ b.sign) × (a.absolute ≡ b.absolute)). same_signed a b h.0 h.1)
    (λ e. (ap (λ (v : SignedValue Number). v.sign) e, ap (λ (v : SignedValue Number). v.absolute) e))
    (Decides-and (sign_number a.sign == sign_number b.sign) (are_equal a.absolute b.absolute) (signs_decide a.sign b.sign) (equal_decides a.absolute b.absolute))

compacts_decide : (a b : CompactValue) → Decides (are_equal_compact a b) (a ≡ b)
compacts_decide a b =
    Decides-like (are_equal_compact a b) (λ (h : (a.significand ≡ b.significand) × (a.exponent ≡ b.exponent)). same_compact a b h.0 h.1)
    (λ e. (ap (λ (v : CompactValue). v.significand) e, ap (λ (v : CompactValue). v.exponent) e))
    (Decides-and (are_equal_decimals a.significand b.significand) (a.exponent == b.exponent) (decimals_decide a.significand b.significand) (Decides-eqb a.exponent b.exponent))

scientifics_decide : (a b : ScientificValue) → Decides (are_equal_scientific a b) (a ≡ b)
scientifics_decide a b =
    Decides-like (are_equal_scientific a b) (λ (h : (a.significand ≡ b.significand) × (a.exponent ≡ b.exponent)). same_scientific a b h.0 h.1)
    (λ e. (ap (λ (v : ScientificValue). v.significand) e, ap (λ (v : ScientificValue). v.exponent) e))
    (Decides-and (are_equal_decimals a.significand b.significand) (are_equal_decimals a.exponent b.exponent) (decimals_decide a.significand b.significand) (decimals_decide a.exponent b.exponent))

-- where values with one printed text are one, equality is that of the texts
equality_of_texts : {V : Type 0} (equal : V → V → Bool) (IsValue : V → Type 0) (printed : V → List ℕ)
    → ((a b : V) → Decides (equal a b) (a ≡ b)) → ((a b : V) → IsValue a → IsValue b → printed a ≡ printed b → a ≡ b) → IsEqualityOfTexts equal IsValue printed
equality_of_texts equal IsValue printed decide told = record {
  values = decide;
  texts = λ a b h k. Decides-like (equal a b) (λ e. ap printed e) (told a b h k) (decide a b);
}

pub decimal_equality : IsEqualityOfTexts are_equal_decimals IsDecimal signed_text_of
decimal_equality =
    equality_of_texts are_equal_decimals IsDecimal signed_text_of decimals_decide
    (λ a b h k e. same_printed ReadsSigned (signed_text_of a) (signed_text_of b) a b signed_reads_once (signed_printed a h) (signed_printed b k) e)

pub compact_equality : IsEqualityOfTexts are_equal_compact IsCompact compact_text_of
compact_equality = equality_of_texts are_equal_compact IsCompact compact_text_of compacts_decide compact_equal

pub scientific_equality : IsEqualityOfTexts are_equal_scientific IsScientific scientific_text_of
scientific_equality = equality_of_texts are_equal_scientific IsScientific scientific_text_of scientifics_decide scientific_equal
