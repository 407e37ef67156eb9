-- A text has one reading with a sign, and a printed one reads back.
use Rattle.std.proofs.Common.{◌≡◌, ℕ, List, ◌++◌, refl, sym, ap, ◌∙◌, subst, arith, inl, inr}
use Rattle.fixed_decimal_signed.specs.Number.{Number, IsNumber}
use Rattle.fixed_decimal_signed.specs.NumberText.{minus, Parts, Spells, Reads, text_of}
use Rattle.fixed_decimal_signed.proofs.TextPartsLemmas.{no_sign, cons_head, cons_tail}
use Rattle.fixed_decimal_signed.proofs.ReadOnceLemmas.{reads_once, reads_not_beyond}
use Rattle.fixed_decimal_signed.proofs.PrintedLemmas.{reads_printed}
use Rattle.fixed_decimal.specs.IntegerText.{ReadsInteger, ReadsFraction, IsBeyondInteger}
use Rattle.fixed_decimal_signed.specs.SignedText.{plus, sign_text, ReadsSigned, IsBeyondSigned, IsNoSignedText, signed_text_of}
use Rattle.fixed_decimal_signed.specs.SignedValue.{SignedValue}
use Rattle.fixed_decimal_signed.specs.declared.Sign.{Sign}
use Rattle.fixed_decimal_signed.specs.declared.Sign.TheVariants.{None, Negative, Positive}

pub record IsSameSplit (a b : Sign) (one other : List ℕ) : Type 0 where
  pub sign : a ≡ b
  pub rest : one ≡ other

-- no number's text begins with a sign, so a text is cut at its sign in one way
pub same_split : (a b : Sign) (one other : List ℕ) (p q : Parts) → Spells one p → Spells other q → sign_text a ++ one ≡ sign_text b ++ other → IsSameSplit a b one other
same_split None None one other p q h k e = record { sign = refl; rest = e }
same_split None Negative one other p q h k e = absurd (no_sign minus other p (subst (λ t. Spells t p) e h) (inr refl))
same_split None Positive one other p q h k e = absurd (no_sign plus other p (subst (λ t. Spells t p) e h) (inl refl))
same_split Negative None one other p q h k e = absurd (no_sign minus one q (subst (λ t. Spells t q) (sym e) k) (inr refl))
same_split Negative Negative one other p q h k e = record { sign = refl; rest = cons_tail minus minus one other e }
same_split Negative Positive one other p q h k e = let bad : minus ≡ plus = cons_head minus plus one other e in absurd (omega arith)
same_split Positive None one other p q h k e = absurd (no_sign plus one q (subst (λ t. Spells t q) (sym e) k) (inl refl))
same_split Positive Negative one other p q h k e = let bad : plus ≡ minus = cons_head plus minus one other e in absurd (omega arith)
same_split Positive Positive one other p q h k e = record { sign = refl; rest = cons_tail plus plus one other e }

abbrev signed_of : Sign → Number → SignedValue Number
signed_of sign number = record { sign = sign; absolute = number }

-- values with one sign and one number are one
pub same_signed : (a b : SignedValue Number) → a.sign ≡ b.sign → a.absolute ≡ b.absolute → a ≡ b
same_signed a b e f =
    let first : signed_of a.sign a.absolute ≡ signed_of b.sign a.absolute = ap (λ s. signed_of s a.absolute) e in
    let second : signed_of b.sign a.absolute ≡ signed_of b.sign b.absolute = ap (λ n. signed_of b.sign n) f in
    first ∙ second

pub signed_reads_once : (text : List ℕ) (a b : SignedValue Number) → ReadsSigned text a → ReadsSigned text b → a ≡ b
signed_reads_once text a b h k =
    let same = same_split a.sign b.sign h.rest k.rest h.reads.parts k.reads.parts h.reads.spells k.reads.spells (sym h.whole ∙ k.whole) in
    same_signed a b same.sign (reads_once k.rest a.absolute b.absolute (subst (λ t. Reads t a.absolute) same.rest h.reads) k.reads)

pub signed_not_beyond : (text : List ℕ) (a : SignedValue Number) → ReadsSigned text a → IsBeyondSigned text → ⊥
signed_not_beyond text a h k =
    let same = same_split a.sign k.sign h.rest k.rest h.reads.parts k.beyond.parts h.reads.spells k.beyond.spells (sym h.whole ∙ k.whole) in
    reads_not_beyond k.rest a.absolute (subst (λ t. Reads t a.absolute) same.rest h.reads) k.beyond

pub signed_is_text : (text : List ℕ) (a : SignedValue Number) → IsNoSignedText text → ReadsSigned text a → ⊥
signed_is_text text a lacks h = lacks a.sign h.rest h.whole h.reads.parts h.reads.spells

pub signed_printed : (v : SignedValue Number) → IsNumber v.absolute → ReadsSigned (signed_text_of v) v
signed_printed v n = record { rest = text_of v.absolute; whole = refl; reads = reads_printed v.absolute n }

-- a whole number's text shows no fraction, and a fraction's does
pub integer_not_fraction : (text : List ℕ) (a : SignedValue Number) → ReadsInteger text a → ReadsFraction text → ⊥
integer_not_fraction text a h k =
    let same : a ≡ k.number = signed_reads_once text a k.number h.reads k.reads in
    let whole : k.number.absolute.low ≡ 32768 = sym (ap (λ (v : SignedValue Number). v.absolute.low) same) ∙ h.whole in
    let below = k.below in omega arith

pub integer_not_beyond : (text : List ℕ) (a : SignedValue Number) → ReadsInteger text a → IsBeyondInteger text → ⊥
integer_not_beyond text a h (inl beyond) = signed_not_beyond text a h.reads beyond
integer_not_beyond text a h (inr fraction) = integer_not_fraction text a h fraction

-- values that read back are told apart by their printed texts
pub same_printed : {V : Type 0} (reads : List ℕ → V → Type 0) (text other : List ℕ) (a b : V) → ((t : List ℕ) (x y : V) → reads t x → reads t y → x ≡ y) → reads text a → reads other b → text ≡ other → a ≡ b
same_printed reads text other a b once h k e = once text a b h (subst (λ t. reads t b) (sym e) k)
