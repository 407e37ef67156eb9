-- A text has one sign, since no number's text begins with one.
use Rattle.std.proofs.Common.{◌≡◌, ℕ, List, [], ◌∷◌, ◌++◌, ◌⊎◌, refl, sym, ◌∙◌, subst, inl, inr, arith}
use Rattle.fixed_decimal_unsigned.specs.NumberText.{minus, Spells, ReadsLong, ReadsLonger, IsNoText}
use Rattle.fixed_decimal_unsigned.proofs.TextPartsLemmas.{no_sign, cons_head, cons_tail}
use Rattle.fixed_decimal_signed.specs.SignedText.{plus, sign_text, ReadsLongSigned, ReadsLongerSigned, IsNoSignedText, StartsNoSign}
use Rattle.fixed_decimal_signed.specs.declared.sign.Sign.{Sign}
use Rattle.fixed_decimal_signed.specs.declared.sign.Sign.TheVariants.{None, Negative, Positive}

signed_no_text : (sign : ℕ) (cs rest : List ℕ) → (sign ≡ 43) ⊎ (sign ≡ minus) → sign ∷ cs ≡ rest → IsNoText rest
signed_no_text sign cs rest s e parts h = no_sign sign cs parts (subst (λ t. Spells t parts) (sym e) h) s

unsigned_not : (sign : ℕ) (rest cs : List ℕ) → (sign ≡ plus) ⊎ (sign ≡ minus) → StartsNoSign rest → rest ≡ sign ∷ cs → ⊥
unsigned_not sign [] cs s n e = cc
unsigned_not sign (r ∷ rs) cs (inl p) n e = n.1 (cons_head r sign rs cs e ∙ p)
unsigned_not sign (r ∷ rs) cs (inr p) n e = n.0 (cons_head r sign rs cs e ∙ p)

pub no_signed_text : (text rest : List ℕ) (sign : Sign) → text ≡ sign_text sign ++ rest → (sign ≡ None → StartsNoSign rest) → IsNoText rest → IsNoSignedText text
no_signed_text text rest None e n lacks None other f = subst IsNoText (sym e ∙ f) lacks
no_signed_text text rest None e n lacks Negative other f = absurd (unsigned_not minus rest other (inr refl) (n refl) (sym e ∙ f))
no_signed_text text rest None e n lacks Positive other f = absurd (unsigned_not plus rest other (inl refl) (n refl) (sym e ∙ f))
no_signed_text text rest Negative e n lacks None other f = signed_no_text minus rest other (inr refl) (sym e ∙ f)
no_signed_text text rest Negative e n lacks Negative other f = subst IsNoText (cons_tail minus minus rest other (sym e ∙ f)) lacks
no_signed_text text rest Negative e n lacks Positive other f = let h : minus ≡ plus = cons_head minus plus rest other (sym e ∙ f) in absurd (omega arith)
no_signed_text text rest Positive e n lacks None other f = signed_no_text plus rest other (inl refl) (sym e ∙ f)
no_signed_text text rest Positive e n lacks Negative other f = let h : plus ≡ minus = cons_head plus minus rest other (sym e ∙ f) in absurd (omega arith)
no_signed_text text rest Positive e n lacks Positive other f = subst IsNoText (cons_tail plus plus rest other (sym e ∙ f)) lacks

-- a sign before a long number's text
pub long_signed : (text rest : List ℕ) (sign : Sign) → text ≡ sign_text sign ++ rest → ReadsLong rest → ReadsLongSigned text
long_signed text rest sign e h = record {
  number = record { sign = sign; absolute = h.number };
  reads = record { rest = rest; whole = e; reads = h.reads };
  long = h.long;
}

pub longer_signed : (text rest : List ℕ) (sign : Sign) (other : ℕ) → text ≡ sign_text sign ++ rest → ReadsLonger rest other → ReadsLongerSigned text other
longer_signed text rest sign other e h = record {
  number = record { sign = sign; absolute = h.number };
  reads = record { rest = rest; whole = e; reads = h.reads };
  longer = h.longer;
}
