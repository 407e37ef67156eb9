-- The digits that are kept, and the place of the first, are determined by the count.
use Rattle.std.proofs.Common.{◌≡◌, ◌==◌, ◌&&◌, ap}
use Rattle.std.specs.Bool.{Decides}
use Rattle.std.proofs.lemmas.Bool.Decides.{Decides-like, Decides-and, Decides-eqb}
use Rattle.fixed_decimal_unsigned.specs.Equality.{are_equal}
use Rattle.fixed_decimal_unsigned.specs.Number.{Number, IsNumber}
use Rattle.fixed_decimal_unsigned.specs.NumberText.{text_of}
use Rattle.fixed_decimal_unsigned.proofs.MantissaLemmas.{same_number}
use Rattle.fixed_decimal_unsigned.proofs.PrintedLemmas.{texts_tell}

fields_same : (a b : Number) → (a.count ≡ b.count) × ((a.low ≡ b.low) × (a.high ≡ b.high)) → a ≡ b
fields_same a b h = same_number a.count b.count a.low b.low a.high b.high h.0 h.1.0 h.1.1

pub equal_decides : (a b : Number) → Decides (are_equal a b) (a ≡ b)
equal_decides a b =
    Decides-like (are_equal a b) (fields_same a b) (λ e. (ap (λ v. v.count) e, (ap (λ v. v.low) e, ap (λ v. v.high) e)))
    (Decides-and (a.count == b.count) (a.low == b.low && a.high == b.high) (Decides-eqb a.count b.count)
    (Decides-and (a.low == b.low) (a.high == b.high) (Decides-eqb a.low b.low) (Decides-eqb a.high b.high)))

pub texts_decide : (a b : Number) → IsNumber a → IsNumber b → Decides (are_equal a b) (text_of a ≡ text_of b)
texts_decide a b h k = Decides-like (are_equal a b) (λ e. ap text_of e) (texts_tell a b h k) (equal_decides a b)
