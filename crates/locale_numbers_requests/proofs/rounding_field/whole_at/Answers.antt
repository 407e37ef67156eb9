use Rattle.std.proofs.Common.{rules, ◌≡◌, Bool, true, false, if◌then◌else◌, refl, ◌∙◌, sym, ap, None}
use Rattle.std.specs.Prelude.{int_le, neg_ℤ}
use Rattle.locale_numbers_formats.specs.declared.TrailingZeros.TheVariants.{TrimWhole}
use Rattle.locale_numbers_requests.specs.Increments.{multiples_at}
use Rattle.locale_numbers_requests.specs.RoundingField.{all_shown, front_by, whole_at}
use Rattle.locale_numbers_requests.proofs.rounding_field.whole_at.Goals as goal

chosen : {A : Type 0} (b : Bool) (x y : A) → b ≡ true → x ≡ (if b then x else y)
chosen true x y is = refl
chosen false x y is = absurd (cc)

-- src/rounding_field.rt:248:1
pub returns-in-Fraction : goal.returns-in-Fraction
returns-in-Fraction c =
    let are_all : int_le (neg_ℤ c.in-Fraction.last) c.in-Fraction.least ≡ true = search (rules, c.if-last-least.true) in
    let shown : c.all_shown.result ≡ all_shown (front_by c.args.increment) TrimWhole c.args.mode (multiples_at c.in-Fraction.last c.args.increment)
    = search (rules, c.all_shown.ensures) in
    shown
    ∙ chosen (int_le (neg_ℤ c.in-Fraction.last) c.in-Fraction.least)
    (all_shown (front_by c.args.increment) TrimWhole c.args.mode (multiples_at c.in-Fraction.last c.args.increment)) None are_all
    ∙ sym (ap (λ p. whole_at p c.args.mode c.args.increment) c.in-Fraction.is)
