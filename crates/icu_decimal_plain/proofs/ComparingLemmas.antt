-- A text compared with that of a decimal.
use Rattle.std.proofs.Common.{◌≡◌, ℕ, Bool, List, ◌++◌, refl, sym, ap, ◌∙◌, arith}
use Rattle.std.proofs.lemmas.Bool.Decides.{nat_tests}
use Rattle.std.proofs.lemmas.Cmp.{same_from_slice_cmp}
use Rattle.std.proofs.lemmas.List.{append-nil}
use Rattle.std.specs.Ordering.{is_eq, nat_cmp}
use Rattle.std.specs.Str.{bytes_eq}
use Rattle.std.specs.declared.cmp.Ordering.{Ordering}
use Rattle.writeable.specs.Order.{byte_order}
use Rattle.fixed_decimal.specs.Number.{Number}
use Rattle.fixed_decimal.specs.SignedValue.{SignedValue}
use Rattle.fixed_decimal.specs.declared.Sign.TheVariants.{None as NoSign}
use Rattle.icu_decimal_plain.specs.Affixes.{affixes_of}
use Rattle.icu_decimal_plain.specs.PlainText.{Tables, decimal_text, prefix_text, suffix_text, unsigned_text}

-- the order of two texts is equal exactly where they are one
pub same_by_order : (order : Ordering) (a b c : List ℕ) → order ≡ byte_order a b → a ≡ c → is_eq order ≡ bytes_eq c b
same_by_order order a b c is same =
    same_from_slice_cmp nat_cmp is_eq bytes_eq refl (λ _ _. refl) (λ _ _. refl) (λ x y xs ys o h. grind (arith, nat_tests)) a b order is ∙ ap (λ x. bytes_eq x b) same

-- without a sign there are no affixes
no_affixes : (t : Tables) (v : SignedValue Number) → v.sign ≡ NoSign → decimal_text t v ≡ unsigned_text t v.absolute
no_affixes t v none =
    ap (λ sign. prefix_text (affixes_of t.symbols.strings sign) ++ (unsigned_text t v.absolute ++ suffix_text (affixes_of t.symbols.strings sign))) none
    ∙ append-nil (unsigned_text t v.absolute)

-- a text that is compared with that of a number without a sign is compared with that of the decimal
pub without_affixes : (t : Tables) (v : SignedValue Number) (written text : List ℕ) (found : Bool) → v.sign ≡ NoSign → written ≡ unsigned_text t v.absolute → found ≡ bytes_eq written text → found ≡ bytes_eq (decimal_text t v) text
without_affixes t v written text found none is same = same ∙ ap (λ w. bytes_eq w text) (is ∙ sym (no_affixes t v none))
