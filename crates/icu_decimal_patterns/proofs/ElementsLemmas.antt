-- Where `other` stands alone, every number takes it.
use Rattle.std.proofs.Common.{◌≡◌, ◌≢◌, Bool, true, false, cond, ◌||◌, Option, None, Some, is_some, unwrap_or, refl, sym, ap, ◌∙◌}
use Rattle.std.specs.Option.{option_or}
use Rattle.icu_decimal_plurals.specs.declared.category.PluralCategory.{PluralCategory}
use Rattle.icu_decimal_plurals.specs.declared.category.PluralCategory.TheVariants.{Zero, One, Two, Few, Many, Other}
use Rattle.icu_decimal_plurals.specs.ExactNumbers.{is_exactly}
use Rattle.icu_decimal_plurals.specs.Operands.{Operands}
use Rattle.icu_decimal_plurals.specs.Rules.{Rules, category_of}
use Rattle.icu_decimal_patterns.specs.Elements.{Elements, category_slot, explicit_slot, has_slot, only_other, slot_of}

true_is_false : true ≡ false → ⊥
true_is_false e = cc

module _ {T : Type 0} where
  seven : (explicit_zero explicit_one zero one two few many : Option T) (other : T)
      → (is_some explicit_zero || (is_some explicit_one || (is_some zero || (is_some one || (is_some two || (is_some few || is_some many)))))) ≡ false
      → record { explicit_zero = explicit_zero; explicit_one = explicit_one; zero = zero; one = one; two = two; few = few; many = many; other = other } ≡ only_other other
  seven None None None None None None None other none = refl
  seven (Some x) b c d e f g other none = absurd (cc)
  seven None (Some x) c d e f g other none = absurd (cc)
  seven None None (Some x) d e f g other none = absurd (cc)
  seven None None None (Some x) e f g other none = absurd (cc)
  seven None None None None (Some x) f g other none = absurd (cc)
  seven None None None None None (Some x) g other none = absurd (cc)
  seven None None None None None None (Some x) other none = absurd (cc)

  pub other_stands_alone : (s : Elements T) → has_slot s ≡ false → s ≡ only_other s.other
  other_stands_alone s none = seven s.explicit_zero s.explicit_one s.zero s.one s.two s.few s.many s.other none

  pub other_has_company : (s : Elements T) → has_slot s ≡ true → s ≢ only_other s.other
  other_has_company s some alone = true_is_false (sym some ∙ ap has_slot alone)

  none_of : (nothing : Option T) (zero one : Bool) → cond zero nothing (cond one nothing nothing) ≡ nothing
  none_of nothing true one = refl
  none_of nothing false true = refl
  none_of nothing false false = refl

  no_category : (x : T) (category : PluralCategory) → category_slot (only_other x) category ≡ None
  no_category x Zero = refl
  no_category x One = refl
  no_category x Two = refl
  no_category x Few = refl
  no_category x Many = refl
  no_category x Other = refl

  neither : (explicit category : Option T) (x : T) → explicit ≡ None → category ≡ None → unwrap_or (option_or explicit category) x ≡ x
  neither explicit category x first second =
      ap (λ slot. unwrap_or (option_or slot category) x) first ∙ ap (λ slot. unwrap_or slot x) second

  pub taken_by_all : (s : Elements T) (x : T) (rules : Rules) (o : Operands) → s ≡ only_other x → x ≡ slot_of s rules o
  taken_by_all s x rules o alone =
      sym (neither (explicit_slot (only_other x) o) (category_slot (only_other x) (category_of rules o)) x (none_of None (is_exactly 0 o) (is_exactly 1 o)) (no_category x (category_of rules o)))
      ∙ ap (λ e. slot_of e rules o) (sym alone)
