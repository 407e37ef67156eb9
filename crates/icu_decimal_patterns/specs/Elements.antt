-- One value for each plural: which of them a number takes.
-- UTS 35, part 3 (numbers), section 5 (explicit 0 and 1 rules); docs/compact-text.md, "Slots".
-- Cited by the calls of `PluralElements`.
use Rattle.std.specs.Prelude.{Bool, ◌||◌, cond, Option, None, is_some, unwrap_or}
use Rattle.std.specs.Option.{option_or}
use Rattle.icu_decimal_plurals.specs.declared.category.PluralCategory.{PluralCategory}
use Rattle.icu_decimal_plurals.specs.declared.category.PluralCategory.TheVariants.{Zero, One, Two, Few, Many, Other}
use Rattle.icu_decimal_plurals.specs.ExactNumbers.{is_exactly}
use Rattle.icu_decimal_plurals.specs.Operands.{Operands}
use Rattle.icu_decimal_plurals.specs.Rules.{Rules, category_of}

-- slots `0` and `1`, a slot for each category, and `other`, which is always there
pub record Elements (T : Type 0) : Type 0 where
  pub explicit_zero : Option T
  pub explicit_one : Option T
  pub zero : Option T
  pub one : Option T
  pub two : Option T
  pub few : Option T
  pub many : Option T
  pub other : T

module _ {T : Type 0} where
  abbrev pub only_other : T → Elements T
  only_other x = record { explicit_zero = None; explicit_one = None; zero = None; one = None; two = None; few = None; many = None; other = x }

  -- these with another value in slot `0`, or none
  abbrev pub with_explicit_zero : Elements T → Option T → Elements T
  with_explicit_zero s x = record { explicit_zero = x; explicit_one = s.explicit_one; zero = s.zero; one = s.one; two = s.two; few = s.few; many = s.many; other = s.other }

  -- these with another value in slot `1`, or none
  abbrev pub with_explicit_one : Elements T → Option T → Elements T
  with_explicit_one s x = record { explicit_zero = s.explicit_zero; explicit_one = x; zero = s.zero; one = s.one; two = s.two; few = s.few; many = s.many; other = s.other }

  -- these with another value in the slot of `zero`, or none
  abbrev pub with_zero : Elements T → Option T → Elements T
  with_zero s x = record { explicit_zero = s.explicit_zero; explicit_one = s.explicit_one; zero = x; one = s.one; two = s.two; few = s.few; many = s.many; other = s.other }

  -- these with another value in the slot of `one`, or none
  abbrev pub with_one : Elements T → Option T → Elements T
  with_one s x = record { explicit_zero = s.explicit_zero; explicit_one = s.explicit_one; zero = s.zero; one = x; two = s.two; few = s.few; many = s.many; other = s.other }

  -- these with another value in the slot of `two`, or none
  abbrev pub with_two : Elements T → Option T → Elements T
  with_two s x = record { explicit_zero = s.explicit_zero; explicit_one = s.explicit_one; zero = s.zero; one = s.one; two = x; few = s.few; many = s.many; other = s.other }

  -- these with another value in the slot of `few`, or none
  abbrev pub with_few : Elements T → Option T → Elements T
  with_few s x = record { explicit_zero = s.explicit_zero; explicit_one = s.explicit_one; zero = s.zero; one = s.one; two = s.two; few = x; many = s.many; other = s.other }

  -- these with another value in the slot of `many`, or none
  abbrev pub with_many : Elements T → Option T → Elements T
  with_many s x = record { explicit_zero = s.explicit_zero; explicit_one = s.explicit_one; zero = s.zero; one = s.one; two = s.two; few = s.few; many = x; other = s.other }

  -- a slot is there beside `other`
  abbrev pub has_slot : Elements T → Bool
  has_slot s = is_some s.explicit_zero || (is_some s.explicit_one || (is_some s.zero || (is_some s.one || (is_some s.two || (is_some s.few || is_some s.many)))))

  abbrev pub without_one : Elements T → Elements T
  without_one s = with_explicit_one s None

  -- slot `0` or `1` of a number that is shown as just that digit
  abbrev pub explicit_slot : Elements T → Operands → Option T
  explicit_slot s o = cond (is_exactly 0 o) s.explicit_zero (cond (is_exactly 1 o) s.explicit_one None)

  abbrev pub category_slot : Elements T → PluralCategory → Option T
  category_slot s Zero = s.zero
  category_slot s One = s.one
  category_slot s Two = s.two
  category_slot s Few = s.few
  category_slot s Many = s.many
  category_slot s Other = None

  -- the explicit slot, or else that of the category, or else `other`
  abbrev pub slot_of : Elements T → Rules → Operands → T
  slot_of s rules o = unwrap_or (option_or (explicit_slot s o) (category_slot s (category_of rules o))) s.other
