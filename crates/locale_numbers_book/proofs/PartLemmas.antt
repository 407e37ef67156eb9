-- A value that has parts, a book, units and more: `specs/Form.antt` and `specs/Arrays.antt`.
use Rattle.std.proofs.Common.{◌≡◌, ◌&&◌, Bool, true, false, List, [], ◌∷◌, drop, Option, None, Some, option_map, unwrap_or, refl, sym, ap, ◌∙◌, subst, if◌then◌else◌}
use Rattle.std.specs.Prelude.{IfSome}
use Rattle.std.specs.Option.{option_or}
use Rattle.std.proofs.lemmas.Bool.{false≢true}
use Rattle.serde_json.specs.Data.{Data, null, boolean, number, string, array, object, Items}
use Rattle.serde_json.specs.Find.{as_array, at}
use Rattle.serde_json.specs.View.{items_view}
use Rattle.serde_json.specs.declared.value.Value.{Value}
use Rattle.locale_numbers_tables.specs.declared.BookError.TheVariants.{Shape}
use Rattle.locale_numbers_tables.specs.Entries.{has_count}
use Rattle.locale_numbers_book.specs.Arrays.{AreParts, AreTaken, of_arrays, value_of_arrays, value_of_units}
use Rattle.locale_numbers_book.specs.declared.json.parts.BookArrays.{BookArrays}
use Rattle.locale_numbers_book.specs.Form.{alone_fault, are_more, book_fault, book_part, fault_of, five_fault, has_form, has_parts, has_units_form, more_fault, more_part, units_part}

-- ---- five arrays

-- a value of five items has no sixth array
pub five_alone : (value : Data) (a b c d e : Items) (p : Option Items) → has_count 5 value ≡ true → value ≡ of_arrays a b c d e p → value ≡ of_arrays a b c d e None
five_alone value a b c d e None five is = is
five_alone value a b c d e (Some p) five is = absurd (false≢true (ap (has_count 5) (sym is) ∙ five))

-- ---- an array

pub as_array_is : (d : Data) (vs : Items) → Some vs ≡ as_array d → d ≡ array vs
as_array_is null vs is = absurd (cc)
as_array_is (boolean b) vs is = absurd (cc)
as_array_is (number n) vs is = absurd (cc)
as_array_is (string s) vs is = absurd (cc)
as_array_is (array ds) vs is = let same : vs ≡ ds = cc in ap array (sym same)
as_array_is (object ms) vs is = absurd (cc)

pub counted_array : (d : Data) → None ≡ as_array d → has_parts d ≡ false
counted_array null is = refl
counted_array (boolean b) is = refl
counted_array (number m) is = refl
counted_array (string s) is = refl
counted_array (array ds) is = absurd (cc)
counted_array (object ms) is = refl

-- ---- the forms of the parts

pub no_units : (b u p : Bool) → u ≡ false → (b && (u && p)) ≡ false
no_units true u p absent = rw absent refl
no_units false u p absent = refl

pub no_more : (b u p : Bool) → p ≡ false → (b && (u && p)) ≡ false
no_more true true p absent = absent
no_more true false p absent = refl
no_more false u p absent = refl

pub no_book : (b u p : Bool) → b ≡ false → (b && (u && p)) ≡ false
no_book b u p absent = rw absent refl

-- ---- two items or three

-- the first, the second and the third of values that are two or three
module _ (given values second third : List Value) (book units : Data) (more : Option Data) (start : values ≡ given) (next : second ≡ drop 1 values) (last : third ≡ drop 1 second) (first_is : book ≡ unwrap_or (at 0 (array (items_view values))) null) (second_is : units ≡ unwrap_or (at 0 (array (items_view second))) null) (third_is : more ≡ at 0 (array (items_view third))) (parts : has_parts (array (items_view given)) ≡ true) where
  pub book_is : book_part (array (items_view given)) ≡ book
  book_is = rw parts (rw (← start) (sym first_is))

  pub units_are : units_part (array (items_view given)) ≡ Some units
  units_are = rw parts (by given (sym start) parts)
    where
      by : (all : List Value) → all ≡ values → has_parts (array (items_view all)) ≡ true → at 1 (array (items_view all)) ≡ Some units
      by [] same two = absurd (cc)
      by (x ∷ []) same two = absurd (cc)
      by (x ∷ y ∷ rest) same two = ap Some (sym (second_is ∙ rw (next, ← same) refl))

  pub more_is : more_part (array (items_view given)) ≡ more
  more_is = rw parts (by given (sym start) parts)
    where
      by : (all : List Value) → all ≡ values → has_parts (array (items_view all)) ≡ true → at 2 (array (items_view all)) ≡ more
      by [] same two = absurd (cc)
      by (x ∷ []) same two = absurd (cc)
      by (x ∷ y ∷ []) same two = sym (third_is ∙ rw (last, next, ← same) refl)
      by (x ∷ y ∷ z ∷ rest) same two = sym (third_is ∙ rw (last, next, ← same) refl)

-- what was taken of each part was taken of the value
pub parts_are : (o : Option BookArrays) (value book units : Data) (more : Option Data) → book_part value ≡ book → units_part value ≡ Some units → more_part value ≡ more
    → IfSome o (λ arrays. book ≡ value_of_arrays arrays.book) → IfSome o (λ arrays. Some units ≡ option_map value_of_units arrays.units) → IfSome o (λ arrays. AreTaken more arrays.more)
    → IfSome o (AreParts value)
parts_are None value book units more one other last a b c = tt
parts_are (Some arrays) value book units more one other last a b c =
    record { book = one ∙ a; units = other ∙ b; more = subst (λ m. AreTaken m arrays.more) (sym last) c }

-- where one of the parts is of another form the value has no shape
pub no_parts : (value book units : Data) (more : Option Data) → book_part value ≡ book → units_part value ≡ Some units → more_part value ≡ more
    → (has_form book && (has_units_form units && are_more more)) ≡ false → book_fault value ≡ Some Shape
no_parts value book units more one other last absent = rw (one, other, last) (by (has_form book) refl (has_units_form units && are_more more) absent)
  where
    by : (b : Bool) → has_form book ≡ b → (u : Bool) → (b && u) ≡ false
        → (if u then option_or (alone_fault book) (option_or (five_fault units) (fault_of more_fault more)) else Some Shape) ≡ Some Shape
    by true is true h = absurd (false≢true (sym h))
    by true is false h = refl
    by false is true h = rw is refl
    by false is false h = refl

-- ---- a value without parts

pub alone_is : (value : Data) → has_parts value ≡ false → book_part value ≡ value
alone_is value none = rw none refl

pub no_units_part : (value : Data) → has_parts value ≡ false → units_part value ≡ None
no_units_part value none = rw none refl

pub no_more_part : (value : Data) → has_parts value ≡ false → more_part value ≡ None
no_more_part value none = rw none refl

pub nothing_taken : (more : Option Data) → more ≡ None → AreTaken more None
nothing_taken more is = subst (λ m. AreTaken m None) (sym is) tt

pub no_form : (value : Data) → has_parts value ≡ false → has_form value ≡ false → book_fault value ≡ Some Shape
no_form value none form = rw (none, form) refl
