-- What a step in place makes of a number is what is shown for it in scientific notation, and its text, parts and operands: `specs/FormatText.antt`.
use Rattle.std.proofs.Common.{◌≡◌, ℤ, ◌==◌, Bool, true, false, cond, None, Some, refl, sym, ap, ◌∙◌}
use Rattle.std.proofs.lemmas.Bool.{eq-eqb, eqb-true}
use Rattle.writeable.specs.AnnotatedText.{text_of}
use Rattle.fixed_decimal.specs.Number.{Number}
use Rattle.fixed_decimal.specs.SignedValue.{SignedValue}
use Rattle.icu_decimal.specs.Operands.{Operands}
use Rattle.icu_decimal_scientific.specs.FormOf.{below_form, carried, does_carry, form_of, settled, with_change}
use Rattle.icu_decimal_scientific.specs.Scientific.{ScientificParts}
use Rattle.icu_decimal_scientific.specs.ScientificTextLaws.{ScientificIsText}
use Rattle.locale_numbers_formats.specs.Changed.{changed}
use Rattle.locale_numbers_formatter.specs.FormatParts.{format_events}
use Rattle.locale_numbers_formatter.specs.FormatText.{ScientificFormat, form_shown, format_text, scientific_tables}
use Rattle.locale_numbers_formatter.specs.Laws.{ScientificIsLayered, ScientificPartsAreLayered, scientific_number}
use Rattle.locale_numbers_formatter.specs.ShownOperands.{seen_of_form, shown_operands, value_operands}

-- ---- the steps

-- a significand is changed, and where it reached a higher exponent carried and changed again
module _ (s : ScientificFormat) (d first once : SignedValue Number) (e : ℤ)
    (form : record { significand = first; exponent = e } ≡ form_of s.style.notation d) (changes : once ≡ changed s.options None first) where
  abbrev change : SignedValue Number → SignedValue Number
  change v = changed s.options None v

  abbrev changed_once : ScientificParts
  changed_once = record { significand = once; exponent = e }

  abbrev changed_twice : ScientificParts
  changed_twice = with_change change (carried s.style.notation changed_once)

  once_is : form_shown s d ≡ settled change s.style.notation changed_once
  once_is =
      ap (λ (f : ScientificParts). settled change s.style.notation (with_change change f)) (sym form)
      ∙ ap (λ v. settled change s.style.notation (record { significand = v; exponent = e })) (sym changes)

  pub stays : does_carry s.style.notation once.absolute.count ≡ false → form_shown s d ≡ changed_once
  stays test = once_is ∙ ap (λ b. cond b changed_twice changed_once) test

  pub goes_on : (divided again : SignedValue Number) (x : ℤ) → does_carry s.style.notation once.absolute.count ≡ true
      → record { significand = divided; exponent = x } ≡ carried s.style.notation changed_once → again ≡ changed s.options None divided
      → form_shown s d ≡ record { significand = again; exponent = x }
  goes_on divided again x test carries changes_again =
      once_is ∙ ap (λ b. cond b changed_twice changed_once) test
      ∙ ap (with_change change) (sym carries)
      ∙ ap (λ v. record { significand = v; exponent = x }) (sym changes_again)

-- ---- the text

pub scientific_texts : ScientificIsLayered → ScientificPartsAreLayered → ScientificIsText → (s : ScientificFormat) (d : SignedValue Number)
    → text_of (format_events (scientific_tables s) d) ≡ format_text (scientific_tables s) d
scientific_texts text parts law s d = ap text_of (parts s d) ∙ law s.settings (scientific_number s d) ∙ sym (text s d)

-- ---- plural rules

module _ (s : ScientificFormat) (d : SignedValue Number) where
  -- the operands of what is shown, where a number has a form
  pub form_seen : (form : ScientificParts) (seen : Operands) → form ≡ form_shown s d → seen ≡ value_operands (seen_of_form form)
      → below_form s.style.notation d.absolute.count ≡ 0 → Some seen ≡ shown_operands (scientific_tables s) d
  form_seen form seen is seen_is whole =
      ap Some (seen_is ∙ ap (λ (f : ScientificParts). value_operands (seen_of_form f)) is)
      ∙ sym (ap (λ b. cond b (Some (value_operands (seen_of_form (form_shown s d)))) None) (eq-eqb (below_form s.style.notation d.absolute.count) 0 whole))

  pub no_form_seen : (below_form s.style.notation d.absolute.count ≡ 0 → ⊥) → None ≡ shown_operands (scientific_tables s) d
  no_form_seen never = at (below_form s.style.notation d.absolute.count == 0) refl
    where
      at : (b : Bool) → (below_form s.style.notation d.absolute.count == 0) ≡ b → None ≡ cond b (Some (value_operands (seen_of_form (form_shown s d)))) None
      at true is = absurd (never (eqb-true (below_form s.style.notation d.absolute.count) 0 is))
      at false is = refl
