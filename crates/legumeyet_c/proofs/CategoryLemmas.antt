-- Words of plural categories have no parts, and the word of a category of what is known to be shown.
use Rattle.std.proofs.Common.{◌≡◌, ◌≢◌, ℕ, ◌+◌, List, [], ◌∷◌, Option, Some, None, refl, subst, ap, sym, ◌∙◌}
use Rattle.std.specs.Prelude.{option_map}
use Rattle.fixed_decimal.specs.CompactText.{CompactValue}
use Rattle.fixed_decimal.specs.Number.{Number}
use Rattle.fixed_decimal.specs.SignedValue.{SignedValue}
use Rattle.icu_plurals.specs.Categories.{word}
use Rattle.icu_plurals.specs.Operands.{Operands}
use Rattle.icu_plurals.specs.Rules.{Rules, category_of}
use Rattle.locale_numbers_formatter.specs.ExactForms.{exact_shown}
use Rattle.locale_numbers_formatter.specs.FormatText.{FormatTables, Shown}
use Rattle.locale_numbers_formatter.specs.ShownOperands.{shown_operands, value_operands}
use Rattle.writeable.specs.AnnotatedText.{bytes, intervals_from}
use Rattle.legumeyet_c_values.specs.declared.CallError.{CallError}
use Rattle.legumeyet_c_values.specs.declared.CallError.TheVariants.{TooSmall}
use Rattle.legumeyet_c.specs.HeldFormats.{Plurals}
use Rattle.legumeyet_c.specs.Worded.{Ends, IsUnseen, category_word, form_word, range_word, word_between}

pub no_parts : (text : List ℕ) (n : ℕ) → intervals_from n (bytes text) ≡ []
unfolding bytes
no_parts [] n = refl
no_parts (byte ∷ text) n = no_parts text (n + 1)

-- of a number
pub word_shown : (rules : Rules) (f : FormatTables) (value : SignedValue Number) (operands : Operands) (text : List ℕ) → Some operands ≡ shown_operands f value
    → text ≡ word (category_of rules operands) → category_word rules f value ≡ Some text
word_shown rules f value operands text shown is =
    ap (λ (o : Option Operands). option_map (λ operands. word (category_of rules operands)) o) (sym shown) ∙ ap Some (sym is)

-- why it is not seen is not that a text is too long
pub unseen_other : (f : FormatTables) (value : SignedValue Number) (error : CallError) → IsUnseen f value error → error ≢ TooSmall
unseen_other f value error unseen = λ same. subst (λ (e : CallError). IsUnseen f value e) same unseen

-- of a form
pub form_word_shown : (rules : Rules) (f : FormatTables) (form : CompactValue) (shown : Option Shown) (text : List ℕ) → exact_shown f form ≡ shown → (shown ≡ None → ⊥)
    → text ≡ word (category_of rules (value_operands form)) → form_word rules f form ≡ Some text
form_word_shown rules f form None text is some same = absurd (some refl)
form_word_shown rules f form (Some shown) text is some same =
    ap (λ (o : Option Shown). option_map (λ s. word (category_of rules (value_operands form))) o) is ∙ ap Some (sym same)

-- of a range
pub range_shown : (plurals : Plurals) (f : FormatTables) (ends : Ends) (first second : Operands) (text : List ℕ) → Some first ≡ shown_operands f ends.0 → Some second ≡ shown_operands f ends.1
    → word_between plurals (Some first) (Some second) ≡ Some text → range_word plurals f ends ≡ Some text
range_shown plurals f ends first second text start end between =
    ap (λ (o : Option Operands). word_between plurals o (shown_operands f ends.1)) (sym start)
    ∙ ap (λ (o : Option Operands). word_between plurals (Some first) o) (sym end)
    ∙ between
