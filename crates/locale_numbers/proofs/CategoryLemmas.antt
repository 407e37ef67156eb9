-- What a formatter and its rules tell of a number and of a range: CategoryAnswer.antt of `locale_numbers_answers`.
use Rattle.std.proofs.Common.{◌≡◌, List, Option, Some, sym, ap, ap₂, ◌∙◌}
use Rattle.fixed_decimal.specs.Number.{Number}
use Rattle.fixed_decimal.specs.SignedValue.{SignedValue}
use Rattle.icu_decimal.specs.Rules.{Rules}
use Rattle.icu_plurals.specs.declared.PluralRange.{PluralRange}
use Rattle.locale_numbers_answers.specs.CategoryAnswer.{category_answer, category_by, range_by, range_category_answer}
use Rattle.locale_numbers_formatter.specs.FormatText.{FormatTables}

pub told_by : (f g : FormatTables) (held : Rules × List PluralRange) (rules : Option (Rules × List PluralRange)) (m n : SignedValue Number) → f ≡ g → rules ≡ Some held → m ≡ n
    → category_answer f held.0 m ≡ category_by g rules n
told_by f g held rules m n same is equal =
    ap₂ (λ format value. category_answer format held.0 value) same equal
    ∙ sym (ap (λ known. category_by g known n) is)

pub range_told_by : (f g : FormatTables) (held : Rules × List PluralRange) (rules : Option (Rules × List PluralRange)) (a b m n : SignedValue Number) → f ≡ g → rules ≡ Some held → a ≡ m → b ≡ n
    → range_category_answer f held.0 held.1 a b ≡ range_by g rules m n
range_told_by f g held rules a b m n same is one other =
    ap₂ (λ format value. range_category_answer format held.0 held.1 value b) same one
    ∙ ap (λ value. range_category_answer g held.0 held.1 m value) other
    ∙ sym (ap (λ known. range_by g known m n) is)
