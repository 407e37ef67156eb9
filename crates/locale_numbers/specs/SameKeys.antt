-- Keys of formatters that are `==` are one value.
-- Defined in docs/requests.md, "What a cache keeps".
-- Cited by the impl of `CacheKey` of `FormatterKey`, whose law it proves.
-- The types of a key are compared as is derived for each, and what was derived for each is imported.
use Rattle.std.specs.Prelude.{◌≡◌, Bool, IsTrue, true, pos, Option, None, Some, refl}
use Rattle.std.specs.Cmp.{signed_Decides}
use Rattle.std.specs.Cmp.Rules.{comparing}
use Rattle.std.specs.Option.{option_eq}
use Rattle.std.specs.Ordering.{int_eq}
use Rattle.std.specs.Cmp.Lexicographic.{bytes_decides}
use Rattle.std.proofs.Common.{ap, ap₂, rules}
use Rattle.std.proofs.lemmas.Bool.{and_parts}
use denote.Enum.Bare.{same_true}
use Rattle.fixed_decimal.specs.declared.RoundingIncrement.{RoundingIncrement}
use Rattle.fixed_decimal.specs.declared.SignedRoundingMode.{SignedRoundingMode}
use Rattle.fixed_decimal.specs.declared.SignedRoundingMode.TheVariants.{Ceil}
use Rattle.icu_locale_core.specs.Subtags.{Text, same_text}
use Rattle.icu_locale_core.specs.TagPreferences.{Subdivision, LocalePreferencesMeaning, Preferences}
use Rattle.icu_locale_core.specs.SamePreferences.{same_subdivision, same_locale, same_preferences}
use Rattle.icu_decimal.specs.declared.options.GroupingStrategy.{GroupingStrategy}
use Rattle.icu_dimension_fractions.specs.contracts.percent_sign.PercentSign as percent
use Rattle.icu_dimension_fractions.specs.contracts.code.CurrencyCodePartialEq.TheImpl as codes
use Rattle.icu_dimension_fractions.specs.contracts.style.CurrencyStyle as style
use Rattle.icu_dimension_fractions.specs.contracts.style.CurrencyStylePartialEq.TheImpl as styles
use Rattle.icu_dimension_fractions.specs.contracts.style.CurrencyWidth as width
use Rattle.locale_numbers_formats.specs.contracts.options.LeadingZeros as leading
use Rattle.locale_numbers_formats.specs.contracts.options.NumberOptionsPartialEq.TheImpl as options
use Rattle.locale_numbers_formats.specs.contracts.options.RoundingPartialEq.TheImpl as roundings
use Rattle.locale_numbers_formats.specs.contracts.options.RoundingPriority as priority
use Rattle.locale_numbers_formats.specs.contracts.options.SignAskedPartialEq.TheImpl as signs
use Rattle.locale_numbers_formats.specs.contracts.options.SignificantDigitsPartialEq.TheImpl as counts
use Rattle.locale_numbers_formats.specs.contracts.options.TrailingZeros as trailing
use Rattle.locale_numbers_formats.specs.contracts.shape.CompactWidth as compact
use Rattle.locale_numbers_formats.specs.contracts.shape.CompactWidthPartialEq.TheImpl as widths
use Rattle.locale_numbers_formats.specs.contracts.shape.CurrencyUnitPartialEq.TheImpl as currencies
use Rattle.locale_numbers_formats.specs.contracts.shape.NotationPartialEq.TheImpl as notations
use Rattle.locale_numbers_formats.specs.contracts.shape.NumberShapePartialEq.TheImpl as shapes
use Rattle.locale_numbers_formats.specs.contracts.shape.NumberUnitPartialEq.TheImpl as units
use Rattle.locale_numbers_formats.specs.contracts.shape.ScientificStylePartialEq.TheImpl as scientifics
use Rattle.locale_numbers_formats.specs.declared.CurrencyUnit.{CurrencyUnit}
use Rattle.locale_numbers_formats.specs.declared.Notation.{Notation}
use Rattle.locale_numbers_formats.specs.declared.Notation.TheVariants.{Standard, Compact, CompactDigits, Scientific}
use Rattle.locale_numbers_formats.specs.declared.NumberOptions.{NumberOptions}
use Rattle.locale_numbers_formats.specs.declared.NumberShape.{NumberShape}
use Rattle.locale_numbers_formats.specs.declared.NumberUnit.{NumberUnit}
use Rattle.locale_numbers_formats.specs.declared.NumberUnit.TheVariants as unit
use Rattle.locale_numbers_formats.specs.declared.Rounding.{Rounding}
use Rattle.locale_numbers_formats.specs.declared.Rounding.TheVariants.{Usual, Cash, AsGiven, At, Significant, Either}
use Rattle.locale_numbers_formats.specs.declared.ScientificStyle.{ScientificStyle}
use Rattle.locale_numbers_formats.specs.declared.SignAsked.{SignAsked}
use Rattle.locale_numbers_formats.specs.declared.SignificantDigits.{SignificantDigits}
use Rattle.locale_numbers.specs.contracts.formatter_key.FormatterKeyPartialEq.TheImpl as keys
use Rattle.locale_numbers.specs.contracts.formatter_key.Purpose as purpose
use Rattle.locale_numbers.specs.declared.formatter_key.FormatterKey.{FormatterKey}

texts : (s t : Option Text) → option_eq same_text s t ≡ true → s ≡ t
texts None None h = refl
texts None (Some t) h = cc
texts (Some s) None h = cc
texts (Some s) (Some t) h = ap Some ((bytes_decides s t).0 h)

subdivision_is : (a b : Subdivision) → same_subdivision a b ≡ true → a ≡ b
subdivision_is a b h =
    let p = and_parts (same_text a.region b.region) (same_text a.suffix b.suffix) h in
    let region : a.region ≡ b.region = (bytes_decides a.region b.region).0 p.0 in
    let suffix : a.suffix ≡ b.suffix = (bytes_decides a.suffix b.suffix).0 p.1 in
    λ i. record { region = region i; suffix = suffix i }

subdivisions : (s t : Option Subdivision) → option_eq same_subdivision s t ≡ true → s ≡ t
subdivisions None None h = refl
subdivisions None (Some t) h = cc
subdivisions (Some s) None h = cc
subdivisions (Some s) (Some t) h = ap Some (subdivision_is s t h)

locale_is : (a b : LocalePreferencesMeaning) → same_locale a b ≡ true → a ≡ b
locale_is a b h =
    let p = and_parts (same_text a.language b.language) _ h in
    let q = and_parts (option_eq same_text a.script b.script) _ p.1 in
    let r = and_parts (option_eq same_text a.region b.region) _ q.1 in
    let s = and_parts (option_eq same_text a.variant b.variant) _ r.1 in
    let t = and_parts (option_eq same_subdivision a.subdivision b.subdivision) (option_eq same_subdivision a.region_override b.region_override) s.1 in
    let language : a.language ≡ b.language = (bytes_decides a.language b.language).0 p.0 in
    let script : a.script ≡ b.script = texts a.script b.script q.0 in
    let region : a.region ≡ b.region = texts a.region b.region r.0 in
    let variant : a.variant ≡ b.variant = texts a.variant b.variant s.0 in
    let subdivision : a.subdivision ≡ b.subdivision = subdivisions a.subdivision b.subdivision t.0 in
    let override : a.region_override ≡ b.region_override = subdivisions a.region_override b.region_override t.1 in
    λ i. record { language = language i; script = script i; region = region i; variant = variant i; subdivision = subdivision i; region_override = override i }

preferences_are : (a b : Preferences) → same_preferences a b ≡ true → a ≡ b
preferences_are a b h =
    let p = and_parts (same_locale a.locale b.locale) (option_eq same_text a.numbering_system b.numbering_system) h in
    let locale : a.locale ≡ b.locale = locale_is a.locale b.locale p.0 in
    let system : a.numbering_system ≡ b.numbering_system = texts a.numbering_system b.numbering_system p.1 in
    λ i. record { locale = locale i; numbering_system = system i }

-- ---- options

-- modes and increments, as roundings compare them
abbrev same_mode : SignedRoundingMode → SignedRoundingMode → Bool
same_mode a b = let none : SignificantDigits = record { least = 0; most = 0 } in roundings.ghosts.eq (Significant none a) (Significant none b)

abbrev same_increment : RoundingIncrement → RoundingIncrement → Bool
same_increment a b = roundings.ghosts.eq (At (pos 0) Ceil a) (At (pos 0) Ceil b)

mode_is : (a b : SignedRoundingMode) → same_mode a b ≡ true → a ≡ b
mode_is = search (comparing, rules)

increment_is : (a b : RoundingIncrement) → same_increment a b ≡ true → a ≡ b
increment_is = search (comparing, rules)

count_is : (a b : SignificantDigits) → counts.ghosts.eq a b ≡ true → a ≡ b
count_is = search (comparing, rules)

sign_is : (a b : SignAsked) → signs.ghosts.eq a b ≡ true → a ≡ b
sign_is = search (comparing, rules)

rounding_is : (a b : Rounding) → roundings.ghosts.eq a b ≡ true → a ≡ b
rounding_is Usual Usual h = refl
rounding_is Cash Cash h = refl
rounding_is AsGiven AsGiven h = refl
rounding_is (At p m i) (At q n j) h =
    let both = and_parts (int_eq p q) _ h in
    let rest = and_parts (same_mode m n) (same_increment i j) both.1 in
    λ k. At ((signed_Decides p q).0 both.0 k) (mode_is m n rest.0 k) (increment_is i j rest.1 k)
rounding_is (Significant c m) (Significant d n) h = search (rules, count_is, mode_is, and_parts)
rounding_is (Either r p c m) (Either s q d n) h = search (rules, same_true priority.the_type tt, count_is, mode_is, and_parts)
rounding_is _ _ h = cc

options_are : (a b : NumberOptions) → options.ghosts.eq a b ≡ true → a ≡ b
options_are a b h =
    let rounding : a.rounding ≡ b.rounding = rounding_is a.rounding b.rounding (and_parts (roundings.ghosts.eq a.rounding b.rounding) _ h).0 in
    let zeros : a.leading_zeros ≡ b.leading_zeros = search (rules, same_true leading.the_type tt, and_parts) in
    let ends : a.zeros ≡ b.zeros = search (rules, same_true trailing.the_type tt, and_parts) in
    let integer : a.integer_digits ≡ b.integer_digits = search (rules, and_parts) in
    let fraction : a.fraction_digits ≡ b.fraction_digits = search (rules, and_parts) in
    let sign : a.sign ≡ b.sign = search (rules, sign_is, and_parts) in
    λ i. record { rounding = rounding i; leading_zeros = zeros i; zeros = ends i; integer_digits = integer i; fraction_digits = fraction i; sign = sign i }

-- ---- shapes

style_is : (a b : ScientificStyle) → scientifics.ghosts.eq a b ≡ true → a ≡ b
style_is = search (comparing, rules)

notation_is : (a b : Notation) → notations.ghosts.eq a b ≡ true → a ≡ b
notation_is Standard Standard h = refl
notation_is (Compact v) (Compact w) h = ap Compact (same_true compact.the_type tt v w h)
notation_is (CompactDigits v o) (CompactDigits w p) h =
    let both = and_parts (widths.ghosts.eq v w) (options.ghosts.eq o p) h in
    ap₂ CompactDigits (same_true compact.the_type tt v w both.0) (options_are o p both.1)
notation_is (Scientific s o) (Scientific t p) h =
    let both = and_parts (scientifics.ghosts.eq s t) (options.ghosts.eq o p) h in ap₂ Scientific (style_is s t both.0) (options_are o p both.1)
notation_is _ _ h = cc

currency_is : (a b : CurrencyUnit) → currencies.ghosts.eq a b ≡ true → a ≡ b
currency_is a b h =
    let p = and_parts (codes.ghosts.eq a.code b.code) _ h in
    let q = and_parts (styles.ghosts.eq a.style b.style) _ p.1 in
    let code : a.code ≡ b.code = (bytes_decides a.code b.code).0 p.0 in
    let style : a.style ≡ b.style = same_true style.the_type tt a.style b.style q.0 in
    let width : a.width ≡ b.width = same_true width.the_type tt a.width b.width q.1 in
    λ i. record { code = code i; style = style i; width = width i }

unit_is : (a b : NumberUnit) → units.ghosts.eq a b ≡ true → a ≡ b
unit_is unit.None unit.None h = refl
unit_is (unit.Percent one) (unit.Percent other) h = ap unit.Percent (same_true percent.the_type tt one other h)
unit_is (unit.Currency c) (unit.Currency d) h = ap unit.Currency (currency_is c d h)
unit_is _ _ h = cc

-- groupings, as shapes compare them
abbrev grouped : GroupingStrategy → NumberShape
grouped grouping = record { notation = Standard; unit = unit.None; grouping = grouping }

grouping_is : (a b : GroupingStrategy) → shapes.ghosts.eq (grouped a) (grouped b) ≡ true → a ≡ b
grouping_is = search (comparing, rules)

shape_is : (a b : NumberShape) → shapes.ghosts.eq a b ≡ true → a ≡ b
shape_is a b h =
    let p = and_parts (notations.ghosts.eq a.notation b.notation) _ h in
    let q = and_parts (units.ghosts.eq a.unit b.unit) _ p.1 in
    let notation : a.notation ≡ b.notation = notation_is a.notation b.notation p.0 in
    let unit : a.unit ≡ b.unit = unit_is a.unit b.unit q.0 in
    let grouping : a.grouping ≡ b.grouping = grouping_is a.grouping b.grouping q.1 in
    λ i. record { notation = notation i; unit = unit i; grouping = grouping i }

pub keys_are : (one other : FormatterKey) → IsTrue (keys.ghosts.eq one other) → one ≡ other
keys_are one other h =
    let p = and_parts (same_preferences one.preferences other.preferences) _ h in
    let q = and_parts (shapes.ghosts.eq one.shape other.shape) _ p.1 in
    let preferences : one.preferences ≡ other.preferences = preferences_are one.preferences other.preferences p.0 in
    let shape : one.shape ≡ other.shape = shape_is one.shape other.shape q.0 in
    let purpose : one.purpose ≡ other.purpose = same_true purpose.the_type tt one.purpose other.purpose q.1 in
    λ i. record { preferences = preferences i; shape = shape i; purpose = purpose i }
