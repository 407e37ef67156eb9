-- Each form that a word names, and so what each request asks, has the code of a currency where it needs one, and fits decimals: `specs/Laws.antt`.
use Rattle.std.proofs.Common.{◌≡◌, ℕ, Bool, true, false, List, [], ◌∷◌, Option, None, Some, Result, Ok, Err, refl, subst, arith, if◌then◌else◌, drop, length, take, ◌-◌}
use Rattle.std.specs.Prelude.{codes}
use Rattle.std.specs.Str.{bytes_eq, is_utf8}
use Rattle.icu_decimal_symbols.specs.declared.options.GroupingStrategy.{GroupingStrategy}
use Rattle.icu_dimension_fractions.specs.CurrencyCodes.{is_currency_code}
use Rattle.icu_dimension_fractions.specs.declared.PercentSign.{PercentSign}
use Rattle.locale_numbers_formats.proofs.ReadLemmas.{skeleton_is}
use Rattle.locale_numbers_formats.specs.Changed.{unchanged}
use Rattle.locale_numbers_formats.specs.Cutting.{cut_at}
use Rattle.locale_numbers_formats.specs.SkeletonFormats.{format_of, unit_by}
use Rattle.locale_numbers_formats.specs.SkeletonLaws as skeletons
use Rattle.locale_numbers_formats.specs.Skeletons.{skeleton_of}
use Rattle.locale_numbers_formats.specs.declared.Notation.{Notation}
use Rattle.locale_numbers_formats.specs.declared.Notation.TheVariants.{Standard, Compact, CompactDigits, Scientific}
use Rattle.locale_numbers_formats.specs.declared.NumberFormat.{NumberFormat}
use Rattle.locale_numbers_formats.specs.declared.NumberOptions.{NumberOptions}
use Rattle.locale_numbers_formats.specs.declared.NumberUnit.{NumberUnit}
use Rattle.locale_numbers_formats.specs.declared.NumberUnit.TheVariants as unit
use Rattle.locale_numbers_formats.specs.declared.SignAsked.{SignAsked}
use Rattle.locale_numbers_formats.specs.declared.Skeleton.{Skeleton}
use Rattle.locale_numbers_formats.specs.declared.SkeletonError.{SkeletonError}
use Rattle.locale_numbers_formats.specs.declared.SkeletonUnit.{SkeletonUnit}
use Rattle.locale_numbers_formats.specs.declared.SkeletonUnit.TheVariants as asked
use Rattle.locale_numbers_requests.specs.FormField.{colon, exact_by, first_of, form_for, form_named, form_with, format_exact, format_read, is_compact, listed_form, skeleton_by, skeleton_in, skeleton_task, unit_form}
use Rattle.locale_numbers_requests.specs.Laws.{FitDecimals, FitFormat, FitNotation, HasCode, IsAtMagnitude, RequestsAreAtMagnitude, RequestsHaveCodes}
use Rattle.locale_numbers_requests.specs.Request.{Asked, asked_by, fields, format_asked, format_by, grouping_named, options_by, placed, request_by, request_in, says_nothing, sign_named, takes}
use Rattle.locale_numbers_requests.specs.RoundingField.{rounding_named}
use Rattle.locale_numbers_requests.specs.UnitWord.{amount_by, amount_named, amount_word, percents_or, sign_of_percents, unit_named}
use Rattle.locale_numbers_requests.specs.declared.form_field.FormAsked.{FormAsked}
use Rattle.locale_numbers_requests.specs.declared.form_field.FormAsked.TheVariants.{OfWord, OfSkeleton}
use Rattle.locale_numbers_requests.specs.declared.form_field.Task.{Task}
use Rattle.locale_numbers_requests.specs.declared.form_field.Task.TheVariants.{Write, WriteExact, Read, ReadLenient, Category, RangeCategory}
use Rattle.locale_numbers_requests.specs.declared.rounding_field.DigitsAsked.{DigitsAsked}
use Rattle.locale_numbers_requests.specs.declared.unit_word.AmountWord.{AmountWord}
use Rattle.locale_numbers_requests.proofs.MagnitudeLemmas.{ArePlaced, read_placed, rounding_placed, skeleton_fits}

-- the unit of a format has a code, where it is a currency, and the options fit
record IsSound (format : NumberFormat) : Type 0 where
  code : HasCode format.shape.unit
  fits : FitFormat format

-- of a word the options are those of other fields
record IsSoundWord (notation : Notation) (unit : NumberUnit) : Type 0 where
  code : HasCode unit
  digits : FitNotation notation

abbrev IsSoundForm : FormAsked → Type 0
IsSoundForm (OfWord task notation unit) = IsSoundWord notation unit
IsSoundForm (OfSkeleton task format) = IsSound format

-- and so is each form that there may be
abbrev AreSound : Option FormAsked → Type 0
AreSound None = Unit {0}
AreSound (Some form) = IsSoundForm form

-- one of two forms, by a test
of_test : (b : Bool) (one other : Option FormAsked) → AreSound one → AreSound other → AreSound (if b then one else other)
of_test true one other sound rest = sound
of_test false one other sound rest = rest

-- ---- units

-- the unit that a word names has a code
abbrev HaveCode : Option NumberUnit → Type 0
HaveCode None = Unit {0}
HaveCode (Some unit) = HasCode unit

of_code : (word : Option AmountWord) (code : List ℕ) → HaveCode (amount_by word code)
of_code None code = tt
of_code (Some word) code = by (is_currency_code code) refl
  where
    by : (b : Bool) → is_currency_code code ≡ b → HaveCode (if b then Some (unit.Currency (record { code = code; style = word.style; width = word.width })) else None)
    by true known = known
    by false known = tt

of_sign : (sign : Option PercentSign) (other : Option NumberUnit) → HaveCode other → HaveCode (percents_or sign other)
of_sign None other has = has
of_sign (Some sign) other has = tt

unit_has_code : (word : List ℕ) → HaveCode (unit_named word)
unit_has_code word = of_sign (sign_of_percents word) (amount_named word) (of_code (amount_word (take (length word - 3) word)) (drop (length word - 3) word))

with_unit : (task : Task) (unit : Option NumberUnit) → HaveCode unit → AreSound (form_with task unit)
with_unit task None has = tt
with_unit task (Some unit) has = record { code = has; digits = tt }

of_units : (word : List ℕ) → AreSound (unit_form word)
of_units word =
    of_test (bytes_eq (take 13 word) (codes "read-lenient-")) _ _ (with_unit ReadLenient (unit_named (drop 13 word)) (unit_has_code (drop 13 word)))
    (of_test (bytes_eq (take 5 word) (codes "read-")) _ _ (with_unit Read (unit_named (drop 5 word)) (unit_has_code (drop 5 word)))
    (with_unit Write (unit_named word) (unit_has_code word)))

-- ---- skeletons

of_unit : (unit : SkeletonUnit) (s : Skeleton) → skeletons.HasCode unit → HasCode (unit_by unit s)
of_unit asked.None s has = tt
of_unit (asked.Percent sign) s has = tt
of_unit (asked.Currency code) s has = has

read_so : (f : NumberFormat) → IsSound f → IsSound (format_read f)
read_so f sound = record {
  code = sound.code;
  fits = record {
    options = record { position = read_placed f.options.rounding; integer = sound.fits.options.integer };
    digits = sound.fits.digits;
  };
}

exact_so : (notation : Notation) (f : NumberFormat) → FitNotation notation → IsSound f → IsSound (exact_by notation f)
exact_so Standard f fits sound = sound
exact_so (Compact width) f fits sound = sound
exact_so (CompactDigits width options) f fits sound = record { code = sound.code; fits = record { options = fits; digits = tt } }
exact_so (Scientific style options) f fits sound = sound

of_task : (task : Task) (f : NumberFormat) → IsSound f → AreSound (form_for task f)
of_task Write f sound = sound
of_task WriteExact f sound =
    of_test (is_compact f.shape.notation) (Some (OfSkeleton WriteExact (format_exact f))) None (exact_so f.shape.notation f sound.fits.digits sound) tt
of_task Read f sound = read_so f sound
of_task ReadLenient f sound = read_so f sound
of_task (Category rule_type) f sound = sound
of_task RangeCategory f sound = sound

of_skeleton : (task : Option Task) (text : List ℕ) (r : Result Skeleton SkeletonError) → skeleton_of text ≡ r → AreSound (skeleton_by task r)
of_skeleton None text r is = tt
of_skeleton (Some task) text (Err error) is = tt
of_skeleton (Some task) text (Ok s) is =
    of_task task (format_of s) (record { code = of_unit s.unit s (skeleton_is text s is).code; fits = skeleton_fits text s is })

of_pieces : (list : List (List ℕ)) → AreSound (skeleton_in list)
of_pieces [] = tt
of_pieces (a ∷ []) = tt
of_pieces (a ∷ b ∷ []) = tt
of_pieces (a ∷ b ∷ c ∷ []) = of_test (bytes_eq b []) (skeleton_by (skeleton_task a) (skeleton_of c)) None (of_skeleton (skeleton_task a) c (skeleton_of c) refl) tt
of_pieces (a ∷ b ∷ c ∷ d ∷ more) = tt

-- ---- forms

-- a word of a list, which has no unit, or what is after it
listed : (b : Bool) (task : Task) (notation : Notation) (rest : Option FormAsked) → FitNotation notation → AreSound rest
    → AreSound (if b then Some (OfWord task notation unit.None) else rest)
listed true task notation rest fits sound = record { code = tt; digits = fits }
listed false task notation rest fits sound = sound

-- options that change nothing fit
nothing_fits : FitDecimals unchanged
nothing_fits = record { position = tt; integer = omega arith }

of_list : (word : List ℕ) → AreSound (listed_form word)
of_list word =
    listed (bytes_eq word (codes "plain")) _ _ _ tt
    (listed (bytes_eq word (codes "short")) _ _ _ tt
    (listed (bytes_eq word (codes "long")) _ _ _ tt
    (listed (bytes_eq word (codes "exact-short")) _ _ _ tt
    (listed (bytes_eq word (codes "exact-long")) _ _ _ tt
    (listed (bytes_eq word (codes "read")) _ _ _ tt
    (listed (bytes_eq word (codes "read-lenient")) _ _ _ tt
    (listed (bytes_eq word (codes "plural")) _ _ _ tt
    (listed (bytes_eq word (codes "ordinal")) _ _ _ tt
    (listed (bytes_eq word (codes "range-plural")) _ _ _ tt
    (listed (bytes_eq word (codes "scientific")) _ _ _ nothing_fits
    (listed (bytes_eq word (codes "engineering")) _ _ _ nothing_fits tt)))))))))))

either : (first second : Option FormAsked) → AreSound first → AreSound second → AreSound (first_of first second)
either (Some form) second sound other = sound
either None second sound other = other

form_is_sound : (word : List ℕ) → AreSound (form_named word)
form_is_sound word = either (listed_form word) _ (of_list word) (either (unit_form word) _ (of_units word) (of_pieces (cut_at colon word)))

-- ---- requests

abbrev IsSoundAsked : Option Asked → Type 0
IsSoundAsked None = Unit {0}
IsSoundAsked (Some asked) = IsSound asked.format

if_taken : (b : Bool) (tag : List ℕ) (task : Task) (format : NumberFormat) (text : List ℕ) → IsSound format → IsSoundAsked (asked_by tag (if b then Some (task, format) else None) text)
if_taken true tag task format text sound = sound
if_taken false tag task format text sound = tt

-- options fit where they are placed
placed_so : (notation : Notation) (unit : NumberUnit) (g : GroupingStrategy) (options : NumberOptions) → IsSoundWord notation unit → FitDecimals options
    → IsSound (placed (record { notation = notation; unit = unit; grouping = g }) options)
placed_so Standard unit g options sound fits = record { code = sound.code; fits = record { options = fits; digits = tt } }
placed_so (Compact width) unit g options sound fits = record { code = sound.code; fits = record { options = fits; digits = tt } }
placed_so (CompactDigits width others) unit g options sound fits = record { code = sound.code; fits = record { options = fits; digits = sound.digits } }
placed_so (Scientific style others) unit g options sound fits = record { code = sound.code; fits = record { options = nothing_fits; digits = fits } }

of_form : (tag : List ℕ) (form : FormAsked) (g : GroupingStrategy) (s : SignAsked) (d : DigitsAsked) (text : List ℕ) → IsSoundForm form → IsAtMagnitude d.rounding
    → IsSoundAsked (asked_by tag (format_asked form g s d) text)
of_form tag (OfWord task notation unit) g s d text sound at =
    if_taken (takes task unit s d.rounding) tag task (format_by notation unit g s d) text
    (placed_so notation unit g (options_by s d) sound (record { position = at; integer = omega arith }))
of_form tag (OfSkeleton task format) g s d text sound at = if_taken (says_nothing g s d.rounding) tag task format text sound

request_is_sound : (tag : List ℕ) (f : Option FormAsked) (g : Option GroupingStrategy) (s : Option SignAsked) (d : Option DigitsAsked) (text : List ℕ) → AreSound f → ArePlaced d
    → IsSoundAsked (request_by tag f g s d text)
request_is_sound tag (Some form) (Some grouping) (Some sign) (Some digits) text sound at = of_form tag form grouping sign digits text sound at
request_is_sound tag (Some form) (Some grouping) (Some sign) None text sound at = tt
request_is_sound tag (Some form) (Some grouping) None d text sound at = tt
request_is_sound tag (Some form) None s d text sound at = tt
request_is_sound tag None g s d text sound at = tt

fields_are_sound : (list : List (List ℕ)) → IsSoundAsked (request_in list)
fields_are_sound [] = tt
fields_are_sound (a ∷ []) = tt
fields_are_sound (a ∷ b ∷ []) = tt
fields_are_sound (a ∷ b ∷ c ∷ []) = tt
fields_are_sound (a ∷ b ∷ c ∷ d ∷ []) = tt
fields_are_sound (a ∷ b ∷ c ∷ d ∷ e ∷ []) = tt
fields_are_sound (tag ∷ form ∷ grouping ∷ sign ∷ field ∷ text ∷ []) =
    request_is_sound tag (form_named form) (grouping_named grouping) (sign_named sign) (rounding_named field) text (form_is_sound form) (rounding_placed field)
fields_are_sound (a ∷ b ∷ c ∷ d ∷ e ∷ f ∷ g ∷ more) = tt

asked_is_sound : (line : List ℕ) (asked : Asked) → (if is_utf8 line then request_in (fields line) else None) ≡ Some asked → IsSound asked.format
asked_is_sound line asked is = by (is_utf8 line) is
  where
    by : (b : Bool) → (if b then request_in (fields line) else None) ≡ Some asked → IsSound asked.format
    by true same = subst IsSoundAsked same (fields_are_sound (fields line))
    by false same = absurd (cc)

pub have_codes : RequestsHaveCodes
have_codes line asked is = (asked_is_sound line asked is).code

pub requests_placed : RequestsAreAtMagnitude
requests_placed line asked is = (asked_is_sound line asked is).fits
