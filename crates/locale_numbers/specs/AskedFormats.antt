-- Requests that laws speak of: with a task and a shape of their own, and the tag of another request.
-- Defined in docs/requests.md, "Request line".
-- Cited by the statements of laws.
use Rattle.std.specs.Prelude.{ℕ, pos, List}
use Rattle.icu_decimal.specs.declared.options.GroupingStrategy.{GroupingStrategy}
use Rattle.locale_numbers_formats.specs.declared.CompactWidth.{CompactWidth}
use Rattle.locale_numbers_formats.specs.declared.LeadingZeros.TheVariants as leading
use Rattle.locale_numbers_formats.specs.declared.Notation.TheVariants.{Standard, Compact}
use Rattle.locale_numbers_formats.specs.declared.NumberOptions.{NumberOptions}
use Rattle.locale_numbers_formats.specs.declared.NumberShape.{NumberShape}
use Rattle.locale_numbers_formats.specs.declared.NumberUnit.{NumberUnit}
use Rattle.locale_numbers_formats.specs.declared.NumberUnit.TheVariants as unit
use Rattle.locale_numbers_formats.specs.declared.Rounding.{Rounding}
use Rattle.locale_numbers_formats.specs.declared.SignAsked.{SignAsked}
use Rattle.locale_numbers_formats.specs.declared.SignAsked.TheVariants.{Keep}
use Rattle.locale_numbers_formats.specs.declared.TrailingZeros.TheVariants as trailing
use Rattle.locale_numbers_requests.specs.Request.{Asked}
use Rattle.locale_numbers_requests.specs.declared.Task.{Task}

-- numbers with all their digits: plain, or with a unit
abbrev pub shape_with : NumberUnit → GroupingStrategy → NumberShape
shape_with unit grouping = record { notation = Standard; unit = unit; grouping = grouping }

abbrev pub plain_shape : GroupingStrategy → NumberShape
plain_shape grouping = shape_with unit.None grouping

-- compact numbers, without a unit
abbrev pub compact_shape : CompactWidth → GroupingStrategy → NumberShape
compact_shape width grouping = record { notation = Compact width; unit = unit.None; grouping = grouping }

-- a rounding and a sign: no zero is trimmed, and none added
abbrev pub options_of : Rounding → SignAsked → NumberOptions
options_of rounding sign = record {
  rounding = rounding;
  leading_zeros = leading.Keep;
  zeros = trailing.Keep;
  integer_digits = pos 0;
  fraction_digits = pos 0;
  sign = sign;
}

-- the same options, with the sign that was given
abbrev pub keeping : NumberOptions → NumberOptions
keeping options = record options { sign = Keep }

-- a request with the tag of another
abbrev pub request_like : Asked → Task → NumberShape → NumberOptions → List ℕ → Asked
request_like asked task shape options text = record { tag = asked.tag; task = task; format = record { shape = shape; options = options }; text = text }

-- the grouping of a request
abbrev pub grouping_in : Asked → GroupingStrategy
grouping_in asked = asked.format.shape.grouping
