-- What words of marks set: a zero for each digit that is shown, a hash for each that may be.
-- ICU's number skeletons; docs/skeletons.md, "Words".
-- Cited by the calls that read skeletons, through Stems.antt.
use Rattle.std.specs.Prelude.{ℕ, ◌+◌, ◌==◌, ◌&&◌, ◌||◌, nat_lt, if◌then◌else◌, List, [], ◌∷◌, drop, Option, Some, None, codes}
use Rattle.std.specs.Str.{bytes_eq}
use Rattle.locale_numbers_formats.specs.ExponentWords.{exponent_setting}
use Rattle.locale_numbers_formats.specs.Runs.{leading, marks_alone}
use Rattle.locale_numbers_formats.specs.declared.options.RoundingPriority.TheVariants.{MorePrecision, LessPrecision}
use Rattle.locale_numbers_formats.specs.declared.skeleton_error.WordFault.{WordFault}
use Rattle.locale_numbers_formats.specs.declared.skeleton_error.WordFault.TheVariants.{Unknown, Unsupported}
use Rattle.locale_numbers_formats.specs.declared.stems.Precision.TheVariants.{Fraction, AtLeast, Whole, Significant, SignificantAtLeast, Either}
use Rattle.locale_numbers_formats.specs.declared.stems.Setting.{Setting}
use Rattle.locale_numbers_formats.specs.declared.stems.Setting.TheVariants.{OfPrecision, OfWhole, Refused}
use Rattle.locale_numbers_formats.specs.declared.stems.WholeZeros.TheVariants.{Shown, Hidden}

-- zeros alone are so many integer digits
abbrev pub whole_or : WordFault → Option ℕ → Setting
whole_or fault None = Refused fault
whole_or fault (Some digits) = OfWhole digits

abbrev pub zeros_or : WordFault → List ℕ → Setting
zeros_or fault zeros = whole_or fault (marks_alone 48 zeros)

-- a star or a plus, and zeros
abbrev pub padded_setting : List ℕ → Setting
padded_setting [] = Refused Unsupported
padded_setting (c ∷ zeros) = if (c == 42) || (c == 43) then zeros_or Unsupported zeros else Refused Unsupported

-- ---- significant digits: an at-sign for each that is shown, a hash for each that may be

-- what follows these: nothing, or a star or a plus after at-signs alone; and `/w`
abbrev pub digits_end : ℕ → ℕ → List ℕ → Setting
digits_end least more end =
    if bytes_eq end [] then OfPrecision (Significant least more Shown)
    else if bytes_eq end (codes "/w") then OfPrecision (Significant least more Hidden)
    else if (more == 0) && (bytes_eq end (codes "*") || bytes_eq end (codes "+")) then OfPrecision (SignificantAtLeast least Shown)
    else if (more == 0) && (bytes_eq end (codes "*/w") || bytes_eq end (codes "+/w")) then OfPrecision (SignificantAtLeast least Hidden)
    else Refused Unknown

-- a hundred digits at most
abbrev pub digits_counted : ℕ → ℕ → List ℕ → Setting
digits_counted least more end = if nat_lt 100 (least + more) then Refused Unknown else digits_end least more end

abbrev pub digits_hashes : ℕ → List ℕ → Setting
digits_hashes least rest = digits_counted least (leading 35 rest) (drop (leading 35 rest) rest)

-- what an at-sign sets, by the marks after it
abbrev pub digits_setting : List ℕ → Setting
digits_setting marks = digits_hashes (1 + leading 64 marks) (drop (leading 64 marks) marks)

-- ---- digits of a fraction, and significant digits beside them

-- without a priority at least so many significant digits, as `.0#/@@@*`, or at most so many, as `.0#/@##`; the fraction has its least digits in any case
abbrev pub old_end : ℕ → ℕ → ℕ → ℕ → List ℕ → Setting
old_end least more digits others end =
    if (bytes_eq end (codes "*") || bytes_eq end (codes "+")) && (others == 0) then OfPrecision (Either least more 0 digits MorePrecision Shown)
    else if (bytes_eq end (codes "*/w") || bytes_eq end (codes "+/w")) && (others == 0) then OfPrecision (Either least more 0 digits MorePrecision Hidden)
    else if bytes_eq end [] && (digits == 1) then OfPrecision (Either least more 0 (digits + others) LessPrecision Shown)
    else if bytes_eq end (codes "/w") && (digits == 1) then OfPrecision (Either least more 0 (digits + others) LessPrecision Hidden)
    else Refused Unknown

-- relaxed is more precision, strict is less
abbrev pub either_end : ℕ → ℕ → ℕ → ℕ → List ℕ → Setting
either_end least more digits others end =
    if bytes_eq end (codes "r") then OfPrecision (Either least more digits others MorePrecision Shown)
    else if bytes_eq end (codes "r/w") then OfPrecision (Either least more digits others MorePrecision Hidden)
    else if bytes_eq end (codes "s") then OfPrecision (Either least more digits others LessPrecision Shown)
    else if bytes_eq end (codes "s/w") then OfPrecision (Either least more digits others LessPrecision Hidden)
    else old_end least more digits others end

-- a hundred digits at most
abbrev pub either_counted : ℕ → ℕ → ℕ → ℕ → List ℕ → Setting
either_counted least more digits others end =
    if nat_lt 100 (digits + others) then Refused Unknown else either_end least more digits others end

abbrev pub either_hashes : ℕ → ℕ → ℕ → List ℕ → Setting
either_hashes least more digits rest = either_counted least more digits (leading 35 rest) (drop (leading 35 rest) rest)

abbrev pub either_setting : ℕ → ℕ → List ℕ → Setting
either_setting least more marks = either_hashes least more (1 + leading 64 marks) (drop (leading 64 marks) marks)

-- what follows the slash behind a fraction: significant digits, or `w`
abbrev pub option_setting : ℕ → ℕ → List ℕ → Setting
option_setting least more [] = Refused Unknown
option_setting least more (c ∷ cs) =
    if c == 64 then either_setting least more cs
    else if bytes_eq (c ∷ cs) (codes "w") then OfPrecision (Whole least more)
    else Refused Unknown

-- what follows zeros and hashes: nothing, a slash, or a star or a plus after some zeros
abbrev pub fraction_end : ℕ → ℕ → List ℕ → Setting
fraction_end least more [] = OfPrecision (Fraction least more)
fraction_end least more (c ∷ cs) =
    if c == 47 then option_setting least more cs
    else if (more == 0) && (nat_lt 0 least && (bytes_eq (c ∷ cs) (codes "*") || bytes_eq (c ∷ cs) (codes "+"))) then OfPrecision (AtLeast least)
    else Refused Unknown

-- a hundred digits at most
abbrev pub fraction_counted : ℕ → ℕ → List ℕ → Setting
fraction_counted least more end = if nat_lt 100 (least + more) then Refused Unknown else fraction_end least more end

abbrev pub fraction_hashes : ℕ → List ℕ → Setting
fraction_hashes least rest = fraction_counted least (leading 35 rest) (drop (leading 35 rest) rest)

-- what a point sets, by the marks after it
abbrev pub fraction_setting : List ℕ → Setting
fraction_setting marks = fraction_hashes (leading 48 marks) (drop (leading 48 marks) marks)

-- ---- the word

-- a point with marks after it, zeros, at-signs, or an exponent
abbrev pub marked : List ℕ → Option Setting
marked [] = None
marked (c ∷ marks) =
    if c == 46 then Some (fraction_setting marks)
    else if c == 48 then Some (zeros_or Unknown (c ∷ marks))
    else if c == 64 then Some (digits_setting marks)
    else if c == 69 then Some (exponent_setting marks)
    else None
