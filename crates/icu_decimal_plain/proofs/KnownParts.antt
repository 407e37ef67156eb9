-- Where the parts of a number are: the table of docs/formatters.md, "Formatted numbers".
use Rattle.std.proofs.Common.{◌≡◌, ℕ, ◌*◌, ◌^◌, [], ◌∷◌, refl}
use Rattle.std.specs.List.{range_with_len}
use Rattle.std.specs.Prelude.{codes}
use Rattle.fixed_decimal.specs.declared.Sign.{Sign}
use Rattle.fixed_decimal.specs.declared.Sign.TheVariants.{None as NoSign, Negative, Positive}
use Rattle.fixed_decimal.specs.Number.{Number}
use Rattle.fixed_decimal.specs.SignedValue.{SignedValue}
use Rattle.icu_decimal_symbols.specs.declared.options.GroupingStrategy.TheVariants.{Auto}
use Rattle.icu_decimal_symbols.specs.Symbols.{english_strings}
use Rattle.icu_decimal_plain.specs.PartIntervals.{decimal_annotated, integer_parts}
use Rattle.icu_decimal_plain.specs.PlainText.{Tables}
use Rattle.icu_decimal_grouping.proofs.KnownValues.{sizes_of}
use Rattle.icu_decimal_plain.proofs.KnownValues.{english, latin_digits, part_at}

-- so many tenths, the magnitudes from 3 to -1 shown
tenths_shown : Sign → ℕ → SignedValue Number
tenths_shown sign tenths = record { sign = sign; absolute = record { count = tenths * 10 ^ 32767; low = 32767; high = 32771 } }

-- `-1,234.5`
minus_run : decimal_annotated english (tenths_shown Negative 12345)
    ≡ record { text = codes "-1,234.5"; parts = part_at 0 1 (codes "minusSign") ∷ part_at 1 6 (codes "integer") ∷ part_at 2 3 (codes "group") ∷ part_at 6 7 (codes "decimal") ∷ part_at 7 8 (codes "fraction") ∷ [] }
unfolding tenths_shown lib.Utf8.encode
minus_run = refl

-- `0,000.5`: zeros in front are digits like others
zeros_run : decimal_annotated english (tenths_shown NoSign 5)
    ≡ record { text = codes "0,000.5"; parts = part_at 0 5 (codes "integer") ∷ part_at 1 2 (codes "group") ∷ part_at 5 6 (codes "decimal") ∷ part_at 6 7 (codes "fraction") ∷ [] }
unfolding tenths_shown lib.Utf8.encode
zeros_run = refl

-- separators without bytes are no parts
abbrev bare : Tables
bare = record {
  symbols = record {
    strings = record {
      minus_sign_prefix = codes "(";
      minus_sign_suffix = codes ")";
      plus_sign_prefix = [];
      plus_sign_suffix = codes "+";
      decimal_separator = [];
      grouping_separator = [];
      numsys = codes "latn";
    };
    grouping_sizes = sizes_of 3 3 1;
  };
  digits = latin_digits;
  strategy = Auto;
}

bare_run : decimal_annotated bare (tenths_shown Negative 12345)
    ≡ record { text = codes "(12345)"; parts = part_at 0 1 (codes "minusSign") ∷ part_at 1 5 (codes "integer") ∷ part_at 5 6 (codes "fraction") ∷ part_at 6 7 (codes "minusSign") ∷ [] }
unfolding tenths_shown lib.Utf8.encode
bare_run = refl

-- a suffix alone
suffix_run : decimal_annotated bare (tenths_shown Positive 12345)
    ≡ record { text = codes "12345+"; parts = part_at 0 4 (codes "integer") ∷ part_at 4 5 (codes "fraction") ∷ part_at 5 6 (codes "plusSign") ∷ [] }
unfolding tenths_shown lib.Utf8.encode
suffix_run = refl

-- Bengali digits, of three bytes each, in threes and twos: two digits, a comma, two digits, a comma, three digits
bengali_run : integer_parts 0 (record { symbols = record { strings = english_strings; grouping_sizes = sizes_of 3 2 1 }; digits = range_with_len 2534 10; strategy = Auto }) (1 ∷ 0 ∷ 0 ∷ 0 ∷ 0 ∷ 0 ∷ 7 ∷ [])
    ≡ part_at 0 23 (codes "integer") ∷ part_at 6 7 (codes "group") ∷ part_at 13 14 (codes "group") ∷ []
unfolding lib.Utf8.encode
bengali_run = refl
