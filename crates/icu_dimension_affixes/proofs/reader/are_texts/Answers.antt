use Rattle.std.proofs.Common.{subst}
use Rattle.std.specs.Str.{IsUtf8}
use Rattle.icu_dimension_affixes.specs.HeldReaders.{reader_of}
use Rattle.icu_dimension_affixes.proofs.UnitReadingLemmas.{are_reader_texts}
use Rattle.icu_dimension_affixes.proofs.reader.are_texts.Goals as goal

-- each is the text of a string
pub returns : goal.returns
returns c =
    are_reader_texts (reader_of c.args.decimals.now c.args.none.now c.args.minus.now c.args.plus.now) c.are_tables.ensures
    (subst IsUtf8 c.as_str-none_before.ensures.value c.as_str-none_before.utf8)
    (subst IsUtf8 c.as_str-none_after.ensures.value c.as_str-none_after.utf8)
    (subst IsUtf8 c.as_str-minus_before.ensures.value c.as_str-minus_before.utf8)
    (subst IsUtf8 c.as_str-minus_after.ensures.value c.as_str-minus_after.utf8)
    (subst IsUtf8 c.as_str-plus_before.ensures.value c.as_str-plus_before.utf8)
    (subst IsUtf8 c.as_str-plus_after.ensures.value c.as_str-plus_after.utf8)
