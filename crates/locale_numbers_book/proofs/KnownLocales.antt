-- Rows of docs/books.md, "The locales of a book": the locale that is found for a tag.
use Rattle.std.proofs.Common.{◌≡◌, codes, Ok, Err, refl}
use Rattle.icu_locale_core.specs.Stepping.{headed_after, whole_after}
use Rattle.icu_locale_core.specs.TagStages.{with_piece, body_after}
use Rattle.locale_numbers_book.specs.FoundLocale.{locale_for}
use Rattle.locale_numbers_book.specs.SampleBook.{egyptian, english, sample_tables}
use Rattle.locale_numbers_book.specs.SampleUnitsBook.{german, sample_units_tables, swiss}
use Rattle.locale_numbers_book.specs.declared.formatter_error.FormatterError.TheVariants.{Tag, Table}
use Rattle.locale_numbers_tables.specs.TagReading.{tag_of}

own_tables : locale_for sample_units_tables (codes "DE-ch") ≡ Ok swiss
unfolding tag_of whole_after headed_after body_after with_piece
own_tables = refl

of_its_parent : locale_for sample_units_tables (codes "de-AT-1996") ≡ Ok german
unfolding tag_of whole_after headed_after body_after with_piece
of_its_parent = refl

-- a system is no part of a locale
another_system : locale_for sample_tables (codes "ar-EG-u-nu-thai") ≡ Ok egyptian
unfolding tag_of whole_after headed_after body_after with_piece
another_system = refl

unknown_system : locale_for sample_units_tables (codes "en-u-nu-wxyz") ≡ Ok english
unfolding tag_of whole_after headed_after body_after with_piece
unknown_system = refl

-- nothing is below a language, and without parents nothing below a region
no_tables : locale_for sample_units_tables (codes "fr") ≡ Err Table
unfolding tag_of whole_after headed_after body_after with_piece
no_tables = refl

no_parents : locale_for sample_tables (codes "en-US") ≡ Err Table
unfolding tag_of whole_after headed_after body_after with_piece
no_parents = refl

no_tag : locale_for sample_tables (codes "en-") ≡ Err Tag
unfolding tag_of whole_after headed_after body_after with_piece
no_tag = refl
