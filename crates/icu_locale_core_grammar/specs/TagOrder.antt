-- The order of values: language, script, region, variants, extensions; `None` before `Some`, lists by first difference.
-- Defined in docs/tags.md, "Orders".
-- Cited by `total_cmp` of every value, and by the laws that these orders are total and tell all values apart.
use Rattle.std.specs.Prelude.{List, Option}
use Rattle.std.specs.Option.{option_cmp}
use Rattle.std.specs.Cmp.Lexicographic.{slice_cmp}
use Rattle.std.specs.Ordering.{then_cmp, on}
use Rattle.std.specs.declared.cmp.Ordering.{Ordering}
use Rattle.icu_locale_core_grammar.specs.Subtags.{Text}
use Rattle.icu_locale_core_grammar.specs.Collections.{Entry, text_cmp}
use Rattle.icu_locale_core_grammar.specs.LanguagePart.{LanguageId}
use Rattle.icu_locale_core_grammar.specs.Meaning.{UnicodeMeaning, TransformMeaning, TagMeaning}
use Rattle.icu_locale_core_grammar.specs.TagPreferences.{Subdivision, DataLocaleMeaning}

abbrev pub texts_cmp : List Text → List Text → Ordering
texts_cmp a b = slice_cmp text_cmp a b

abbrev pub optional_cmp : Option Text → Option Text → Ordering
optional_cmp a b = option_cmp text_cmp a b

-- key, then value
abbrev pub entry_cmp : Entry → Entry → Ordering
entry_cmp a b = then_cmp (on (λ e. e.0) text_cmp) (on (λ e. e.1) texts_cmp) a b

abbrev pub entries_cmp : List Entry → List Entry → Ordering
entries_cmp a b = slice_cmp entry_cmp a b

abbrev pub language_cmp : LanguageId → LanguageId → Ordering
language_cmp a b =
    then_cmp (on (λ id. id.language) text_cmp)
    (then_cmp (on (λ id. id.script) optional_cmp)
    (then_cmp (on (λ id. id.region) optional_cmp) (on (λ id. id.variants) texts_cmp))) a b

-- attributes, then keywords
abbrev pub unicode_cmp : UnicodeMeaning → UnicodeMeaning → Ordering
unicode_cmp a b = then_cmp (on (λ u. u.head) texts_cmp) (on (λ u. u.entries) entries_cmp) a b

-- the inner language part, then fields
abbrev pub transform_cmp : TransformMeaning → TransformMeaning → Ordering
transform_cmp a b = then_cmp (on (λ t. t.head) (option_cmp language_cmp)) (on (λ t. t.entries) entries_cmp) a b

-- `u`, `t`, the private pieces, and then the others
abbrev pub tag_cmp : TagMeaning → TagMeaning → Ordering
tag_cmp a b =
    then_cmp (on (λ m. m.language) language_cmp)
    (then_cmp (on (λ m. m.extensions.unicode) unicode_cmp)
    (then_cmp (on (λ m. m.extensions.transform) transform_cmp)
    (then_cmp (on (λ m. m.private_use) texts_cmp) (on (λ m. m.extensions.others) entries_cmp)))) a b

-- region, then suffix
abbrev pub subdivision_cmp : Subdivision → Subdivision → Ordering
subdivision_cmp a b = then_cmp (on (λ s. s.region) text_cmp) (on (λ s. s.suffix) text_cmp) a b

abbrev pub data_locale_cmp : DataLocaleMeaning → DataLocaleMeaning → Ordering
data_locale_cmp a b =
    then_cmp (on (λ d. d.language) text_cmp)
    (then_cmp (on (λ d. d.script) optional_cmp)
    (then_cmp (on (λ d. d.region) optional_cmp)
    (then_cmp (on (λ d. d.variant) optional_cmp) (on (λ d. d.subdivision) (option_cmp subdivision_cmp))))) a b
