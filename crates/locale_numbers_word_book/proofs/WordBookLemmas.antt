-- Laws of books with words: `specs/WordBookLaws.antt`.
use Rattle.std.proofs.Common.{◌≡◌, ℕ, zero, suc, List, [], ◌∷◌, Option, None, Some, option_map, refl, sym, ap, ◌∙◌, subst}
use Rattle.std.specs.Option.{option_and_then, option_or}
use Rattle.serde_json.specs.Data.{Data}
use Rattle.icu_locale_core.specs.TagPreferences.{DataLocaleMeaning}
use Rattle.locale_numbers_book.specs.Form.{book_fault}
use Rattle.locale_numbers_book.specs.Json.{Reads}
use Rattle.locale_numbers_book.specs.declared.BookError.{BookError}
use Rattle.locale_numbers_book.specs.declared.BookError.TheVariants as book
use Rattle.locale_numbers_words.specs.FoundWords.{currency_words, first_found, parts_words, patterns_for, unit_for, unit_words, words_of}
use Rattle.locale_numbers_words.specs.UnitNames.{per_parts}
use Rattle.locale_numbers_words.specs.Words.{WordsTables, file_fault, no_words, words_with}
use Rattle.locale_numbers_words.specs.declared.error.WordsError.TheVariants as words
use Rattle.locale_numbers_words.specs.declared.width.UnitWidth.{UnitWidth}
use Rattle.locale_numbers_word_book.specs.WordBookLaws.{BookAloneStays, NothingIsFound, RefusedAreNone, RootIsNotAsked}
use Rattle.locale_numbers_word_book.specs.WordErrors.{file_number}
use Rattle.locale_numbers_word_book.specs.WordLocales.{with_root}
use Rattle.locale_numbers_word_book.specs.WordTexts.{AddsAll, AddsText, IsRefusedAt, IsRefusedText, Text, told_as}
use Rattle.locale_numbers_word_book.specs.declared.error.FileFault.{FileFault}
use Rattle.locale_numbers_word_book.specs.declared.error.FileFault.TheVariants.{Json, Book, Words}
use Rattle.locale_numbers_word_book.specs.declared.error.TextsError.TheVariants as texts
use Rattle.locale_numbers_word_book.proofs.WordTextLemmas.{one_value}

pub book_alone : BookAloneStays
book_alone text book words = (
  λ t. ((t.value, t.reads, t.is_book), t.adds),
  λ p. record { value = p.0.0; reads = p.0.1; is_book = p.0.2; adds = p.1 },
)

-- ---- what is read is not refused

one_addition : (before a b : WordsTables) (text : Text) → AddsText before text a → AddsText before text b → a ≡ b
one_addition before a b text x y = x.same ∙ ap (words_with before) (one_value text x.file y.file x.reads y.reads) ∙ sym y.same

no_fault : (before after : WordsTables) (text : Text) (file : Data) (told : FileFault) → AddsText before text after → Reads text file
    → option_map (told_as file) (file_fault before file) ≡ Some told → ⊥
no_fault before after text file told adds reads is =
    let gone : file_fault before file ≡ None = subst (λ d. file_fault before d ≡ None) (one_value text adds.file file adds.reads reads) adds.sound in
    let same : option_map (told_as file) (file_fault before file) ≡ None = rw gone refl in
    cc

refused_text : (before after : WordsTables) (text : Text) (fault : FileFault) → AddsText before text after → IsRefusedText before text fault → file_number fault ≡ 12
refused_text before after text Json adds refused = absurd (refused adds.file adds.reads)
refused_text before after text Book adds refused = absurd (no_fault before after text refused.0 Book adds refused.1 refused.2)
refused_text before after text (Words words.Memory) adds refused = refl
refused_text before after text (Words words.Shape) adds refused = absurd (no_fault before after text refused.0 (Words words.Shape) adds refused.1 refused.2)
refused_text before after text (Words words.Tag) adds refused = absurd (no_fault before after text refused.0 (Words words.Tag) adds refused.1 refused.2)
refused_text before after text (Words words.Text) adds refused = absurd (no_fault before after text refused.0 (Words words.Text) adds refused.1 refused.2)
refused_text before after text (Words words.Duplicate) adds refused = absurd (no_fault before after text refused.0 (Words words.Duplicate) adds refused.1 refused.2)
refused_text before after text (Words words.Unit) adds refused = absurd (no_fault before after text refused.0 (Words words.Unit) adds refused.1 refused.2)
refused_text before after text (Words words.Code) adds refused = absurd (no_fault before after text refused.0 (Words words.Code) adds refused.1 refused.2)
refused_text before after text (Words words.Measure) adds refused = absurd (no_fault before after text refused.0 (Words words.Measure) adds refused.1 refused.2)

refused_at : (before after : WordsTables) (files : List Text) (number : ℕ) (fault : FileFault) → AddsAll before files after → IsRefusedAt before files number fault
    → file_number fault ≡ 12
refused_at before after [] number fault adds refused = absurd refused
refused_at before after (text ∷ rest) zero fault adds refused = absurd refused
refused_at before after (text ∷ rest) (suc zero) fault adds refused = refused_text before adds.0 text fault adds.1 refused
refused_at before after (text ∷ rest) (suc (suc number)) fault adds refused =
    refused_at adds.0 after rest (suc number) fault adds.2
    (subst (λ w. IsRefusedAt w rest (suc number) fault) (one_addition before refused.0 adds.0 text refused.1 adds.1) refused.2)

no_book_fault : (text : Text) (value other : Data) (told : BookError) → Reads text value → book_fault value ≡ None → Reads text other → book_fault other ≡ Some told → ⊥
no_book_fault text value other told reads sound again is =
    let none : book_fault other ≡ None = subst (λ d. book_fault d ≡ None) (one_value text value other reads again) sound in
    cc

pub refused_none : RefusedAreNone
refused_none text files tables words (texts.Book book.Shape) t refused = absurd (no_book_fault text t.value refused.0 book.Shape t.reads t.is_book.sound refused.1 refused.2)
refused_none text files tables words (texts.Book book.Memory) t refused = refl
refused_none text files tables words (texts.Book book.Json) t refused = absurd (refused t.value t.reads)
refused_none text files tables words (texts.Book book.Tag) t refused = absurd (no_book_fault text t.value refused.0 book.Tag t.reads t.is_book.sound refused.1 refused.2)
refused_none text files tables words (texts.Book book.System) t refused = absurd (no_book_fault text t.value refused.0 book.System t.reads t.is_book.sound refused.1 refused.2)
refused_none text files tables words (texts.Book book.Text) t refused = absurd (no_book_fault text t.value refused.0 book.Text t.reads t.is_book.sound refused.1 refused.2)
refused_none text files tables words (texts.Book book.Digits) t refused = absurd (no_book_fault text t.value refused.0 book.Digits t.reads t.is_book.sound refused.1 refused.2)
refused_none text files tables words (texts.Book book.Condition) t refused = absurd (no_book_fault text t.value refused.0 book.Condition t.reads t.is_book.sound refused.1 refused.2)
refused_none text files tables words (texts.Book book.Types) t refused = absurd (no_book_fault text t.value refused.0 book.Types t.reads t.is_book.sound refused.1 refused.2)
refused_none text files tables words (texts.Book book.Exponents) t refused = absurd (no_book_fault text t.value refused.0 book.Exponents t.reads t.is_book.sound refused.1 refused.2)
refused_none text files tables words (texts.Book book.Duplicate) t refused = absurd (no_book_fault text t.value refused.0 book.Duplicate t.reads t.is_book.sound refused.1 refused.2)
refused_none text files tables words (texts.Book book.Cycle) t refused = absurd (no_book_fault text t.value refused.0 book.Cycle t.reads t.is_book.sound refused.1 refused.2)
refused_none text files tables words (texts.Book book.Unit) t refused = absurd (no_book_fault text t.value refused.0 book.Unit t.reads t.is_book.sound refused.1 refused.2)
refused_none text files tables words (texts.Book book.Code) t refused = absurd (no_book_fault text t.value refused.0 book.Code t.reads t.is_book.sound refused.1 refused.2)
refused_none text files tables words texts.Words t refused = absurd (no_book_fault text t.value refused.0 book.Shape t.reads t.is_book.sound refused.1 refused.2)
refused_none text files tables words (texts.File error) t refused = refused_at no_words words files error.file error.fault t.adds refused.refused

-- ---- where there are no words of a language

pub root_not_asked : RootIsNotAsked
root_not_asked words own none =
    let same : with_root words own ≡ own = rw none refl in
    (λ code. ap (currency_words words code) same ∙ rw none refl, λ width unit. ap (unit_words words width unit) same)

nothing : {V : Type 0} (find : DataLocaleMeaning → Option V) → ((locale : DataLocaleMeaning) → find locale ≡ None) → (locales : List DataLocaleMeaning)
    → first_found find locales ≡ None
nothing find none [] = refl
nothing find none (locale ∷ locales) = rw (none locale) (nothing find none locales)

no_patterns : (locales : List DataLocaleMeaning) → patterns_for no_words locales ≡ None
no_patterns locales = nothing _ (λ locale. refl) locales

no_unit : (width : UnitWidth) (unit : List ℕ) (locales : List DataLocaleMeaning) → unit_for no_words width unit locales ≡ None
no_unit width unit locales = nothing _ (λ locale. refl) locales

no_parts : (width : UnitWidth) (locales : List DataLocaleMeaning) (parts : Option (List ℕ × List ℕ))
    → option_and_then (λ p. parts_words no_words width p locales) parts ≡ None
no_parts width locales None = refl
no_parts width locales (Some p) = rw (no_unit width p.0 locales) refl

no_unit_words : (width : UnitWidth) (unit : List ℕ) (locales : List DataLocaleMeaning) → unit_words no_words width unit locales ≡ None
no_unit_words width unit locales =
    ap (λ found. option_or (option_map (λ f. words_of f.words) found) (option_and_then (λ parts. parts_words no_words width parts locales) (per_parts unit))) (no_unit width unit locales)
    ∙ no_parts width locales (per_parts unit)

pub nothing_found : NothingIsFound
nothing_found own = (λ code. rw (no_patterns (with_root no_words own)) refl, λ width unit. no_unit_words width unit (with_root no_words own))
