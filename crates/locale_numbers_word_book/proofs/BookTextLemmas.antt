-- A book and its words, of texts, and why they are refused: `specs/WordTexts.antt`.
use Rattle.std.proofs.Common.{◌≡◌, ◌≢◌, List, None, Some, option_map, refl, subst}
use Rattle.serde_json.specs.Data.{Data}
use Rattle.locale_numbers_book.specs.Json.{Reads}
use Rattle.locale_numbers_book.specs.Refusal.{IsRefused}
use Rattle.locale_numbers_book.specs.declared.BookError.{BookError}
use Rattle.locale_numbers_book.specs.declared.BookError.TheVariants as book
use Rattle.locale_numbers_words.specs.Words.{WordsTables, file_fault, no_words}
use Rattle.locale_numbers_words.specs.declared.error.WordsError.TheVariants as words
use Rattle.locale_numbers_word_book.specs.WordTexts.{AddsText, AreRefused, IsRefusedText, Text, told_as}
use Rattle.locale_numbers_word_book.specs.declared.error.FileFault.{FileFault}
use Rattle.locale_numbers_word_book.specs.declared.error.FileFault.TheVariants.{Json, Book, Words}
use Rattle.locale_numbers_word_book.specs.declared.error.TextsError.TheVariants as texts
use Rattle.locale_numbers_word_book.proofs.WordTextLemmas.{one_value}

-- a book of another form that is words
pub told_words : (text : Text) (files : List Text) (after : WordsTables) → IsRefused text book.Shape → AddsText no_words text after → AreRefused text files texts.Words
told_words text files after refused adds =
    (refused.0, refused.1, refused.2, subst (λ d. file_fault no_words d ≡ None) (one_value text adds.file refused.0 adds.reads refused.1) adds.sound)

told_some : (text : Text) (value file : Data) (told : FileFault) → Reads text value → Reads text file
    → option_map (told_as file) (file_fault no_words file) ≡ Some told → file_fault no_words value ≢ None
told_some text value file told reads again is none =
    let gone : file_fault no_words file ≡ None = subst (λ d. file_fault no_words d ≡ None) (one_value text value file reads again) none in
    let same : option_map (told_as file) (file_fault no_words file) ≡ None = rw gone refl in
    cc

-- what is refused as words, and not for memory, says none
refused_words : (text : Text) (value : Data) (fault : FileFault) → Reads text value → fault ≢ Words words.Memory → IsRefusedText no_words text fault
    → file_fault no_words value ≢ None
refused_words text value Json reads other refused = absurd (refused value reads)
refused_words text value Book reads other refused = told_some text value refused.0 Book reads refused.1 refused.2
refused_words text value (Words words.Memory) reads other refused = absurd (other refl)
refused_words text value (Words words.Shape) reads other refused = told_some text value refused.0 (Words words.Shape) reads refused.1 refused.2
refused_words text value (Words words.Tag) reads other refused = told_some text value refused.0 (Words words.Tag) reads refused.1 refused.2
refused_words text value (Words words.Text) reads other refused = told_some text value refused.0 (Words words.Text) reads refused.1 refused.2
refused_words text value (Words words.Duplicate) reads other refused = told_some text value refused.0 (Words words.Duplicate) reads refused.1 refused.2
refused_words text value (Words words.Unit) reads other refused = told_some text value refused.0 (Words words.Unit) reads refused.1 refused.2
refused_words text value (Words words.Code) reads other refused = told_some text value refused.0 (Words words.Code) reads refused.1 refused.2
refused_words text value (Words words.Measure) reads other refused = told_some text value refused.0 (Words words.Measure) reads refused.1 refused.2

-- a book of another form that is no words
pub told_form : (text : Text) (files : List Text) (fault : FileFault) → IsRefused text book.Shape → fault ≢ Words words.Memory
    → IsRefusedText no_words text fault → AreRefused text files (texts.Book book.Shape)
told_form text files fault refused other none = (refused.0, refused.1, refused.2, refused_words text refused.0 fault refused.1 other none)

-- a book with another fault
pub told_fault : (text : Text) (files : List Text) (fault : BookError) → fault ≢ book.Shape → IsRefused text fault → AreRefused text files (texts.Book fault)
told_fault text files book.Shape other refused = absurd (other refl)
told_fault text files book.Json other refused = refused
told_fault text files book.Memory other refused = refused
told_fault text files book.Tag other refused = refused
told_fault text files book.System other refused = refused
told_fault text files book.Text other refused = refused
told_fault text files book.Digits other refused = refused
told_fault text files book.Condition other refused = refused
told_fault text files book.Types other refused = refused
told_fault text files book.Exponents other refused = refused
told_fault text files book.Duplicate other refused = refused
told_fault text files book.Cycle other refused = refused
told_fault text files book.Unit other refused = refused
told_fault text files book.Code other refused = refused
