-- Texts that are read as files of words, and why they are refused: `specs/WordTexts.antt`.
use Rattle.std.proofs.Common.{Bor, ◌≡◌, ◌≢◌, ◌<◌, ◌+◌, ℕ, suc, map, drop, get_or, length, add-one, arith, true, List, ◌∷◌, None, Some, is_some, refl, sym, ap, ◌∙◌, subst}
use Rattle.std.proofs.Math.Seq.{drop-cons}
use Rattle.serde_json.specs.Data.{Data}
use Rattle.locale_numbers_book.specs.Form.{book_fault}
use Rattle.locale_numbers_book.specs.Json.{Reads}
use Rattle.locale_numbers_book.specs.Refusal.{IsRefused}
use Rattle.locale_numbers_book.specs.declared.BookError.{BookError}
use Rattle.locale_numbers_book.specs.declared.BookError.TheVariants as book
use Rattle.locale_numbers_words.specs.Faults.{IsTold}
use Rattle.locale_numbers_words.specs.Words.{WordsTables, file_fault}
use Rattle.locale_numbers_words.specs.declared.error.WordsError.{WordsError}
use Rattle.locale_numbers_words.specs.declared.error.WordsError.TheVariants as words
use Rattle.locale_numbers_word_book.specs.WordTexts.{AddsAll, AddsText, IsRefusedAt, IsRefusedText, Text}
use Rattle.locale_numbers_word_book.specs.declared.error.FileFault.{FileFault}
use Rattle.locale_numbers_word_book.specs.declared.error.FileFault.TheVariants.{Book, Words}

-- bytes say one value
pub one_value : (text : Text) (a b : Data) → Reads text a → Reads text b → a ≡ b
one_value text a b reads again = let same : Some a ≡ Some b = sym reads.1 ∙ again.1 in cc

-- ---- a text of another form

pub told_book : (before : WordsTables) (text : Text) (file value : Data) → Reads text file → file_fault before file ≡ Some words.Shape
    → Reads text value → book_fault value ≡ None → IsRefusedText before text Book
told_book before text file value reads shape again sound =
    let same : book_fault file ≡ None = subst (λ d. book_fault d ≡ None) (one_value text value file again reads) sound in
    (file, reads, rw (shape, same) refl)

some_fault : (text : Text) (file value : Data) (told : BookError) → Reads text file → Reads text value → book_fault value ≡ Some told → is_some (book_fault file) ≡ true
some_fault text file value told reads again is = rw (one_value text file value reads again, is) refl

-- what is refused as a book, and not for memory, is none
pub refused_book : (text : Text) (file : Data) (told : BookError) → Reads text file → told ≢ book.Memory → IsRefused text told → is_some (book_fault file) ≡ true
refused_book text file book.Json reads other refused = absurd (refused file reads)
refused_book text file book.Memory reads other refused = absurd (other refl)
refused_book text file book.Shape reads other refused = some_fault text file refused.0 book.Shape reads refused.1 refused.2
refused_book text file book.Tag reads other refused = some_fault text file refused.0 book.Tag reads refused.1 refused.2
refused_book text file book.System reads other refused = some_fault text file refused.0 book.System reads refused.1 refused.2
refused_book text file book.Text reads other refused = some_fault text file refused.0 book.Text reads refused.1 refused.2
refused_book text file book.Digits reads other refused = some_fault text file refused.0 book.Digits reads refused.1 refused.2
refused_book text file book.Condition reads other refused = some_fault text file refused.0 book.Condition reads refused.1 refused.2
refused_book text file book.Types reads other refused = some_fault text file refused.0 book.Types reads refused.1 refused.2
refused_book text file book.Exponents reads other refused = some_fault text file refused.0 book.Exponents reads refused.1 refused.2
refused_book text file book.Duplicate reads other refused = some_fault text file refused.0 book.Duplicate reads refused.1 refused.2
refused_book text file book.Cycle reads other refused = some_fault text file refused.0 book.Cycle reads refused.1 refused.2
refused_book text file book.Unit reads other refused = some_fault text file refused.0 book.Unit reads refused.1 refused.2
refused_book text file book.Code reads other refused = some_fault text file refused.0 book.Code reads refused.1 refused.2

pub told_shape : (before : WordsTables) (text : Text) (file : Data) → Reads text file → file_fault before file ≡ Some words.Shape
    → is_some (book_fault file) ≡ true → IsRefusedText before text (Words words.Shape)
told_shape before text file reads shape none = (file, reads, rw (shape, none) refl)

-- a fault of another kind is told as it is
pub told_other : (before : WordsTables) (text : Text) (file : Data) (fault : WordsError) → Reads text file → fault ≢ words.Shape
    → IsTold (file_fault before file) fault → IsRefusedText before text (Words fault)
told_other before text file words.Shape reads other told = absurd (other refl)
told_other before text file words.Memory reads other told = tt
told_other before text file words.Tag reads other told = (file, reads, rw told refl)
told_other before text file words.Text reads other told = (file, reads, rw told refl)
told_other before text file words.Duplicate reads other told = (file, reads, rw told refl)
told_other before text file words.Unit reads other told = (file, reads, rw told refl)
told_other before text file words.Code reads other told = (file, reads, rw told refl)
told_other before text file words.Measure reads other told = (file, reads, rw told refl)

-- ---- texts, one after the other

abbrev pub texts_of : List (Bor (List ℕ)) → List Text
texts_of xs = map (λ text. text.now) xs

-- the text at a place is read, where these were before it
module _ (xs : List (Bor (List ℕ))) (i number : ℕ) (d : Bor (List ℕ)) (initial before : WordsTables) (within : i < length xs) where
  next_text : texts_of (drop i xs) ≡ (get_or xs i d).now ∷ texts_of (drop (i + 1) xs)
  next_text = let step : drop i xs ≡ get_or xs i d ∷ drop (i + 1) xs = rw (add-one, drop-cons xs i d) refl in ap texts_of step

  pub text_refused : (fault : FileFault)
      → ((place : ℕ) (told : FileFault) → IsRefusedAt before (texts_of (drop i xs)) (suc place) told → IsRefusedAt initial (texts_of xs) (suc (number + place)) told)
      → IsRefusedText before (get_or xs i d).now fault → IsRefusedAt initial (texts_of xs) (number + 1) fault
  text_refused fault so_far refused =
      let here : IsRefusedAt before (texts_of (drop i xs)) 1 fault = subst (λ ts. IsRefusedAt before ts 1 fault) (sym next_text) refused in
      let count : suc (number + 0) ≡ number + 1 = omega arith in
      subst (λ n. IsRefusedAt initial (texts_of xs) n fault) count (so_far 0 fault here)

  module _ (middle : WordsTables) (adds : AddsText before (get_or xs i d).now middle) where
    pub text_added : ((after : WordsTables) → AddsAll before (texts_of (drop i xs)) after → AddsAll initial (texts_of xs) after)
        → (after : WordsTables) → AddsAll middle (texts_of (drop (i + 1) xs)) after → AddsAll initial (texts_of xs) after
    text_added so_far after rest = so_far after (subst (λ ts. AddsAll before ts after) (sym next_text) (middle, adds, rest))

    pub text_passed : ((place : ℕ) (told : FileFault) → IsRefusedAt before (texts_of (drop i xs)) (suc place) told → IsRefusedAt initial (texts_of xs) (suc (number + place)) told)
        → (place : ℕ) (told : FileFault) → IsRefusedAt middle (texts_of (drop (i + 1) xs)) (suc place) told → IsRefusedAt initial (texts_of xs) (suc (number + 1 + place)) told
    text_passed so_far place told rest =
        let here : IsRefusedAt before (texts_of (drop i xs)) (suc (suc place)) told = subst (λ ts. IsRefusedAt before ts (suc (suc place)) told) (sym next_text) (middle, adds, rest) in
        let count : suc (number + suc place) ≡ suc (number + 1 + place) = omega arith in
        subst (λ n. IsRefusedAt initial (texts_of xs) n told) count (so_far (suc place) told here)
