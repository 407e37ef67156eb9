-- Which formats ask for numbers alone, and what a text that is no book is told as: those of docs/books.md, "The small book of a tag".
use Rattle.std.proofs.Common.{◌≡◌, ℕ, ℤ, Bool, true, false, List, [], ◌∷◌, Result, Ok, refl}
use Rattle.std.specs.Prelude.{codes, pos}
use Rattle.std.specs.Result.{result_map_both}
use Rattle.locale_numbers.specs.declared.BookError.TheVariants.{Json}
use Rattle.locale_numbers.specs.declared.BookError.TheVariants as refusal
use Rattle.legumeyet_c_values.specs.declared.CallError.{CallError}
use Rattle.legumeyet_c_values.specs.declared.CallError.TheVariants.{Memory, Book}
use Rattle.legumeyet_c.specs.AskedFormats.{format_by_words}
use Rattle.legumeyet_c.specs.SmallBooks.{asks_numbers_alone, error_of_book}

abbrev alone : List ℤ → List ℕ → Result Bool CallError
alone words unit = result_map_both asks_numbers_alone (λ error. error) (format_by_words words unit)

plain : alone [] [] ≡ Ok true
plain = refl

compact : alone (pos 1 ∷ pos 1 ∷ []) [] ≡ Ok true
compact = refl

scientific : alone (pos 2 ∷ []) [] ≡ Ok false
scientific = refl

percents : alone (pos 0 ∷ pos 0 ∷ pos 1 ∷ []) [] ≡ Ok false
percents = refl

amounts : alone (pos 0 ∷ pos 0 ∷ pos 2 ∷ []) (codes "EUR") ≡ Ok false
amounts = refl

categories : alone (pos 0 ∷ pos 0 ∷ pos 0 ∷ pos 0 ∷ pos 0 ∷ pos 0 ∷ pos 1 ∷ []) [] ≡ Ok false
categories = refl

no_json : error_of_book Json ≡ Book Json
no_json = refl

no_memory : error_of_book refusal.Memory ≡ Memory
no_memory = refl
