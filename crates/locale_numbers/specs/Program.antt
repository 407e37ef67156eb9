-- What a start of the program leaves: the book that it reads, the faults that may come, and what they leave untouched.
-- Defined in docs/requests.md, "Program".
-- Cited by `program` and `start`.
use Rattle.std.specs.Prelude.{◌≡◌, ℕ, List, Option, IsNone, IsSome}
use Rattle.serde_json.specs.Data.{Data}
use Rattle.locale_numbers_book.specs.Json.{Reads}
use Rattle.locale_numbers_book.specs.Book.{BookTables, IsBook}
use Rattle.locale_numbers_book.specs.Refusal.{IsRefused}
use Rattle.locale_numbers_book.specs.declared.BookError.TheVariants as refusal
use Rattle.locale_numbers_lines.specs.declared.RunError.TheVariants as run
use Rattle.locale_numbers.specs.declared.fault.ProgramFault.{ProgramFault}
use Rattle.locale_numbers.specs.declared.fault.ProgramFault.TheVariants.{Usage, File, Book, Run}

-- the text says a JSON value that is this book
abbrev pub Says : List ℕ → BookTables → Type 0
Says text book = (value : Data) × Reads text value × IsBook value book

-- a fact of the text that the book is read from: the sample's where no path is named, else what some file held
pub record OfText {P : Type 0} (sample : List ℕ) (path : Option P) (Fact : List ℕ → Type 0) : Type 0 where
  pub text : List ℕ
  pub unnamed : IsNone path → text ≡ sample
  pub fact : Fact text

-- a fact of a book that some text says
pub record OfSomeBook (Fact : BookTables → Type 0) : Type 0 where
  pub book : BookTables
  pub text : List ℕ
  pub said : Says text book
  pub fact : Fact book

-- a fact of the book that is read
pub record OfBook {P : Type 0} (sample : List ℕ) (path : Option P) (Fact : BookTables → Type 0) : Type 0 where
  pub book : BookTables
  pub said : OfText sample path (λ text. Says text book)
  pub fact : Fact book

-- a text is refused, and nothing else is at fault
abbrev pub IsRefusal : List ℕ → ProgramFault → Type 0
IsRefusal text (Book cause) = IsRefused text cause
IsRefusal text _ = ⊥

-- a file can't be read, or memory was refused
abbrev pub IsOfFile : ProgramFault → Type 0
IsOfFile File = Unit {0}
IsOfFile (Book refusal.Memory) = Unit {0}
IsOfFile _ = ⊥

-- when each fault may come: that of the words never, that of a file where one is named
abbrev pub MayCome : {P : Type 0} → List ℕ → Option P → ProgramFault → Type 0
MayCome sample path Usage = ⊥
MayCome sample path File = IsSome path
MayCome sample path (Book cause) = OfText sample path (λ text. IsRefused text cause)
MayCome sample path (Run fault) = Unit {0}

-- the fault is met before the first line is read
abbrev pub IsBeforeLines : ProgramFault → Type 0
IsBeforeLines (Run fault) = ⊥
IsBeforeLines _ = Unit {0}

-- before a book is read, the words are at fault, or memory was refused
abbrev pub IsOfWords : ProgramFault → Type 0
IsOfWords Usage = Unit {0}
IsOfWords (Run run.Memory) = Unit {0}
IsOfWords _ = ⊥

-- when a book's fault may come of a start: some text is refused by it
abbrev pub MayStart : ProgramFault → Type 0
MayStart (Book cause) = (text : List ℕ) × IsRefused text cause
MayStart _ = Unit {0}
