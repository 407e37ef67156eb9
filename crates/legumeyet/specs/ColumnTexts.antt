-- What is said of the texts of chosen fields: of each by the first sayer that is for it.
-- Defined in docs/command.md, "Fields of a table".
-- Cited by the `FieldSayer` of `Columns`.
use Rattle.std.specs.Prelude.{◌≡◌, ℕ, ◌==◌, ◌<◌, ◌≤◌, Bool, true, false, ◌||◌, nat_le, List, [], ◌∷◌, Option, Some, None, if◌then◌else◌}
use Rattle.std.proofs.Common.{refl, arith}
use Rattle.std.proofs.lemmas.Bool.{false_from_ne_true, eqb-true, leb-false, lt-leb}
use Rattle.legumeyet_options.specs.Sayings.{saying, text_said}
use Rattle.legumeyet_options.specs.declared.Sayer.{Sayer}
use Rattle.legumeyet.specs.declared.columns.Column.{Column}

-- what says the texts of the field of this index
abbrev pub sayer_at : List Column → ℕ → Option Sayer
sayer_at [] index = None
sayer_at (column ∷ columns) index = if column.index == index then Some column.sayer else sayer_at columns index

abbrev pub is_there : Option Sayer → Bool
is_there None = false
is_there (Some sayer) = true

abbrev pub said_at : Option Sayer → List ℕ → Option (List ℕ)
said_at None text = None
said_at (Some sayer) text = text_said (saying sayer text)

-- whether a record of so many fields lacks a chosen one
abbrev pub misses : List Column → ℕ → Bool
misses [] count = false
misses (column ∷ columns) count = nat_le count column.index || misses columns count

-- a record that lacks none with so many fields lacks none with more, and no field after them is chosen
pub all_before : (columns : List Column) (count later : ℕ) → misses columns count ≡ false → count ≤ later
    → (misses columns later ≡ false) × (is_there (sayer_at columns later) ≡ false)
all_before [] count later none bound = (refl, refl)
all_before (column ∷ columns) count later none bound =
    at (nat_le count column.index) (misses columns count) refl refl none (λ e. all_before columns count later e bound)
  where
    at : (b m : Bool) → nat_le count column.index ≡ b → misses columns count ≡ m → (b || m) ≡ false
        → (misses columns count ≡ false → (misses columns later ≡ false) × (is_there (sayer_at columns later) ≡ false))
        → (misses (column ∷ columns) later ≡ false) × (is_there (sayer_at (column ∷ columns) later) ≡ false)
    at true m e f both others = cc
    at false true e f both others = cc
    at false false e f both others =
        let before : column.index < count = leb-false count column.index e in
        let beyond : nat_le later column.index ≡ false = lt-leb later column.index (omega arith) in
        let other : (column.index == later) ≡ false =
        false_from_ne_true (column.index == later) (λ same. let is = eqb-true column.index later same in omega arith) in
        let rest = others f in (simp beyond rest.0, simp other rest.1)
