-- The words of what is written for what is refused.
-- Defined in docs/command.md, "Refused numbers".
-- Cited by `Invalid::named`.
use Rattle.std.specs.Prelude.{ℕ, List, Option, Some, None, if◌then◌else◌, codes}
use Rattle.std.specs.Str.{bytes_eq}
use Rattle.legumeyet_options.specs.declared.invalid.Invalid.{Invalid}
use Rattle.legumeyet_options.specs.declared.invalid.Invalid.TheVariants.{Empty, Keep, Skip, Abort}

abbrev pub invalid_named : List ℕ → Option Invalid
invalid_named word =
    if bytes_eq word (codes "empty") then Some Empty
    else if bytes_eq word (codes "keep") then Some Keep
    else if bytes_eq word (codes "skip") then Some Skip
    else if bytes_eq word (codes "abort") then Some Abort
    else None
