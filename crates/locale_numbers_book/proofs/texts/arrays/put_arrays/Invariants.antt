use Rattle.std.proofs.Common.{◌≡◌, ◌++◌, map, string_bytes, drop, codes}
use Rattle.std.specs.List.{flat_map}
use Rattle.std.specs.Str.Lines.{lines}
use Rattle.locale_numbers_book.specs.BookText.{array_text}
use Rattle.locale_numbers_book.proofs.texts.arrays.put_arrays.Given as goal

abbrev pub invariant-loop-text : goal.invariant-loop-text
invariant-loop-text l = string_bytes l.out ++ flat_map (λ entries. codes "," ++ array_text entries) (map (λ text. lines text.now) (drop l.text-index l.rest))
    ≡ string_bytes l.initial.out ++ flat_map (λ entries. codes "," ++ array_text entries) (map (λ text. lines text.now) l.rest)
