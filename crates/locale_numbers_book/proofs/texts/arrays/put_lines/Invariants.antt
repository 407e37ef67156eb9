use Rattle.std.proofs.Common.{◌≡◌, ◌++◌, map, string_bytes, drop, codes}
use Rattle.std.specs.List.{flat_map}
use Rattle.locale_numbers_book.proofs.texts.arrays.put_lines.Given as goal

abbrev pub invariant-loop-line : goal.invariant-loop-line
invariant-loop-line l = string_bytes l.out ++ flat_map (λ line. codes ",\n" ++ line) (map (λ line. line.now) (drop l.line-index l.rest))
    ≡ string_bytes l.initial.out ++ flat_map (λ line. codes ",\n" ++ line) (map (λ line. line.now) l.rest)
