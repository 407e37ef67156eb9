use Rattle.std.proofs.Common.{◌≡◌, ◌+◌, length}
use Rattle.locale_numbers_formats.specs.Cutting.{cut_at}
use Rattle.locale_numbers_formats.specs.Skeletons.{read_words, read_words_of, space}
use Rattle.locale_numbers_formats.proofs.skeleton.read_words.Given as goal

abbrev pub invariant-loop-words : goal.invariant-loop-words
invariant-loop-words l = (read_words l.place (cut_at space l.rest) l.words ≡ read_words_of l.text) × (l.place + length l.rest ≡ length l.text)

abbrev pub decreases-loop-words : goal.decreases-loop-words
decreases-loop-words l = length l.rest
