use Rattle.std.proofs.Common.{◌≡◌, ◌+◌, length}
use Rattle.locale_numbers_formats.specs.Cutting.{cut_at}
use Rattle.locale_numbers_formats.specs.Skeletons.{space, word_place}
use Rattle.locale_numbers_formats.proofs.skeleton.word_place.Given as goal

abbrev pub invariant-loop-word : goal.invariant-loop-word
invariant-loop-word l = (word_place l.kind l.place (cut_at space l.rest) ≡ word_place l.kind 0 (cut_at space l.text)) × (l.place + length l.rest ≡ length l.text)

abbrev pub decreases-loop-word : goal.decreases-loop-word
decreases-loop-word l = length l.rest
