use Rattle.std.proofs.Common.{◌≡◌, drop}
use Rattle.std.specs.List.{list_all}
use Rattle.legumeyet_c_values.specs.Words.{is_zero}
use Rattle.legumeyet_c_values.proofs.words.are_zeros.Given as goal

abbrev pub invariant-loop-word : goal.invariant-loop-word
invariant-loop-word l = list_all is_zero l.words ≡ list_all is_zero (drop l.word-index l.words)
