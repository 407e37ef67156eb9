use Rattle.std.proofs.Common.{◌≡◌, ◌+◌, ℕ, suc, drop, map}
use Rattle.locale_numbers_words.specs.Words.{WordsTables}
use Rattle.locale_numbers_word_book.specs.WordTexts.{AddsAll, IsRefusedAt}
use Rattle.locale_numbers_word_book.specs.declared.error.FileFault.{FileFault}
use Rattle.locale_numbers_word_book.proofs.word_book.add_texts.Given as goal

-- what the texts that are left say after these words, all say after those at the beginning
abbrev pub invariant-loop-text : goal.invariant-loop-text
invariant-loop-text l =
    record {
      counted : l.number ≡ l.text-index;
      added : (after : WordsTables) → AddsAll l.words (map (λ text. text.now) (drop l.text-index l.texts)) after
          → AddsAll l.initial.words (map (λ text. text.now) l.texts) after;
      refused : (place : ℕ) (fault : FileFault) → IsRefusedAt l.words (map (λ text. text.now) (drop l.text-index l.texts)) (suc place) fault
          → IsRefusedAt l.initial.words (map (λ text. text.now) l.texts) (suc (l.number + place)) fault;
    }
