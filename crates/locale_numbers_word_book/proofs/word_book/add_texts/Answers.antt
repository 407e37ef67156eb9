use Rattle.std.proofs.Common.{◌+◌, ap}
use Rattle.locale_numbers_word_book.proofs.WordTextLemmas.{text_added, text_passed, text_refused}
use Rattle.locale_numbers_word_book.proofs.word_book.add_texts.Goals as goal

pub returns-in-Err-clause-refused : goal.returns-in-Err-clause-refused
returns-in-Err-clause-refused c =
    text_refused c.args.texts.now c.loop-text.text-index c.loop-text.number _ c.args.words.now c.loop-text.words c.loop-text-test.true
    c.in-Err.fault c.loop-text.invariant.refused c.in-Err.ensures.refused

pub loop-text-preserved : goal.loop-text-preserved
loop-text-preserved c =
    record {
      counted = ap (λ n. n + 1) c.loop-text.invariant.counted;
      added = text_added c.args.texts.now c.loop-text.text-index c.loop-text.number _ c.args.words.now c.loop-text.words c.loop-text-test.true
          c.add_text.new.words c.in-Ok.ensures.added c.loop-text.invariant.added;
      refused = text_passed c.args.texts.now c.loop-text.text-index c.loop-text.number _ c.args.words.now c.loop-text.words c.loop-text-test.true
          c.add_text.new.words c.in-Ok.ensures.added c.loop-text.invariant.refused;
    }
