use Rattle.std.proofs.Common.{◌+◌, drop}
use Rattle.icu_decimal_lenient.specs.Folding.{folded_symbols}
use Rattle.icu_dimension_words.specs.LenientWords.{folded_ways, read_word}
use Rattle.icu_dimension_words.proofs.WordSteps.{way_added, way_refused, ways_end}
use Rattle.icu_dimension_words.proofs.typed.agree_words.Goals as goal

pub loop-word-preserved : goal.loop-word-preserved
loop-word-preserved c =
    let folded = folded_symbols c.args.kept.now in
    let word = c.word-item.result in
    let rest = folded_ways folded (drop (c.loop-word.word-index + 1) c.args.words.now) c.args.text.now in
    way_added folded c.args.words.now c.args.text.now c.loop-word.word-index word c.args.found c.loop-word.found c.in-Ok.next c.loop-word-test.true c.word-item.is c.loop-word.invariant
    (c.in-Ok.ensures.reading (read_word folded c.args.text.now word) rest c.read_word.ensures.reading)

pub returns-in-Err-clause-reading : goal.returns-in-Err-clause-reading
returns-in-Err-clause-reading c =
    let folded = folded_symbols c.args.kept.now in
    let word = c.word-item.result in
    let rest = folded_ways folded (drop (c.loop-word.word-index + 1) c.args.words.now) c.args.text.now in
    way_refused folded c.args.words.now c.args.text.now c.loop-word.word-index word c.args.found c.loop-word.found c.in-Err.error c.loop-word-test.true c.word-item.is c.loop-word.invariant
    (c.in-Err.ensures.reading (read_word folded c.args.text.now word) rest c.read_word.ensures.reading)

pub returns-clause-reading : goal.returns-clause-reading
returns-clause-reading c =
    ways_end (folded_symbols c.args.kept.now) c.args.words.now c.args.text.now c.loop-word.word-index c.args.found c.loop-word.found c.found_reading.result c.loop-word-test.false c.loop-word.invariant
    c.found_reading.ensures.reading
