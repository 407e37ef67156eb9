use Rattle.icu_locale_core_langid.proofs.SpellingLemmas.{piece_taken, none_taken}
use Rattle.icu_locale_core_langid.proofs.spelling.takes.Goals as goal

pub returns-in-Some : goal.returns-in-Some
returns-in-Some c =
    piece_taken c.eq_ignore_ascii_case.result c.in-Some.piece.now c.args.text.now c.as_bytes.result.now c.args.iter.now c.next.new.self c.in-Some.ensures.steps c.as_bytes.ensures.value c.eq_ignore_ascii_case.ensures.test

pub returns-in-None : goal.returns-in-None
returns-in-None c = λ rest behind. none_taken c.args.text.now c.args.iter.now rest c.in-None.ensures.steps.0 behind
