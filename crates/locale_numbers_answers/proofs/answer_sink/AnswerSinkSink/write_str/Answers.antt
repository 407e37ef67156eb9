use Rattle.std.proofs.Common.{[], refl, rules}
use Rattle.writeable.specs.AnnotatedText.{bytes}
use Rattle.writeable.proofs.AnnotatedTextLemmas.{text_of_bytes}
use Rattle.locale_numbers_answers.proofs.answer_sink.AnswerSinkSink.write_str.Goals as goal

pub returns-in-Ok-clause-ok : goal.returns-in-Ok-clause-ok
returns-in-Ok-clause-ok c = record {
  same = refl;
  text = rw (text_of_bytes c.args.text.now) c.in-Ok.ensures.text;
  capacity = c.in-Ok.ensures.capacity;
}

-- nothing was put, and there was no room
pub returns-in-Err-clause-begun : goal.returns-in-Err-clause-begun
returns-in-Err-clause-begun c = record {
  front = [];
  rest = bytes c.args.text.now;
  whole = refl;
  taken = record { same = refl; text = search rules; capacity = c.in-Err.ensures.capacity };
  short = rw (text_of_bytes c.args.text.now) c.in-Err.ensures.full;
}
