use Rattle.writeable.proofs.AnnotatedTextLemmas.{text_of_bytes}
use Rattle.fixed_decimal.specs.SignedText.{signed_text_of}
use Rattle.locale_numbers_answers.proofs.AnswerLineLemmas.{put_as, room_as}
use Rattle.locale_numbers_answers.proofs.read_answer.write_number_read.Goals as goal

pub returns-clause-text : goal.returns-clause-text
returns-clause-text c = put_as c.write_ok.result _ _ (text_of_bytes (signed_text_of c.args.value.now)) _ _ c.write_ok.ensures.text

pub returns-clause-room : goal.returns-clause-room
returns-clause-room c = room_as c.write_ok.result _ _ (text_of_bytes (signed_text_of c.args.value.now)) _ _ c.write_ok.ensures.room
