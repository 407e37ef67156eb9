use Rattle.std.proofs.Common.{[], ◌∷◌, ◌∙◌, arith, string_bytes, subst, sym}
use Rattle.std.specs.Str.{IsUtf8}
use Rattle.std.proofs.lemmas.Str.{IsUtf8-append, IsUtf8-from_ascii}
use Rattle.std.proofs.lemmas.Str.Ascii.{IsAscii-nil, IsAscii-cons}
use Rattle.icu_decimal_direct.specs.HeldUnits.{unit_texts}
use Rattle.icu_decimal_direct.specs.TextDigits.{number_spelled}
use Rattle.icu_decimal_direct.specs.UnitTexts.{shown_down, unit_text}
use Rattle.locale_numbers_answers.specs.NumberAnswer.{number_answer}
use Rattle.locale_numbers_answers.proofs.UnitAnswerLemmas.{answer_is, piece_as}
use Rattle.locale_numbers_answers.proofs.number_answer.write_unit_digits_answer.Goals as goal

pub from_utf8_unchecked-requires : goal.from_utf8_unchecked-requires
from_utf8_unchecked-requires c =
    subst IsUtf8 (sym c.put-end.ensures.text)
    (IsUtf8-append (111 ∷ 107 ∷ 9 ∷ []) (unit_text (unit_texts c.args.tables.now) (number_spelled c.args.digits.now))
    (IsUtf8-from_ascii (111 ∷ 107 ∷ 9 ∷ []) (IsAscii-cons 111 (107 ∷ 9 ∷ []) (omega arith) (IsAscii-cons 107 (9 ∷ []) (omega arith) (IsAscii-cons 9 [] (omega arith) IsAscii-nil))))
    c.put-end.ensures.utf8)

pub returns-clause-text : goal.returns-clause-text
returns-clause-text c =
    let u = unit_texts c.args.tables.now in
    let d = number_spelled c.args.digits.now in
    piece_as c.write_piece.result _ (number_answer c.args._formatter.now (shown_down u.least d)) (string_bytes c.args.out.now) (string_bytes c.write_piece.new.out)
    (answer_is c.written_reads_back.ensures.written c.args._formatter.now u d c.from_utf8_unchecked.result.now c.requires.known (c.from_utf8_unchecked.ensures ∙ c.put-end.ensures.text)) c.write_piece.ensures.text
