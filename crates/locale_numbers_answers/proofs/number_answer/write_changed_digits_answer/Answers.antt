use Rattle.std.proofs.Common.{[], ◌∷◌, arith, subst, sym}
use Rattle.std.specs.Str.{IsUtf8}
use Rattle.std.proofs.lemmas.Str.{IsUtf8-append, IsUtf8-from_ascii}
use Rattle.std.proofs.lemmas.Str.Ascii.{IsAscii-nil, IsAscii-cons}
use Rattle.icu_decimal.specs.PlainText.{decimal_text}
use Rattle.icu_decimal_direct.specs.TextDigits.{number_spelled}
use Rattle.icu_decimal_direct.specs.TextTables.{text_tables}
use Rattle.icu_decimal_direct.specs.UnitTexts.{shown_down}
use Rattle.locale_numbers_answers.proofs.number_answer.write_changed_digits_answer.Goals as goal

pub from_utf8_unchecked-requires : goal.from_utf8_unchecked-requires
from_utf8_unchecked-requires c =
    subst IsUtf8 (sym c.put_shown-end.ensures.text)
    (IsUtf8-append (111 ∷ 107 ∷ 9 ∷ []) (decimal_text (text_tables c.args.tables.now) (shown_down c.args.change.least (number_spelled c.signed-signed.result)))
    (IsUtf8-from_ascii (111 ∷ 107 ∷ 9 ∷ []) (IsAscii-cons 111 (107 ∷ 9 ∷ []) (omega arith) (IsAscii-cons 107 (9 ∷ []) (omega arith) (IsAscii-cons 9 [] (omega arith) IsAscii-nil))))
    c.put_shown-end.ensures.utf8)
