use Rattle.std.proofs.Common.{◌≡◌, false, subst, sym, rules}
use Rattle.std.specs.Prelude.{string_bytes}
use Rattle.icu_decimal_direct.specs.TextDigits.{number_spelled}
use Rattle.locale_numbers_answers.specs.AnswerMemory.{MayGrowFound, MayLengthenFound}
use Rattle.locale_numbers_answers.specs.AnswerSink.{HasRoom}
use Rattle.locale_numbers_answers.specs.NumberReading.{number}
use Rattle.locale_numbers.specs.FormatterKeys.{finds}
use Rattle.locale_numbers.proofs.AnsweringLemmas.{grows_by_none, on_ok_same}
use Rattle.locale_numbers.proofs.KeptLemmas.{made_before, none_written, written_by}
use Rattle.locale_numbers.proofs.changed_line.answer_changed_digits.Goals as goal

pub returns-in_err-found-clause-err : goal.returns-in_err-found-clause-err
returns-in_err-found-clause-err g c = grows_by_none c.from_residual.result (string_bytes c.args.out.now)

pub returns-then-not-found-clause-text : goal.returns-then-not-found-clause-text
returns-then-not-found-clause-text g c =
    let book = g.F.Formatters.book c.args.formatters.now in
    let none : finds book c.args.key.now ≡ false = search rules in
    on_ok_same c.write_refusal.result _ (string_bytes c.args.out.now) _ _ (sym (none_written book c.args.key.now c.args.options (number_spelled c.args.digits.now) c.requires.ruleless none)) c.write_refusal.ensures.text

pub returns-then-not-found-clause-room : goal.returns-then-not-found-clause-room
returns-then-not-found-clause-room g c = λ room quiet more small short.
    let book = g.F.Formatters.book c.args.formatters.now in
    let none : finds book c.args.key.now ≡ false = search rules in
    c.write_refusal.ensures.room (subst (λ answer. HasRoom c.args.out.now answer) (none_written book c.args.key.now c.args.options (number_spelled c.args.digits.now) c.requires.ruleless none) room)

pub returns-clause-text : goal.returns-clause-text
returns-clause-text g c =
    let book = g.F.Formatters.book c.args.formatters.now in
    let same : g.F.Formatters.book c.find.new.self ≡ book = search rules in
    let made = made_before (g.F.Formatters.book c.find.new.self) book c.args.key.now c.found.result.now same c.found.ensures.made in
    on_ok_same c.write_changed_digits.result _ (string_bytes c.args.out.now) _ _
    (sym (written_by book c.args.key.now c.found.result.now made c.args.options (number_spelled c.args.digits.now)))
    c.write_changed_digits.ensures.text

pub returns-clause-room : goal.returns-clause-room
returns-clause-room g c = λ room quiet more small short.
    let book = g.F.Formatters.book c.args.formatters.now in
    let same : g.F.Formatters.book c.find.new.self ≡ book = search rules in
    let made = made_before (g.F.Formatters.book c.find.new.self) book c.args.key.now c.found.result.now same c.found.ensures.made in
    c.write_changed_digits.ensures.room
    (subst (λ answer. HasRoom c.args.out.now answer)
    (written_by book c.args.key.now c.found.result.now made c.args.options (number_spelled c.args.digits.now)) room)
    more
    (subst (λ found. ¬ (MayGrowFound found c.args.options.rounding (number (number_spelled c.args.digits.now)))) made.found small)
    (subst (λ found. ¬ (MayLengthenFound found)) made.found short)
