use Rattle.std.proofs.Common.{◌≡◌, true, subst, sym, rules}
use Rattle.locale_numbers_answers.specs.AnswerMemory.{ReadAllocates}
use Rattle.locale_numbers_answers.specs.AnswerSink.{HasRoom}
use Rattle.locale_numbers_answers.specs.Answers.{read_found}
use Rattle.locale_numbers_book.specs.FoundFormats.{found_for}
use Rattle.locale_numbers.proofs.KeptLemmas.{made_before, no_unit}
use Rattle.locale_numbers.proofs.read_line.answer_read.Goals as goal

pub returns-clause-room : goal.returns-clause-room
returns-clause-room g c = λ room quiet many units.
    let book = g.F.Formatters.book c.args.formatters.now in
    let key = c.args.key.now in
    let kept = c.found.result.now in
    let same : g.F.Formatters.book c.find.new.self ≡ book = search rules in
    let made = made_before (g.F.Formatters.book c.find.new.self) book key kept same c.found.ensures.made in
    let there : c.in_ok-found.found ≡ true = search rules in
    c.read_by_formatter.ensures.room
    (subst (λ found. HasRoom c.args.out.now (read_found found c.args.rounding c.args.text.now)) made.found room)
    (no_unit (found_for key.shape book key.preferences) (g.F.Formatters.kept_for c.args.formatters.now key) kept made.found
    (λ held was. c.found.ensures.held held (c.in_ok-found.ensures.held there held was)) units)
    (λ more. many (subst (λ found. ReadAllocates found c.args.text.now) (sym made.found) more))
