use Rattle.std.proofs.Common.{◌≡◌, true, subst, sym, rules}
use Rattle.locale_numbers_answers.specs.AnswerMemory.{TypedFoundAllocates}
use Rattle.locale_numbers_answers.specs.AnswerSink.{HasRoom}
use Rattle.locale_numbers_book.specs.FoundFormats.{found_for, second_for}
use Rattle.locale_numbers_formatter.specs.FormatTyped.{TypedAllocates}
use Rattle.locale_numbers.proofs.KeptLemmas.{made_before, no_typed_unit, typed_answer, typed_by}
use Rattle.locale_numbers.proofs.lenient_line.answer_lenient.Goals as goal

pub returns-clause-room : goal.returns-clause-room
returns-clause-room g c = λ room quiet many units.
    let book = g.F.Formatters.book c.args.formatters.now in
    let key = c.args.key.now in
    let kept = c.found.result.now in
    let second = second_for key.shape book key.preferences in
    let same : g.F.Formatters.book c.find.new.self ≡ book = search rules in
    let made = made_before (g.F.Formatters.book c.find.new.self) book key kept same c.found.ensures.made in
    let there : c.in_ok-found.found ≡ true = search rules in
    c.read_typed_by_formatter.ensures.room
    (subst (λ answer. HasRoom c.args.out.now answer) (typed_answer book key kept made c.requires.typed c.args.text.now) room)
    (no_typed_unit (found_for key.shape book key.preferences) (g.F.Formatters.kept_for c.args.formatters.now key) kept made.found
    (λ held was. c.found.ensures.held held (c.in_ok-found.ensures.held there held was)) units)
    (λ more. many (subst (λ found. TypedFoundAllocates found second c.args.text.now) (sym made.found) (subst (λ tables. TypedAllocates tables c.args.text.now) (typed_by book key kept made c.requires.typed) more)))
