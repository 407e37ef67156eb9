use Rattle.std.proofs.Common.{subst, sym}
use Rattle.locale_numbers_answers.specs.AnswerMemory.{MayGrowFound}
use Rattle.locale_numbers_answers.specs.AnswerSink.{HasRoom}
use Rattle.locale_numbers_answers.specs.CategoryAnswer.{range_ends_to}
use Rattle.locale_numbers_answers.specs.NumberReading.{number}
use Rattle.locale_numbers_book.specs.FoundFormats.{found_for}
use Rattle.locale_numbers.specs.FormatterKeys.{rules_for}
use Rattle.locale_numbers.specs.KeptFormatters.{rules_found}
use Rattle.locale_numbers.proofs.range_line.answer_to_end.Goals as goal

pub returns-in-Ok-clause-room : goal.returns-in-Ok-clause-room
returns-in-Ok-clause-room g c = λ room quiet small long more short.
    let key = c.args.key.now in
    let book = g.F.Formatters.book c.args.formatters.now in
    let found = found_for key.shape book key.preferences in
    let rules = rules_found book key.preferences (rules_for key.purpose) in
    c.write_range_by_key.ensures.room
    (subst (λ reading. HasRoom c.args.out.now (range_ends_to found rules c.args.options (number c.args.first.now) reading)) c.in-Ok.ensures.value room)
    quiet small
    (λ grows. more (subst (λ reading. MayGrowFound found c.args.options.rounding reading) (sym c.in-Ok.ensures.value) grows))
    short
