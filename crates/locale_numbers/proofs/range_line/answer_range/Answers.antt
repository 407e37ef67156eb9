use Rattle.std.proofs.Common.{inl, inr, subst, sym, ap, ◌∙◌}
use Rattle.locale_numbers_answers.specs.AnswerMemory.{MayGrowFound, RangeAllocates}
use Rattle.locale_numbers_answers.specs.AnswerSink.{HasRoom}
use Rattle.locale_numbers_answers.specs.CategoryAnswer.{range_category_to, range_ends_to}
use Rattle.locale_numbers_answers.specs.NumberReading.{reading_of}
use Rattle.locale_numbers_book.specs.FoundFormats.{found_for}
use Rattle.locale_numbers_requests.specs.RangeEnds.{range_ends}
use Rattle.locale_numbers.specs.FormatterKeys.{rules_for}
use Rattle.locale_numbers.specs.KeptFormatters.{rules_found}
use Rattle.locale_numbers.proofs.range_line.answer_range.Goals as goal

pub returns-in-Ok-clause-room : goal.returns-in-Ok-clause-room
returns-in-Ok-clause-room g c = λ room quiet small short.
    let key = c.args.key.now in
    let book = g.F.Formatters.book c.args.formatters.now in
    let found = found_for key.shape book key.preferences in
    let held = rules_found book key.preferences (rules_for key.purpose) in
    let whole = ap range_ends (sym c.as_bytes.ensures.value) ∙ c.in-Some.ensures in
    let allocates = subst (λ ends. RangeAllocates found c.args.options.rounding ends c.args.first.now) (sym whole) in
    c.answer_to_end.ensures.room
    (subst (λ reading. HasRoom c.args.out.now (range_ends_to found held c.args.options reading (reading_of c.in-Some.behind.now))) c.in-Ok.ensures.value
    (subst (λ ends. HasRoom c.args.out.now (range_category_to found held c.args.options ends)) whole room))
    quiet
    (λ grows. small (allocates (inl (inr (subst (λ reading. MayGrowFound found c.args.options.rounding reading) (sym c.in-Ok.ensures.value) grows)))))
    (λ long. small (allocates (inr (inl long))))
    (λ grows. small (allocates (inr (inr grows))))
    short
