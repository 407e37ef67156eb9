use Rattle.std.proofs.Common.{subst, sym}
use Rattle.std.specs.Prelude.{if◌then◌else◌}
use Rattle.locale_numbers_answers.specs.AnswerLine.{if_text, refused}
use Rattle.locale_numbers_answers.specs.AnswerMemory.{MayGrowFound}
use Rattle.locale_numbers_answers.specs.AnswerSink.{HasRoom}
use Rattle.locale_numbers_answers.specs.CategoryAnswer.{category_found, category_to}
use Rattle.locale_numbers_book.specs.FoundFormats.{found_for}
use Rattle.locale_numbers_requests.specs.declared.Refusal.TheVariants as refusal
use Rattle.locale_numbers.specs.FormatterKeys.{rules_for}
use Rattle.locale_numbers.specs.KeptFormatters.{rules_found}
use Rattle.locale_numbers.proofs.category_line.answer_category.Goals as goal

pub returns-in-Ok-clause-room : goal.returns-in-Ok-clause-room
returns-in-Ok-clause-room g c = λ room quiet more small short.
    let key = c.args.key.now in
    let book = g.F.Formatters.book c.args.formatters.now in
    let found = found_for key.shape book key.preferences in
    let rules = rules_found book key.preferences (rules_for key.purpose) in
    let value = c.read_number.new.value in
    let said = c.in-Ok.ensures in
    c.write_category_by_key.ensures.room
    (subst (λ b. HasRoom c.args.out.now (if b then category_found found rules c.args.options value else refused refusal.Shape)) said.text
    (subst (λ reading. HasRoom c.args.out.now (if_text c.args.text.now (category_to found rules c.args.options reading))) said.value room))
    quiet
    (λ grows. small (subst (λ reading. MayGrowFound found c.args.options.rounding reading) (sym said.value) grows))
    short
