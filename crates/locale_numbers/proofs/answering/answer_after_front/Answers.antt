use Rattle.std.proofs.Common.{subst, inl, inr}
use Rattle.fixed_decimal.specs.CompactText.{ReadsLongCompact}
use Rattle.locale_numbers_answers.specs.AnswerMemory.{RangeAllocates, ReadAllocates, TypedFoundAllocates}
use Rattle.locale_numbers_answers.specs.AnswerSink.{HasRoom}
use Rattle.locale_numbers_requests.specs.declared.Task.TheVariants.{Write, WriteExact, Read, ReadLenient, Category, RangeCategory}
use Rattle.locale_numbers.specs.Answer.{found_for, second_for}
use Rattle.locale_numbers_requests.specs.RangeEnds.{range_ends}
use Rattle.locale_numbers.proofs.FrontMemory.{answer_done, answer_shown, category_done, may_take, of_key, range_shown}
use Rattle.locale_numbers.proofs.answering.answer_after_front.Goals as goal

pub returns-in-Write-clause-room : goal.returns-in-Write-clause-room
returns-in-Write-clause-room g c = λ room quiet small.
    let book = g.F.Formatters.book c.args.formatters.now in
    let takes = may_take book c.args.front.now c.in-Some.front c.in-Some-key.key c.args.text.now c.in-Some.is c.in-Some-key.is (g.F.Formatters.kept_for c.args.formatters.now) Write c.args.value.now c.in-Write.is in
    c.answer_number.ensures.room
    (subst (λ answer. HasRoom c.args.out.now answer) (answer_done book c.args.front.now c.in-Some.front c.in-Some-key.key c.args.text.now c.in-Some.is c.in-Some-key.is Write c.in-Write.is) room)
    (of_key book c.args.front.now c.in-Some.front c.in-Some-key.key c.args.text.now c.in-Some.is c.in-Some-key.is (λ key. g.F.Formatters.may_take_memory c.args.formatters.now key → ⊥) quiet)
    (λ more. small (takes (inl (inl more))))
    (λ grows. small (takes (inl (inr grows))))
    (λ lengthens. small (takes (inr lengthens)))

pub returns-in-WriteExact-clause-room : goal.returns-in-WriteExact-clause-room
returns-in-WriteExact-clause-room g c = λ room quiet small.
    let book = g.F.Formatters.book c.args.formatters.now in
    c.answer_exact.ensures.room
    (subst (λ answer. HasRoom c.args.out.now answer) (answer_shown book c.args.front.now c.in-Some.front c.in-Some-key.key c.args.text.now c.in-Some.is c.in-Some-key.is WriteExact c.in-Some-as_text.text.now c.in-WriteExact.is c.in-Some-as_text.ensures.0 c.in-Some-as_text.ensures.1) room)
    (of_key book c.args.front.now c.in-Some.front c.in-Some-key.key c.args.text.now c.in-Some.is c.in-Some-key.is (λ key. g.F.Formatters.may_take_memory c.args.formatters.now key → ⊥) quiet)
    (λ long. small (may_take book c.args.front.now c.in-Some.front c.in-Some-key.key c.args.text.now c.in-Some.is c.in-Some-key.is (g.F.Formatters.kept_for c.args.formatters.now) WriteExact c.args.value.now c.in-WriteExact.is (subst ReadsLongCompact c.in-Some-as_text.ensures.1 long)))

pub returns-in-Read-clause-room : goal.returns-in-Read-clause-room
returns-in-Read-clause-room g c = λ room quiet small.
    let book = g.F.Formatters.book c.args.formatters.now in
    let key = c.in-Some-key.key in
    c.answer_read.ensures.room
    (subst (λ answer. HasRoom c.args.out.now answer) (answer_shown book c.args.front.now c.in-Some.front c.in-Some-key.key c.args.text.now c.in-Some.is c.in-Some-key.is Read c.in-Some-as_text.text.now c.in-Read.is c.in-Some-as_text.ensures.0 c.in-Some-as_text.ensures.1) room)
    (of_key book c.args.front.now c.in-Some.front c.in-Some-key.key c.args.text.now c.in-Some.is c.in-Some-key.is (λ key. g.F.Formatters.may_take_memory c.args.formatters.now key → ⊥) quiet)
    (λ many. small (may_take book c.args.front.now c.in-Some.front c.in-Some-key.key c.args.text.now c.in-Some.is c.in-Some-key.is (g.F.Formatters.kept_for c.args.formatters.now) Read c.args.value.now c.in-Read.is
    (c.in-Some-as_text.ensures.0, inl (subst (ReadAllocates (found_for key.shape book key.preferences)) c.in-Some-as_text.ensures.1 many))))
    (λ units. small (may_take book c.args.front.now c.in-Some.front c.in-Some-key.key c.args.text.now c.in-Some.is c.in-Some-key.is (g.F.Formatters.kept_for c.args.formatters.now) Read c.args.value.now c.in-Read.is (c.in-Some-as_text.ensures.0, inr units)))

pub returns-in-ReadLenient-clause-room : goal.returns-in-ReadLenient-clause-room
returns-in-ReadLenient-clause-room g c = λ room quiet small.
    let book = g.F.Formatters.book c.args.formatters.now in
    let key = c.in-Some-key.key in
    c.answer_lenient.ensures.room
    (subst (λ answer. HasRoom c.args.out.now answer) (answer_shown book c.args.front.now c.in-Some.front c.in-Some-key.key c.args.text.now c.in-Some.is c.in-Some-key.is ReadLenient c.in-Some-as_text.text.now c.in-ReadLenient.is c.in-Some-as_text.ensures.0 c.in-Some-as_text.ensures.1) room)
    (of_key book c.args.front.now c.in-Some.front c.in-Some-key.key c.args.text.now c.in-Some.is c.in-Some-key.is (λ key. g.F.Formatters.may_take_memory c.args.formatters.now key → ⊥) quiet)
    (λ many. small (may_take book c.args.front.now c.in-Some.front c.in-Some-key.key c.args.text.now c.in-Some.is c.in-Some-key.is (g.F.Formatters.kept_for c.args.formatters.now) ReadLenient c.args.value.now c.in-ReadLenient.is
    (c.in-Some-as_text.ensures.0, inl (subst (TypedFoundAllocates (found_for key.shape book key.preferences) (second_for key.shape book key.preferences)) c.in-Some-as_text.ensures.1 many))))
    (λ units. small (may_take book c.args.front.now c.in-Some.front c.in-Some-key.key c.args.text.now c.in-Some.is c.in-Some-key.is (g.F.Formatters.kept_for c.args.formatters.now) ReadLenient c.args.value.now c.in-ReadLenient.is (c.in-Some-as_text.ensures.0, inr units)))

pub returns-in-Category-clause-room : goal.returns-in-Category-clause-room
returns-in-Category-clause-room g c = λ room quiet small.
    let book = g.F.Formatters.book c.args.formatters.now in
    let task = Category c.in-Category.field-0 in
    let takes = may_take book c.args.front.now c.in-Some.front c.in-Some-key.key c.args.text.now c.in-Some.is c.in-Some-key.is (g.F.Formatters.kept_for c.args.formatters.now) task c.args.value.now c.in-Category.is in
    c.answer_category.ensures.room
    (subst (λ answer. HasRoom c.args.out.now answer) (category_done book c.args.front.now c.in-Some.front c.in-Some-key.key c.args.text.now c.in-Some.is c.in-Some-key.is c.requires.fits c.in-Category.field-0 c.in-Category.is) room)
    (of_key book c.args.front.now c.in-Some.front c.in-Some-key.key c.args.text.now c.in-Some.is c.in-Some-key.is (λ key. g.F.Formatters.may_take_memory c.args.formatters.now key → ⊥) quiet)
    (λ more. small (takes (inl (inl more))))
    (λ grows. small (takes (inl (inr grows))))
    (λ lengthens. small (takes (inr lengthens)))

pub returns-in-RangeCategory-clause-room : goal.returns-in-RangeCategory-clause-room
returns-in-RangeCategory-clause-room g c = λ room quiet small.
    let book = g.F.Formatters.book c.args.formatters.now in
    let key = c.in-Some-key.key in
    let takes = may_take book c.args.front.now c.in-Some.front c.in-Some-key.key c.args.text.now c.in-Some.is c.in-Some-key.is (g.F.Formatters.kept_for c.args.formatters.now) RangeCategory c.args.value.now c.in-RangeCategory.is in
    c.answer_range.ensures.room
    (subst (λ answer. HasRoom c.args.out.now answer) (range_shown book c.args.front.now c.in-Some.front c.in-Some-key.key c.args.text.now c.in-Some.is c.in-Some-key.is c.requires.fits c.in-Some-as_text.text.now c.in-RangeCategory.is c.in-Some-as_text.ensures.0 c.in-Some-as_text.ensures.1) room)
    (of_key book c.args.front.now c.in-Some.front c.in-Some-key.key c.args.text.now c.in-Some.is c.in-Some-key.is (λ key. g.F.Formatters.may_take_memory c.args.formatters.now key → ⊥) quiet)
    (λ many. small (takes (c.in-Some-as_text.ensures.0, inl (subst (λ shown. RangeAllocates (found_for key.shape book key.preferences) c.in-Some.front.options.rounding (range_ends shown) c.args.value.now) c.in-Some-as_text.ensures.1 many))))
    (λ lengthens. small (takes (c.in-Some-as_text.ensures.0, inr lengthens)))
