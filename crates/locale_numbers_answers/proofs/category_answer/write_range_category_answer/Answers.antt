use Rattle.std.proofs.Common.{◌≡◌, ◌++◌, Option, subst, IsOk, OnOk}
use Rattle.std.specs.Prelude.{string_bytes}
use Rattle.icu_plurals.specs.declared.PluralCategory.{PluralCategory}
use Rattle.locale_numbers_answers.specs.AnswerSink.{HasRoom}
use Rattle.locale_numbers_answers.specs.CategoryAnswer.{answered_category}
use Rattle.locale_numbers_answers.proofs.category_answer.write_range_category_answer.Goals as goal

pub returns-in-Ok-clause-text : goal.returns-in-Ok-clause-text
returns-in-Ok-clause-text c =
    subst (λ (category : Option PluralCategory). OnOk c.write_category.result (string_bytes c.write_category.new.out ≡ string_bytes c.args.out.now ++ answered_category category)) c.in-Ok.ensures.value c.write_category.ensures.text

pub returns-in-Ok-clause-room : goal.returns-in-Ok-clause-room
returns-in-Ok-clause-room c = λ room never.
    subst (λ (category : Option PluralCategory). HasRoom c.args.out.now (answered_category category) → IsOk c.write_category.result) c.in-Ok.ensures.value c.write_category.ensures.room room

pub returns-in-Err-clause-room : goal.returns-in-Err-clause-room
returns-in-Err-clause-room c = λ room never. absurd (never c.in-Err.ensures.room)
