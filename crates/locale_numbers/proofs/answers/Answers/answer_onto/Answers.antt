use Rattle.std.proofs.Common.{◌∷◌, [], ap, refl, sym, ◌∙◌}
use Rattle.std.specs.Prelude.{string_bytes}
use Rattle.locale_numbers_book.specs.Book.{BookTables}
use Rattle.locale_numbers.specs.Answer.{answer_of}
use Rattle.locale_numbers.specs.KeptAnswers.{Keeping}
use Rattle.locale_numbers.proofs.AnsweringLemmas.{on_ok_by, on_ok_same}
use Rattle.locale_numbers.proofs.KeptAnswersLemmas.{counts, keeps}
use Rattle.locale_numbers.proofs.answers.Answers.answer_onto.Goals as goal

pub invariant_of-self : goal.invariant_of-self
invariant_of-self g c = (c.answer_line.ensures.ready, c.answer_line.ensures.same ∙ c.self.invariant.1)

pub returns-clause-text : goal.returns-clause-text
returns-clause-text g c =
    on_ok_same c.answer_line.result _ (string_bytes c.args.out.now) _ _
    (ap (λ (book : BookTables). answer_of book c.args.line.now) (c.self.invariant.1 ∙ ap (λ (k : Keeping). k.book) c.self.view_is))
    c.answer_line.ensures.text

pub returns-clause-made : goal.returns-clause-made
returns-clause-made g c =
    let book = g.T.Tables.book c.self.inside.tables.now in
    let old = c.self.inside.answerer.kept in
    let new = c.answer_line.new.self.kept in
    on_ok_by c.answer_line.result
    (λ counted more.
    sym (counts (g.T.Tables.book old.maker.tables.now) book c.self.invariant.1 old.formatters c.args.self.now c.self.view_is (c.args.line.now ∷ more))
    ∙ counted more
    ∙ counts (g.T.Tables.book new.maker.tables.now) book (c.answer_line.ensures.same ∙ c.self.invariant.1) new.formatters _ refl more)
    c.answer_line.ensures.made

pub returns-clause-recent : goal.returns-clause-recent
returns-clause-recent g c =
    let old = c.self.inside.answerer.kept in
    on_ok_by c.answer_line.result
    (λ is. is ∙ keeps (g.T.Tables.book old.maker.tables.now) (g.T.Tables.book c.self.inside.tables.now) c.self.invariant.1 old.formatters c.args.self.now c.self.view_is (c.args.line.now ∷ []))
    c.answer_line.ensures.recent

pub returns-clause-capacity : goal.returns-clause-capacity
returns-clause-capacity g c = on_ok_by c.answer_line.result (λ is. is ∙ ap (λ (k : Keeping). k.capacity) c.self.view_is) c.answer_line.ensures.capacity
