use Rattle.std.proofs.Common.{◌≡◌, [], map, refl, sym, ap, ◌∙◌, subst}
use Rattle.std.specs.Prelude.{IsTrue, string_bytes}
use Rattle.std.proofs.lemmas.Bool.{false≢true}
use Rattle.locale_numbers_answers.specs.AnswerSink.{HasRoom}
use Rattle.locale_numbers_cache.specs.Cached.{IsLatest, kept_for, recent_of}
use Rattle.locale_numbers_cache.specs.Recent.{has}
use Rattle.locale_numbers.specs.FormatterKeys.{key_of}
use Rattle.locale_numbers.specs.KeptAnswers.{Keeping}
use Rattle.locale_numbers.specs.KeptFormatters.{IsMadeFor}
use Rattle.locale_numbers.specs.Front.{answer_after, key_after}
use Rattle.locale_numbers.specs.LineMemory.{IsRemembered}
use Rattle.locale_numbers.specs.contracts.formatter_key.FormatterKeyPartialEq.TheImpl as keys
use Rattle.locale_numbers.proofs.AnsweringLemmas.{grows_by_none, on_ok_by, on_ok_same, one_of}
use Rattle.locale_numbers.proofs.FrontLemmas.{answer_of_line, fits_front, key_of_line, still_right}
use Rattle.locale_numbers.proofs.LineMemoryLemmas.{formatter_after, front_is_before, front_of_request, text_after}
use Rattle.locale_numbers.proofs.line_answerer.LineAnswerer.answer_line.Goals as goal

pub answer_after_front-requires : goal.answer_after_front-requires
answer_after_front-requires g c κs =
    let book = g.T.Tables.book c.args.self.now.kept.maker.tables.now in (
      (refl, tt {0}),
      (
        c.requires.0,
        (
          fits_front c.latest.result.now c.cut_text.result.0.now (one_of _ _ _ c.latest.ensures c.in_ok-same.ensures.value),
          still_right (λ key. IsLatest (IsMadeFor book) key c.args.self.now.kept.formatters) c.args.self.now.kept.is_held c.in_ok-same.same c.args.self.now.read c.find.new.self c.latest.result.now
              c.requires.2 c.in_ok-same.ensures.same c.latest.ensures,
        ),
      ),
    )

pub returns-clause-text : goal.returns-clause-text
returns-clause-text g c =
    let book = g.T.Tables.book c.args.self.now.kept.maker.tables.now in
    on_ok_same c.answer_after_front.result _ (string_bytes c.args.out.now) _ _
    (ap (λ front. answer_after book front c.cut_text.result.1.now) (one_of _ _ _ c.latest.ensures c.in_ok-same.ensures.value)
    ∙ sym (answer_of_line c.args.line.now c.cut_text.result.0.now c.cut_text.result.1.now c.cut_text.ensures.asks book))
    c.answer_after_front.ensures.text

pub returns-clause-made : goal.returns-clause-made
returns-clause-made g c =
    let key : key_of c.args.line.now ≡ key_after c.latest.result.now c.cut_text.result.1.now =
    key_of_line c.args.line.now c.cut_text.result.0.now c.cut_text.result.1.now c.cut_text.ensures.asks
    ∙ ap (λ front. key_after front c.cut_text.result.1.now) (sym (one_of _ _ _ c.latest.ensures c.in_ok-same.ensures.value)) in
    on_ok_by c.answer_after_front.result
    (λ counted more. rw key (ap (λ (k : Keeping). k.made) (counted (map key_of more))))
    c.answer_after_front.ensures.counted

pub returns-clause-recent : goal.returns-clause-recent
returns-clause-recent g c =
    let key : key_of c.args.line.now ≡ key_after c.latest.result.now c.cut_text.result.1.now =
    key_of_line c.args.line.now c.cut_text.result.0.now c.cut_text.result.1.now c.cut_text.ensures.asks
    ∙ ap (λ front. key_after front c.cut_text.result.1.now) (sym (one_of _ _ _ c.latest.ensures c.in_ok-same.ensures.value)) in
    on_ok_by c.answer_after_front.result
    (λ counted. rw key (sym (ap (λ (k : Keeping). k.recent) (counted []))))
    c.answer_after_front.ensures.counted

pub returns-clause-capacity : goal.returns-clause-capacity
returns-clause-capacity g c =
    on_ok_by c.answer_after_front.result
    (λ counted. sym (ap (λ (k : Keeping). k.capacity) (counted [])))
    c.answer_after_front.ensures.counted

pub returns-in_err-same-clause-err : goal.returns-in_err-same-clause-err
returns-in_err-same-clause-err g c = grows_by_none c.from_residual.result (string_bytes c.args.out.now)

pub returns-in_err-same-clause-room : goal.returns-in_err-same-clause-room
returns-in_err-same-clause-room g c = λ asked is room remembered takes.
    let whole = front_of_request c.args.line.now c.cut_text.result.0.now c.cut_text.result.1.now asked c.cut_text.ensures.asks is in
    let kept = subst (λ front. IsRemembered front c.args.self.now.read) (front_is_before c.args.line.now c.cut_text.result.0.now c.cut_text.result.1.now asked c.cut_text.ensures.whole whole.texts) remembered in
    absurd (false≢true (c.in_err-same.ensures.room kept.short kept.there))

pub returns-clause-room : goal.returns-clause-room
returns-clause-room g c = λ asked is room remembered takes.
    let book = g.T.Tables.book c.args.self.now.kept.maker.tables.now in
    let whole = front_of_request c.args.line.now c.cut_text.result.0.now c.cut_text.result.1.now asked c.cut_text.ensures.asks is in
    let read = one_of _ _ _ c.latest.ensures c.in_ok-same.ensures.value in
    c.answer_after_front.ensures.room
    (subst (λ answer. HasRoom c.args.out.now answer)
    (answer_of_line c.args.line.now c.cut_text.result.0.now c.cut_text.result.1.now c.cut_text.ensures.asks book
    ∙ ap (λ front. answer_after book front c.cut_text.result.1.now) (sym read)) room)
    (formatter_after (λ key. ¬ (IsTrue (has keys.ghosts.eq key (recent_of c.args.self.now.kept.formatters)))) c.latest.result.now c.cut_text.result.0.now c.cut_text.result.1.now asked read whole takes.formatter)
    (text_after book (λ key. kept_for keys.ghosts.eq key c.args.self.now.kept.formatters) c.args.self.now.value c.latest.result.now c.cut_text.result.0.now c.cut_text.result.1.now asked read whole takes.text)
