use Rattle.std.proofs.Common.{◌≡◌, subst, rules}
use Rattle.locale_numbers_answers.specs.AnswerMemory.{MayGrowFound, MayLengthenFound}
use Rattle.locale_numbers_answers.specs.AnswerSink.{HasRoom}
use Rattle.locale_numbers_answers.specs.Answers.{written_found}
use Rattle.locale_numbers_answers.specs.NumberReading.{number}
use Rattle.locale_numbers.proofs.KeptLemmas.{made_before}
use Rattle.locale_numbers.proofs.number_line.write_by_key.Goals as goal

pub returns-clause-room : goal.returns-clause-room
returns-clause-room g c = λ room quiet small short.
    let book = g.F.Formatters.book c.args.formatters.now in
    let same : g.F.Formatters.book c.find.new.self ≡ book = search rules in
    let made = made_before (g.F.Formatters.book c.find.new.self) book c.args.key.now c.found.result.now same c.found.ensures.made in
    c.write_by_formatter.ensures.room
    (subst (λ found. HasRoom c.args.out.now (written_found found c.args.options c.args.value.now)) made.found room)
    (subst (λ found. ¬ (MayGrowFound found c.args.options.rounding (number c.args.value.now))) made.found small)
    (subst (λ found. ¬ (MayLengthenFound found)) made.found short)
