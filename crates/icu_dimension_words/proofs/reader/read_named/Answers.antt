use Rattle.std.proofs.Common.{◌≡◌, ◌∙◌, Some, sym, rules, true, false}
use Rattle.icu_dimension_words.specs.HeldWords.{settings_of}
use Rattle.icu_dimension_words.specs.ReadingSteps.{is_bare_text}
use Rattle.icu_dimension_words.specs.WordsText.{named_number, word_for}
use Rattle.icu_dimension_words.proofs.ReaderLemmas.{bare_untaken, bare_written}
use Rattle.icu_dimension_words.proofs.reader.read_named.Goals as goal

pub returns-then-takes_bare-clause-value : goal.returns-then-takes_bare-clause-value
returns-then-takes_bare-clause-value c =
    let takes : is_bare_text (word_for (settings_of c.args.tables.now) c.digit_alone-number.result) c.args.text.now ≡ true = sym c.takes_bare.ensures ∙ c.if-takes_bare.true in
    bare_written (settings_of c.args.tables.now) c.args.text.now c.digit_alone-number.result c.digit_alone-number.ensures.decimal takes

pub returns-else-takes_bare-clause-not_written : goal.returns-else-takes_bare-clause-not_written
returns-else-takes_bare-clause-not_written c =
    let number : named_number c.args.category ≡ Some c.in-Some.digit = search rules in
    let other : is_bare_text (word_for (settings_of c.args.tables.now) c.digit_alone-number.result) c.args.text.now ≡ false = sym c.takes_bare.ensures ∙ c.if-takes_bare.false in
    λ refused. bare_untaken (settings_of c.args.tables.now) c.args.category c.args.text.now c.in-Some.digit c.digit_alone-number.result number c.digit_alone-number.ensures.value other
