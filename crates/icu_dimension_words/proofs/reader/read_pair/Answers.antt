use Rattle.std.proofs.Common.{◌≡◌, ◌∙◌, sym, true, false}
use Rattle.icu_dimension_words.specs.HeldWords.{settings_of}
use Rattle.icu_dimension_words.specs.Words.{Pair, around}
use Rattle.icu_dimension_words.specs.WordsReading.{is_one_pair}
use Rattle.icu_dimension_words.specs.WordsText.{word_for}
use Rattle.icu_dimension_words.proofs.ReaderLemmas.{pair_missing, pair_other, pair_written}
use Rattle.icu_dimension_words.proofs.reader.read_pair.Goals as goal

pub returns-then-takes_pair-clause-value : goal.returns-then-takes_pair-clause-value
returns-then-takes_pair-clause-value c =
    let pair : Pair = record { before = c.args.before.now; after = c.args.after.now } in
    let takes : is_one_pair (word_for (settings_of c.args.tables.now) c.in-Ok.number) (around pair) ≡ true = sym c.takes_pair.ensures ∙ c.if-takes_pair.true in
    pair_written (settings_of c.args.tables.now) pair c.args.text.now c.in-Some.inner.now c.in-Ok.number c.in-Some.ensures.some c.in-Ok.ensures.value takes

pub returns-else-takes_pair-clause-not_written : goal.returns-else-takes_pair-clause-not_written
returns-else-takes_pair-clause-not_written c =
    let pair : Pair = record { before = c.args.before.now; after = c.args.after.now } in
    let other : is_one_pair (word_for (settings_of c.args.tables.now) c.in-Ok.number) (around pair) ≡ false = sym c.takes_pair.ensures ∙ c.if-takes_pair.false in
    λ refused. pair_other (settings_of c.args.tables.now) pair c.args.text.now c.in-Some.inner.now c.in-Ok.number c.are_tables.ensures c.requires c.in-Some.ensures.some c.in-Ok.ensures.value other

pub returns-in-Err-clause-not_written : goal.returns-in-Err-clause-not_written
returns-in-Err-clause-not_written c =
    let pair : Pair = record { before = c.args.before.now; after = c.args.after.now } in
    λ refused. pair_missing (settings_of c.args.tables.now) pair c.args.text.now c.in-Some.inner.now c.in-Some.ensures.some (c.in-Err.ensures.not_written refused)
