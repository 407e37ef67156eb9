use Rattle.std.proofs.Common.{◌≡◌, ◌∙◌, sym, true}
use Rattle.std.specs.Str.{bytes_eq}
use Rattle.icu_dimension_words.specs.HeldWords.{settings_of}
use Rattle.icu_dimension_words.proofs.ReaderLemmas.{bare_same}
use Rattle.icu_dimension_words.proofs.reader.read_bare.Goals as goal

pub returns-then-is_same_text-clause-not_written : goal.returns-then-is_same_text-clause-not_written
returns-then-is_same_text-clause-not_written c =
    let one : bytes_eq c.args.bare.now c.args.text.now ≡ true = sym c.is_same_text.ensures ∙ c.if-is_same_text.true in
    λ refused. bare_same (settings_of c.args.tables.now) c.args.category c.args.bare.now c.args.text.now one (c.read_named.ensures.not_written refused)
