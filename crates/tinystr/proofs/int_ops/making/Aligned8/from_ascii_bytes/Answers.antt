use Rattle.std.proofs.Common.{ℕ, List, rules, subst, sym, arith, ◌≡◌, ◌≤◌, ◌∙◌}
use Rattle.tinystr_words.specs.Words.{word_bytes}
use Rattle.tinystr.specs.SmallText.{IsForm, IsSmall, text_of}
use Rattle.tinystr.proofs.SmallTextLemmas.{IsForm-of, text_of-of}
use Rattle.tinystr.proofs.WordLemmas.{IsSmall-wider}
use Rattle.tinystr.proofs.int_ops.making.Aligned8.from_ascii_bytes.Goals as goal

pub of_word-requires : goal.of_word-requires
of_word-requires g c =
    let text = text_of c.args.src.now in
    let bytes = word_bytes c.word_of.result in
    let within : g.row.N ≤ 8 = omega (arith, c.requires.fits) in
    let small = IsSmall-wider g.row.N 8 text within c.requires.form.small in
    let form : IsForm 8 bytes = IsForm-of 8 text bytes small c.word_of.ensures in
    let same : text_of bytes ≡ text = text_of-of 8 text bytes small c.word_of.ensures in
    let short : IsSmall 8 (text_of bytes) =
    subst (λ (t : List ℕ). IsSmall 8 t) (sym same) (IsSmall-wider g.row.N 8 text c.requires.fits c.requires.form.small) in
    search rules

pub returns : goal.returns
returns g c =
    let text = text_of c.args.src.now in
    let within : g.row.N ≤ 8 = omega (arith, c.requires.fits) in
    let small = IsSmall-wider g.row.N 8 text within c.requires.form.small in
    c.of_word.ensures ∙ text_of-of 8 text (word_bytes c.word_of.result) small c.word_of.ensures
