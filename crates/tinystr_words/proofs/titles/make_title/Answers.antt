use Rattle.std.proofs.Common.{◌≡◌, ◌++◌, sym, arith, ◌∙◌}
use Rattle.std.specs.Char.{to_ascii_lowercase, to_ascii_uppercase}
use Rattle.std.proofs.lemmas.List.{take-append-drop}
use Rattle.tinystr_words.specs.Words.{word_bytes, map_first}
use Rattle.tinystr_words.proofs.TitleLaws.{front_titled, title_cut}
use Rattle.tinystr_words.proofs.titles.make_title.Goals as goal

pub returns : goal.returns
unfolding word_bytes
returns c =
    let front = c.split_at_mut-front.result.0.now in
    let rest = c.split_at_mut-front.result.1.now in
    let written : c.put_at.new.bytes ≡ map_first to_ascii_uppercase to_ascii_lowercase front =
    front_titled to_ascii_uppercase to_ascii_lowercase front c.to_le_bytes.result c.put_at.new.bytes
    (c.to_le_bytes.ensures ∙ c.title_word-word.ensures) c.put_at.ensures in
    let whole : c.args.bytes.now ≡ front ++ rest =
    sym (take-append-drop c.min.result c.args.bytes.now) ∙ (λ i. sym c.split_at_mut-front.ensures.front i ++ sym c.split_at_mut-front.ensures.back i) in
    (λ i. written i ++ c.change.ensures i)
    ∙ title_cut to_ascii_uppercase to_ascii_lowercase c.args.bytes.now front rest whole
    (λ none. omega (arith, none, c.split_at_mut-front.ensures.front_len, c.split_at_mut-front.ensures.back_len))
