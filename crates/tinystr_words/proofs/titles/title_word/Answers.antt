use Rattle.std.proofs.Common.{subst, sym, ap, arith, ◌∙◌}
use Rattle.std.specs.Char.{to_ascii_lowercase, to_ascii_uppercase}
use Rattle.std.specs.Str.{IsAscii}
use Rattle.tinystr_words.specs.Words.{map_first}
use Rattle.tinystr_words.proofs.CutLaws.{IsAscii-filled}
use Rattle.tinystr_words.proofs.PartLaws.{part_below}
use Rattle.tinystr_words.proofs.TitleLaws.{ascii_turned, part_turned, titled}
use Rattle.tinystr_words.proofs.titles.title_word.Goals as goal

pub changed_word-requires : goal.changed_word-requires
changed_word-requires c =
    let word = c.word_at-turned.result in
    let s = subst IsAscii (sym c.word_at-turned.ensures) (IsAscii-filled c.args.bytes.now c.requires.ascii) in
    record {
      short = c.requires.short;
      part = λ few. part_turned word (part_below c.args.bytes.now word (omega arith) (omega (arith, few)) c.requires.ascii c.word_at-turned.ensures);
      ascii = ascii_turned word (omega arith) s;
    }

pub returns : goal.returns
returns c =
    let s = subst IsAscii (sym c.word_at-turned.ensures) (IsAscii-filled c.args.bytes.now c.requires.ascii) in
    titled c.word_at-turned.result c.changed_word.result (omega arith) (omega arith) s c.changed_word.ensures
    ∙ ap (map_first to_ascii_uppercase to_ascii_lowercase) c.word_at-turned.ensures
