use Rattle.std.proofs.Common.{◌≡◌, ◌+◌, ◌-◌, map, subst, sym, ap, take, drop, arith, ◌∙◌}
use Rattle.std.specs.Str.{IsAscii}
use Rattle.tinystr_words.specs.Words.{word_bytes, filled}
use Rattle.tinystr_words.proofs.CutLaws.{IsAscii-filled, change_writes, length-part}
use Rattle.tinystr_words.proofs.PartLaws.{part_below}
use Rattle.tinystr_words.proofs.slices.change_at.Goals as goal

pub changed_word-word-requires : goal.changed_word-word-requires
changed_word-word-requires g c =
    let part = take c.args.count (drop c.args.from c.args.bytes.now) in
    let count : c.args.from + c.args.count - c.args.from ≡ c.args.count = omega arith in
    let read = c.word_at.ensures ∙ ap (λ n. filled (take n (drop c.args.from c.args.bytes.now))) count in
    let long = length-part c.args.bytes.now c.args.from c.args.count c.requires.within in
    record {
      short = c.requires.short;
      part = λ few. part_below part c.word_at.result (omega arith) (omega (arith, few, long)) c.requires.ascii read;
      ascii = subst IsAscii (sym read) (IsAscii-filled part c.requires.ascii);
    }

pub returns : goal.returns
unfolding word_bytes
returns g c =
    let count : c.args.from + c.args.count - c.args.from ≡ c.args.count = omega arith in
    let read = c.word_at.ensures ∙ ap (λ n. filled (take n (drop c.args.from c.args.bytes.now))) count in
    change_writes g.C.WordChange.change c.args.bytes.now c.to_le_bytes.result c.put_at.new.bytes c.args.from c.args.count c.requires.within
    (c.to_le_bytes.ensures ∙ c.changed_word-word.ensures ∙ ap (map g.C.WordChange.change) read) c.put_at.ensures
