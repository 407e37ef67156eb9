use Rattle.std.proofs.Common.{◌≡◌, ◌≤◌, min, length, arith, ◌∙◌}
use Rattle.tinystr.specs.SmallText.{padded}
use Rattle.tinystr.proofs.SmallTextLemmas.{word_gives_form}
use Rattle.tinystr.proofs.int_ops.aligned.ascii_bytes.Goals as goal

pub returns : goal.returns
unfolding padded
returns g c =
    let count : c.min.result ≡ min g.row.M 8 = c.min.ensures in
    let narrow : c.min.result ≤ 8 = omega (arith, count) in
    let within : c.min.result ≤ g.row.M = omega (arith, count) in
    let fits : length c.args.text ≤ c.min.result = omega (arith, count, c.requires.short, c.all_bytes.ensures.small.short) in
    c.to_ascii_byte_array.ensures
    ∙ word_gives_form c.min.result g.row.M c.args.text c.all_bytes.result.now c.put_at.new.bytes narrow within fits c.all_bytes.ensures.value c.put_at.ensures
