use Rattle.std.proofs.Common.{◌≡◌, ◌+◌, ◌-◌, ◌*◌, ◌/◌, ◌%◌, ◌^◌, ◌≤◌, ◌++◌, length, min, sym, ap, ◌∙◌, arith}
use Rattle.fixed_decimal_digit_words.specs.DigitWord.{word_digits}
use Rattle.fixed_decimal_digits.proofs.PackedChanges.{bytes_length}
use Rattle.fixed_decimal_digits.proofs.BlockLemmas.{block_pushed}
use Rattle.fixed_decimal_digit_words.proofs.WordLemmas.{word_length}
use Rattle.fixed_decimal_digits.proofs.WordBytesLemmas.{word_odd}
use Rattle.fixed_decimal_digits.proofs.digits.Digits.push_fifteen.Goals as goal

pub push_bytes-requires : goal.push_bytes-requires
push_bytes-requires c =
    let i = c.self.inside in
    let counted : i.count ≡ length c.args.self.now.items = sym c.self.invariant.0.all ∙ ap (λ v. length v.items) c.self.view_is in
    let bytes : length i.kept.items ≡ (i.count + 1) / 2 = bytes_length i.kept.items i.count c.self.invariant.0 in
    let fits : min (2 * i.kept.capacity) (2 ^ 64 - 1) ≡ c.args.self.now.capacity = ap (λ v. v.capacity) c.self.view_is in
    omega (arith, counted, bytes, fits, c.requires.room, c.requires.even)

pub invariant_of-self : goal.invariant_of-self
invariant_of-self c =
    let i = c.self.inside in
    let counted : i.count ≡ length c.args.self.now.items = sym c.self.invariant.0.all ∙ ap (λ v. length v.items) c.self.view_is in
    let capacity : 8 ≤ i.kept.capacity = c.self.invariant.1 in (
      (block_pushed i.kept.items c.push_bytes.new.kept.items (word_digits c.args.word 15) i.count 15 c.self.invariant.0 c.requires.tens (ap (λ k. k % 2) counted ∙ c.requires.even)
          (word_length 15 c.args.word) (c.push_bytes.ensures.items ∙ ap (λ b. i.kept.items ++ b) (sym (word_odd 7 c.args.word)))).0,
      omega (arith, capacity, c.push_bytes.ensures.capacity),
    )

pub returns : goal.returns
returns c =
    let i = c.self.inside in
    let counted : i.count ≡ length c.args.self.now.items = sym c.self.invariant.0.all ∙ ap (λ v. length v.items) c.self.view_is in
    record {
      items = (block_pushed i.kept.items c.push_bytes.new.kept.items (word_digits c.args.word 15) i.count 15 c.self.invariant.0 c.requires.tens (ap (λ k. k % 2) counted ∙ c.requires.even)
          (word_length 15 c.args.word) (c.push_bytes.ensures.items ∙ ap (λ b. i.kept.items ++ b) (sym (word_odd 7 c.args.word)))).1
          ∙ ap (λ v. v.items ++ word_digits c.args.word 15) c.self.view_is;
    }
