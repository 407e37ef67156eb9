use Rattle.std.proofs.Common.{◌≡◌, ◌+◌, ◌-◌, ◌*◌, ◌/◌, ◌%◌, ◌^◌, ◌≤◌, ◌++◌, length, map, min, sym, ap, ◌∙◌, arith}
use Rattle.std.proofs.lemmas.Int.Digits.{all_below_base_from_digits}
use Rattle.std.proofs.lemmas.List.{length-map}
use Rattle.std.specs.Char.{digit_value}
use Rattle.fixed_decimal_digits.proofs.PackedLemmas.{packed_length}
use Rattle.fixed_decimal_digits.proofs.PackedChanges.{bytes_length}
use Rattle.fixed_decimal_digits.proofs.BlockLemmas.{block_pushed}
use Rattle.fixed_decimal_digits.proofs.digits.Digits.push_block.Goals as goal

pub copy_bytes-requires : goal.copy_bytes-requires
copy_bytes-requires c =
    let i = c.self.inside in
    let ds = map digit_value c.args.text.now in
    let counted : i.count ≡ length c.args.self.now.items = sym c.self.invariant.0.all ∙ ap (λ v. length v.items) c.self.view_is in
    let bytes : length i.kept.items ≡ (i.count + 1) / 2 = bytes_length i.kept.items i.count c.self.invariant.0 in
    let fits : min (2 * i.kept.capacity) (2 ^ 64 - 1) ≡ c.args.self.now.capacity = ap (λ v. v.capacity) c.self.view_is in
    let size : length c.split_at.result.0.now ≡ (length c.args.text.now + 1) / 2 =
    ap length (c.split_at.ensures.front ∙ c.bytes_of_block-bytes.ensures) ∙ packed_length ds ∙ ap (λ n. (n + 1) / 2) (length-map c.args.text.now digit_value) in
    omega (arith, counted, bytes, fits, size, c.requires.pairs, c.requires.room, c.requires.even)

pub invariant_of-self : goal.invariant_of-self
invariant_of-self c =
    let i = c.self.inside in
    let ds = map digit_value c.args.text.now in
    let counted : i.count ≡ length c.args.self.now.items = sym c.self.invariant.0.all ∙ ap (λ v. length v.items) c.self.view_is in
    let capacity : 8 ≤ i.kept.capacity = c.self.invariant.1 in (
      (block_pushed i.kept.items c.copy_bytes.new.kept.items ds i.count (length c.args.text.now) c.self.invariant.0 (all_below_base_from_digits 10 c.args.text.now c.requires.text_digits) (ap (λ k. k % 2) counted ∙ c.requires.even)
          (length-map c.args.text.now digit_value) (c.copy_bytes.ensures.items ∙ ap (λ b. i.kept.items ++ b) (c.split_at.ensures.front ∙ c.bytes_of_block-bytes.ensures))).0,
      omega (arith, capacity, c.copy_bytes.ensures.capacity),
    )

pub returns-clause-items : goal.returns-clause-items
returns-clause-items c =
    let i = c.self.inside in
    let ds = map digit_value c.args.text.now in
    let counted : i.count ≡ length c.args.self.now.items = sym c.self.invariant.0.all ∙ ap (λ v. length v.items) c.self.view_is in
    (block_pushed i.kept.items c.copy_bytes.new.kept.items ds i.count (length c.args.text.now) c.self.invariant.0 (all_below_base_from_digits 10 c.args.text.now c.requires.text_digits) (ap (λ k. k % 2) counted ∙ c.requires.even)
    (length-map c.args.text.now digit_value) (c.copy_bytes.ensures.items ∙ ap (λ b. i.kept.items ++ b) (c.split_at.ensures.front ∙ c.bytes_of_block-bytes.ensures))).1
    ∙ ap (λ v. v.items ++ ds) c.self.view_is
