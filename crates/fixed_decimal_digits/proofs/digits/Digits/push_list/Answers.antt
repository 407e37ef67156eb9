use Rattle.std.proofs.Common.{◌≡◌, ◌+◌, ◌-◌, ◌*◌, ◌/◌, ◌%◌, ◌^◌, ◌≤◌, ◌++◌, length, min, sym, ap, ◌∙◌, arith}
use Rattle.fixed_decimal_digit_words.specs.Packed.{digits_in}
use Rattle.fixed_decimal_digits.proofs.PackedChanges.{bytes_length}
use Rattle.fixed_decimal_digits.proofs.BlockLemmas.{block_pushed}
use Rattle.fixed_decimal_digits.proofs.digits.Digits.push_list.Goals as goal

pub copy_bytes-requires : goal.copy_bytes-requires
copy_bytes-requires c =
    let i = c.self.inside in let o = c.other.inside in
    let counted : i.count ≡ length c.args.self.now.items = sym c.self.invariant.0.all ∙ ap (λ v. length v.items) c.self.view_is in
    let others : o.count ≡ length c.args.other.now.items = sym c.other.invariant.0.all ∙ ap (λ v. length v.items) c.other.view_is in
    let bytes : length i.kept.items ≡ (i.count + 1) / 2 = bytes_length i.kept.items i.count c.self.invariant.0 in
    let size : length o.kept.items ≡ (o.count + 1) / 2 = bytes_length o.kept.items o.count c.other.invariant.0 in
    let fits : min (2 * i.kept.capacity) (2 ^ 64 - 1) ≡ c.args.self.now.capacity = ap (λ v. v.capacity) c.self.view_is in
    let slice = ap length c.as_slice.ensures in
    omega (arith, counted, others, bytes, size, fits, slice, c.requires.room, c.requires.even)

pub invariant_of-self : goal.invariant_of-self
invariant_of-self c =
    let i = c.self.inside in let o = c.other.inside in
    let counted : i.count ≡ length c.args.self.now.items = sym c.self.invariant.0.all ∙ ap (λ v. length v.items) c.self.view_is in
    let capacity : 8 ≤ i.kept.capacity = c.self.invariant.1 in (
      (block_pushed i.kept.items c.copy_bytes.new.kept.items (digits_in o.kept.items o.count) i.count o.count c.self.invariant.0 c.other.invariant.0.tens (ap (λ k. k % 2) counted ∙ c.requires.even)
          c.other.invariant.0.all (c.copy_bytes.ensures.items ∙ ap (λ b. i.kept.items ++ b) (c.as_slice.ensures ∙ c.other.invariant.0.packed_are))).0,
      omega (arith, capacity, c.copy_bytes.ensures.capacity),
    )

pub returns-clause-items : goal.returns-clause-items
returns-clause-items c =
    let i = c.self.inside in let o = c.other.inside in
    let counted : i.count ≡ length c.args.self.now.items = sym c.self.invariant.0.all ∙ ap (λ v. length v.items) c.self.view_is in
    (block_pushed i.kept.items c.copy_bytes.new.kept.items (digits_in o.kept.items o.count) i.count o.count c.self.invariant.0 c.other.invariant.0.tens (ap (λ k. k % 2) counted ∙ c.requires.even)
    c.other.invariant.0.all (c.copy_bytes.ensures.items ∙ ap (λ b. i.kept.items ++ b) (c.as_slice.ensures ∙ c.other.invariant.0.packed_are))).1
    ∙ ap (λ v. v.items ++ digits_in o.kept.items o.count) c.self.view_is
    ∙ ap (λ v. c.args.self.now.items ++ v.items) c.other.view_is
