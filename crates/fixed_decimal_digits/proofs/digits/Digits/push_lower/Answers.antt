use Rattle.std.proofs.Common.{rules, ◌≡◌, ◌+◌, ◌/◌, ◌%◌, [], ◌∷◌, ◌++◌, length, get_or, set, sym, ap, ◌∙◌, arith}
use Rattle.fixed_decimal_digits.proofs.PackedChanges.{bytes_length, lower_pushed, room_below}
use Rattle.fixed_decimal_digits.proofs.digits.Digits.push_lower.Goals as goal

pub bounds-as_slice-last : goal.bounds-as_slice-last
bounds-as_slice-last c =
    let i = c.self.inside in
    let counted : i.count ≡ length c.args.self.now.items = sym c.self.invariant.0.all ∙ ap (λ v. length v.items) c.self.view_is in
    let bytes : length i.kept.items ≡ (i.count + 1) / 2 = bytes_length i.kept.items i.count c.self.invariant.0 in
    omega (arith, ap length c.as_slice.ensures, counted, bytes, c.requires.odd)

pub overflow_add-byte : goal.overflow_add-byte
overflow_add-byte c =
    let i = c.self.inside in
    let counted : i.count ≡ length c.args.self.now.items = sym c.self.invariant.0.all ∙ ap (λ v. length v.items) c.self.view_is in
    let room = room_below i.kept.items i.count c.self.invariant.0 (ap (λ k. k % 2) counted ∙ c.requires.odd) in
    omega (arith, room, ap (λ b. get_or b (i.count / 2) 0) c.as_slice.ensures, c.requires.ten)

pub set_byte-requires : goal.set_byte-requires
set_byte-requires c =
    let i = c.self.inside in
    let counted : i.count ≡ length c.args.self.now.items = sym c.self.invariant.0.all ∙ ap (λ v. length v.items) c.self.view_is in
    let bytes : length i.kept.items ≡ (i.count + 1) / 2 = bytes_length i.kept.items i.count c.self.invariant.0 in
    omega (arith, counted, bytes, c.requires.odd)

pub invariant_of-self : goal.invariant_of-self
invariant_of-self c =
    let i = c.self.inside in
    let counted : i.count ≡ length c.args.self.now.items = sym c.self.invariant.0.all ∙ ap (λ v. length v.items) c.self.view_is in
    let new = c.set_byte.ensures.items ∙ ap (λ b. set i.kept.items (i.count / 2) (get_or b (i.count / 2) 0 + c.args.digit)) c.as_slice.ensures in
    ((lower_pushed i.kept.items _ i.count c.args.digit c.self.invariant.0 c.requires.ten (ap (λ k. k % 2) counted ∙ c.requires.odd) new).0, search rules)

pub returns-clause-items : goal.returns-clause-items
returns-clause-items c =
    let i = c.self.inside in
    let counted : i.count ≡ length c.args.self.now.items = sym c.self.invariant.0.all ∙ ap (λ v. length v.items) c.self.view_is in
    let new = c.set_byte.ensures.items ∙ ap (λ b. set i.kept.items (i.count / 2) (get_or b (i.count / 2) 0 + c.args.digit)) c.as_slice.ensures in
    (lower_pushed i.kept.items _ i.count c.args.digit c.self.invariant.0 c.requires.ten (ap (λ k. k % 2) counted ∙ c.requires.odd) new).1
    ∙ ap (λ v. v.items ++ c.args.digit ∷ []) c.self.view_is
