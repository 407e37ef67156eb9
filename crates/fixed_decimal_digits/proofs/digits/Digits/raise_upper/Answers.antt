use Rattle.std.proofs.Common.{rules, ◌≡◌, ◌+◌, ◌-◌, ◌*◌, ◌/◌, ◌<◌, length, get_or, set, sym, ap, ◌∙◌, subst, arith}
use Rattle.std.proofs.lemmas.List.{length-take-le}
use Rattle.fixed_decimal_digit_words.specs.Packed.{digits_in}
use Rattle.fixed_decimal_digits.proofs.PackedChanges.{bytes_length, odd_raised, upper_taken, raised_by}
use Rattle.fixed_decimal_digits.proofs.digits.Digits.raise_upper.Goals as goal

pub bounds-as_slice-last : goal.bounds-as_slice-last
bounds-as_slice-last c =
    let i = c.self.inside in
    let counted : i.count ≡ length c.args.self.now.items = sym c.self.invariant.0.all ∙ ap (λ v. length v.items) c.self.view_is in
    let bytes : length i.kept.items ≡ (i.count + 1) / 2 = bytes_length i.kept.items i.count c.self.invariant.0 in
    let kept : length c.truncate.new.self.items ≡ (c.args.len - 1) / 2 + 1 = ap length c.truncate.ensures.items ∙ length-take-le ((c.args.len - 1) / 2 + 1) i.kept.items (omega (arith, counted, bytes, c.requires.within, c.requires.odd)) in
    omega (arith, ap length c.as_slice.ensures, kept)

pub set_byte-requires : goal.set_byte-requires
set_byte-requires c =
    let i = c.self.inside in
    let counted : i.count ≡ length c.args.self.now.items = sym c.self.invariant.0.all ∙ ap (λ v. length v.items) c.self.view_is in
    let bytes : length i.kept.items ≡ (i.count + 1) / 2 = bytes_length i.kept.items i.count c.self.invariant.0 in
    let kept : length c.truncate.new.self.items ≡ (c.args.len - 1) / 2 + 1 = ap length c.truncate.ensures.items ∙ length-take-le ((c.args.len - 1) / 2 + 1) i.kept.items (omega (arith, counted, bytes, c.requires.within, c.requires.odd)) in
    omega (arith, kept)

pub overflow_mul-byte : goal.overflow_mul-byte
overflow_mul-byte c =
    let i = c.self.inside in
    let counted : i.count ≡ length c.args.self.now.items = sym c.self.invariant.0.all ∙ ap (λ v. length v.items) c.self.view_is in
    let ten : get_or (digits_in i.kept.items i.count) (c.args.len - 1) 0 + c.args.more < 10 = subst (λ v. get_or v.items (c.args.len - 1) 0 + c.args.more < 10) (sym c.self.view_is) c.requires.ten in
    let half = ap (λ b. get_or b ((c.args.len - 1) / 2) 0 / 16) (c.as_slice.ensures ∙ c.truncate.ensures.items) ∙ upper_taken i.kept.items i.count c.args.len c.self.invariant.0 (omega (arith, counted, c.requires.within)) c.requires.odd in
    omega (arith, half, ten)

pub invariant_of-self : goal.invariant_of-self
invariant_of-self c =
    let i = c.self.inside in
    let counted : i.count ≡ length c.args.self.now.items = sym c.self.invariant.0.all ∙ ap (λ v. length v.items) c.self.view_is in
    let ten : get_or (digits_in i.kept.items i.count) (c.args.len - 1) 0 + c.args.more < 10 = subst (λ v. get_or v.items (c.args.len - 1) 0 + c.args.more < 10) (sym c.self.view_is) c.requires.ten in
    let k = (c.args.len - 1) / 2 in
    let new = c.set_byte.ensures.items ∙ ap (λ b. set c.truncate.new.self.items k ((get_or b k 0 / 16 + c.args.more) * 16)) c.as_slice.ensures ∙ ap (λ t. set t k ((get_or t k 0 / 16 + c.args.more) * 16)) c.truncate.ensures.items in
    ((odd_raised i.kept.items _ i.count c.args.len c.args.more c.self.invariant.0 (omega (arith, counted, c.requires.within)) c.requires.odd ten new).0, search rules)

pub returns-clause-items : goal.returns-clause-items
returns-clause-items c =
    let i = c.self.inside in
    let counted : i.count ≡ length c.args.self.now.items = sym c.self.invariant.0.all ∙ ap (λ v. length v.items) c.self.view_is in
    let ten : get_or (digits_in i.kept.items i.count) (c.args.len - 1) 0 + c.args.more < 10 = subst (λ v. get_or v.items (c.args.len - 1) 0 + c.args.more < 10) (sym c.self.view_is) c.requires.ten in
    let k = (c.args.len - 1) / 2 in
    let new = c.set_byte.ensures.items ∙ ap (λ b. set c.truncate.new.self.items k ((get_or b k 0 / 16 + c.args.more) * 16)) c.as_slice.ensures ∙ ap (λ t. set t k ((get_or t k 0 / 16 + c.args.more) * 16)) c.truncate.ensures.items in
    (odd_raised i.kept.items _ i.count c.args.len c.args.more c.self.invariant.0 (omega (arith, counted, c.requires.within)) c.requires.odd ten new).1
    ∙ ap (λ v. raised_by v.items c.args.len c.args.more) c.self.view_is
