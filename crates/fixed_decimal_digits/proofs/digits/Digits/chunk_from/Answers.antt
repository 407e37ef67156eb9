use Rattle.std.proofs.Common.{◌≡◌, ◌-◌, ◌*◌, ◌/◌, ◌%◌, ◌≤◌, length, take, drop, sym, ap, ◌∙◌, arith, length-drop}
use Rattle.fixed_decimal_digits.proofs.ChunkLemmas.{chunk_is, chunk_tens}
use Rattle.fixed_decimal_digits.proofs.PackedChanges.{bytes_length}
use Rattle.fixed_decimal_digits.proofs.digits.Digits.chunk_from.Goals as goal

pub chunk_within-requires : goal.chunk_within-requires
chunk_within-requires c =
    let i = c.self.inside in
    let counted : i.count ≡ length c.args.self.now.items = sym c.self.invariant.0.all ∙ ap (λ v. length v.items) c.self.view_is in
    let size : length c.split_at.result.1.now ≡ length i.kept.items - c.args.index / 2 =
    ap length (c.split_at.ensures.back ∙ ap (drop (c.args.index / 2)) c.as_slice.ensures) ∙ length-drop (c.args.index / 2) i.kept.items in
    omega (arith, size, counted, bytes_length i.kept.items i.count c.self.invariant.0, c.requires.within, c.if-index-eq0.true)

pub chunk_between-requires : goal.chunk_between-requires
chunk_between-requires c =
    let i = c.self.inside in
    let odd : c.args.index % 2 ≡ 1 = grind (arith, c.if-index-eq0.false) in
    let counted : i.count ≡ length c.args.self.now.items = sym c.self.invariant.0.all ∙ ap (λ v. length v.items) c.self.view_is in
    let size : length c.split_at.result.1.now ≡ length i.kept.items - c.args.index / 2 =
    ap length (c.split_at.ensures.back ∙ ap (drop (c.args.index / 2)) c.as_slice.ensures) ∙ length-drop (c.args.index / 2) i.kept.items in
    omega (arith, size, counted, bytes_length i.kept.items i.count c.self.invariant.0, c.requires.within, odd)

pub returns-then-index-eq0 : goal.returns-then-index-eq0
returns-then-index-eq0 c =
    let i = c.self.inside in
    let index = c.args.index in
    let counted : i.count ≡ length c.args.self.now.items = sym c.self.invariant.0.all ∙ ap (λ v. length v.items) c.self.view_is in
    let whole : i.count ≤ 2 * length i.kept.items = omega (arith, bytes_length i.kept.items i.count c.self.invariant.0) in
    let behind = c.split_at.ensures.back ∙ ap (drop (index / 2)) c.as_slice.ensures in
    let held = c.chunk_within.ensures ∙ chunk_is i.kept.items c.split_at.result.1.now i.count (index / 2) 0 index (omega (arith, c.if-index-eq0.true)) (omega (arith, counted, c.requires.within)) whole behind in
    record {
      taken = held ∙ ap (λ v. take 48 (drop index v.items)) c.self.view_is;
      tens = chunk_tens i.kept.items c.chunk_within.result i.count index c.self.invariant.0 held;
    }

pub returns-else-index-eq0 : goal.returns-else-index-eq0
returns-else-index-eq0 c =
    let i = c.self.inside in
    let index = c.args.index in
    let odd : index % 2 ≡ 1 = grind (arith, c.if-index-eq0.false) in
    let counted : i.count ≡ length c.args.self.now.items = sym c.self.invariant.0.all ∙ ap (λ v. length v.items) c.self.view_is in
    let whole : i.count ≤ 2 * length i.kept.items = omega (arith, bytes_length i.kept.items i.count c.self.invariant.0) in
    let behind = c.split_at.ensures.back ∙ ap (drop (index / 2)) c.as_slice.ensures in
    let held = c.chunk_between.ensures ∙ chunk_is i.kept.items c.split_at.result.1.now i.count (index / 2) 1 index (omega (arith, odd)) (omega (arith, counted, c.requires.within)) whole behind in
    record {
      taken = held ∙ ap (λ v. take 48 (drop index v.items)) c.self.view_is;
      tens = chunk_tens i.kept.items c.chunk_between.result i.count index c.self.invariant.0 held;
    }
