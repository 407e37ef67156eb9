use Rattle.std.proofs.Common.{◌-◌, ◌/◌, ◌++◌, ◌∙◌, ap, append-nil, arith, replicate, sym}
use Rattle.icu_decimal_grouping.specs.HeldSizes.{sizes_held}
use Rattle.icu_decimal_grouping.proofs.HeldSizesLemmas.{chunk_few, chunk_whole, middles_taken}
use Rattle.icu_decimal_grouping.proofs.group_sizes.GroupSizes.next_chunk.Goals as goal

pub returns-clause-taken : goal.returns-clause-taken
returns-clause-taken c =
    let held = c.self.inside in
    let none = c.if-self-gt0.false in
    let enough = c.if-self-groups.false in
    let groups = 48 / held.middle in
    sym c.self.view_is
    ∙ middles_taken held.first held.middles held.middle held.last groups (omega (arith, none)) (omega (arith, enough))
    ∙ ap (λ taken. taken ++ sizes_held held.first (held.middles - groups) held.middle held.last) (sym (append-nil (replicate groups held.middle)))

pub returns-clause-whole : goal.returns-clause-whole
returns-clause-whole c = chunk_whole c.self.inside.middle c.if-size-ne0.false

pub returns-clause-few : goal.returns-clause-few
returns-clause-few c =
    let some = c.if-size-eq0.false in
    chunk_few c.self.inside.middle c.if-size-ne0.false (omega (arith, some))
