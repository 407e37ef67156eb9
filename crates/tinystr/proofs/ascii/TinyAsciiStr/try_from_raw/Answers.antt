use Rattle.std.proofs.Common.{◌≡◌, ◌≤◌, length, refl, arith, rules}
use Rattle.tinystr.specs.SmallText.{IsForm}
use Rattle.tinystr.proofs.RawLemmas.{IsForm-clean, fault_is_no_form}
use Rattle.tinystr.proofs.ascii.TinyAsciiStr.try_from_raw.Goals as goal

pub from_utf8_unchecked-requires : goal.from_utf8_unchecked-requires
from_utf8_unchecked-requires g c =
    let long : length c.args.raw ≡ g.row.N = search rules in
    let form : IsForm g.row.N c.args.raw = IsForm-clean g.row.N c.in-Ok.ensures.1.nuls c.args.raw c.in-Ok.ensures.1.clean long in
    search rules

pub returns-in-Ok-clause-succeeds : goal.returns-in-Ok-clause-succeeds
returns-in-Ok-clause-succeeds g c =
    let long : length c.args.raw ≡ g.row.N = search rules in
    (λ _. IsForm-clean g.row.N c.in-Ok.ensures.1.nuls c.args.raw c.in-Ok.ensures.1.clean long, λ _. refl)

pub returns-in-Err-clause-succeeds : goal.returns-in-Err-clause-succeeds
returns-in-Err-clause-succeeds g c =
    let long : length c.args.raw ≡ g.row.N = search rules in
    let short : length c.args.raw ≤ g.row.N = omega arith in
    (λ no_ok. let e = no_ok in cc, λ form. absurd (fault_is_no_form g.row.N c.args.raw c.in-Err.fault short c.in-Err.ensures form))
