use Rattle.std.proofs.Common.{◌≤◌, subst}
use Rattle.writeable.specs.Taking.{on_err}
use Rattle.icu_decimal_reading.proofs.GatheredLemmas.{many_gathered}
use Rattle.icu_decimal_reading.proofs.gathered.Gathered.push.Goals as goal

pub returns-in_err-push-clause-room : goal.returns-in_err-push-clause-room
returns-in_err-push-clause-room c =
    let i = c.self.inside in
    on_err c.from_residual.result
    (subst (λ v. 16 ≤ v.count) c.self.view_is (many_gathered i.given i.count c.args.digit c.self.invariant c.requires.ten c.in_err-push.ensures.room))
