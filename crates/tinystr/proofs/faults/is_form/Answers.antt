use Rattle.std.proofs.Common.{◌≡◌, ◌≤◌, length, true, false, refl, arith}
use Rattle.tinystr.proofs.RawLemmas.{IsForm-clean, fault_is_no_form}
use Rattle.tinystr.proofs.faults.is_form.Goals as goal

pub returns-in-Ok : goal.returns-in-Ok
returns-in-Ok c =
    (λ _. IsForm-clean (length c.args.bytes.now) c.in-Ok.ensures.1.nuls c.args.bytes.now c.in-Ok.ensures.1.clean refl, λ _. refl)

pub returns-in-Err : goal.returns-in-Err
returns-in-Err c =
    let short : length c.args.bytes.now ≤ length c.args.bytes.now = omega arith in (
      λ wrong. let e : false ≡ true = wrong in cc,
      λ form. absurd (fault_is_no_form (length c.args.bytes.now) c.args.bytes.now c.in-Err.field-0 short c.in-Err.ensures form),
    )
