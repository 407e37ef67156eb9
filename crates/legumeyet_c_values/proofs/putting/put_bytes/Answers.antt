use Rattle.std.proofs.Common.{rules, ◌-◌, ◌^◌, ◌≤◌, refl}
use Rattle.legumeyet_c_values.proofs.PuttingLemmas.{put_cut, put_whole}
use Rattle.legumeyet_c_values.proofs.putting.put_bytes.Goals as goal

pub returns-in-Ok : goal.returns-in-Ok
returns-in-Ok c = put_whole _ _ c.args.text.now _ _ _ _ refl c.in-Ok.ensures.text c.in-Ok.ensures.value

pub returns-in-Err : goal.returns-in-Err
returns-in-Err c =
    let few : c.in-Err.error.needed ≤ 2 ^ 64 - 1 = search rules in
    put_cut _ _ c.args.text.now _ _ _ _ refl (λ fits. absurd (cc (c.in-Err.ensures.succeeds.1 fits))) (λ _. c.in-Err.ensures.err)
    (search rules)
