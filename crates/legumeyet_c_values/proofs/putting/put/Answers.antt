use Rattle.std.proofs.Common.{refl}
use Rattle.writeable.specs.AnnotatedText.{text_of}
use Rattle.legumeyet_c_values.proofs.PuttingLemmas.{put_cut, put_whole}
use Rattle.legumeyet_c_values.proofs.putting.put.Goals as goal

pub returns-in-Ok : goal.returns-in-Ok
returns-in-Ok g c =
    put_whole _ _ (text_of (g.T.Writeable.events c.args.value.now)) _ _ _ _ refl c.in-Ok.ensures.text c.in-Ok.ensures.value

pub returns-in-Err : goal.returns-in-Err
returns-in-Err g c =
    put_cut _ _ (text_of (g.T.Writeable.events c.args.value.now)) _ _ _ _ refl (λ fits. absurd (cc (c.in-Err.ensures.succeeds.1 fits)))
    c.in-Err.ensures.err c.in-Err.ensures.needed
