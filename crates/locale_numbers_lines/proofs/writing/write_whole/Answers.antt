use Rattle.std.proofs.Common.{rules, ◌++◌, take}
use Rattle.std.proofs.KnownBytes.{Appends-trans}
use Rattle.locale_numbers_lines.proofs.WriteLemmas.{sent_more, front_sent, front_kept}
use Rattle.locale_numbers_lines.proofs.writing.write_whole.Goals as goal

pub write-preserved : goal.write-preserved
write-preserved g c =
    let so_far = c.write.invariant in
    let rest = c.write.rest.now in
    record {
      sent = so_far.sent ++ take c.in-Ok.count rest;
      whole = sent_more _ _ rest c.in-Ok.count so_far.whole;
      wrote = Appends-trans _ _ _ _ _ so_far.wrote c.in-Ok.ensures.bytes;
      well = search rules;
    }

pub returns-in-Ok-eq0-clause-wrote : goal.returns-in-Ok-eq0-clause-wrote
returns-in-Ok-eq0-clause-wrote g c = front_sent _ _ _ _ _ _ _ c.write.invariant.whole c.write.invariant.wrote c.in-Ok-eq0.ensures.bytes

pub returns-in-Err-clause-wrote : goal.returns-in-Err-clause-wrote
returns-in-Err-clause-wrote g c = front_kept _ _ _ _ _ _ c.write.invariant.whole c.write.invariant.wrote c.in-Err.ensures.bytes
