use Rattle.std.proofs.Common.{◌<◌, ◌++◌, [], rules, refl, length, take}
use Rattle.std.proofs.lemmas.Result.{err_from_is_err_and}
use Rattle.std.proofs.KnownBytes.{Consumes-nil, Consumes-trans, Consumes-kept}
use Rattle.locale_numbers_lines.proofs.ProgressLemmas.{progress_none}
use Rattle.locale_numbers_lines.proofs.OutcomeLemmas.{progress_fed, all_part, all_answered, told_ended, read_allowed}
use Rattle.locale_numbers_lines.proofs.RefusalLemmas.{feed_refused, finish_refused, stop_refused}
use Rattle.locale_numbers_lines.proofs.streaming.stream.Goals as goal

pub read-init : goal.read-init
read-init g c = record {
  told = [];
  gave = Consumes-nil _;
  came = progress_none _ _ _ _ c.new-held.ensures.items;
  nothing = c.new-ready.ensures.bytes;
  same = refl;
  can_answer = c.requires.can_answer;
  reader_well = c.requires.reader_well;
  writer_well = c.requires.writer_well;
}

pub read-requires-clause-allowed : goal.read-requires-clause-allowed
read-requires-clause-allowed g c =
    read_allowed g.R.ByteReader.may_read g.R.ByteReader.remaining g.W.ByteWriter.contents _ _ _ _ _ _ _ _ _ _ _ c.requires.prompt c.read.invariant.gave c.read.invariant.came

pub read-preserved : goal.read-preserved
read-preserved g c =
    let so_far = c.read.invariant in
    let buffer = c.read-in-read.new.buffer in
    let given = c.in-Ok.given in
    record {
      told = so_far.told ++ take given buffer;
      gave = Consumes-trans _ _ _ _ _ so_far.gave c.in-Ok.ensures.bytes.0;
      came = progress_fed _ _ _ _ _ _ _ _ _ _ _ _ _ _ _ so_far.came so_far.same c.in_ok-lines-in-Ok.ensures.came;
      nothing = search rules;
      same = search rules;
      can_answer = search rules;
      reader_well = search rules;
      writer_well = search rules;
    }

pub returns-in_err-lines-in-Ok-clause-outcome : goal.returns-in_err-lines-in-Ok-clause-outcome
returns-in_err-lines-in-Ok-clause-outcome g c =
    let so_far = c.read.invariant in
    let p = err_from_is_err_and c.from_residual-in_err-lines-in-Ok.result c.from_residual-in_err-lines-in-Ok.ensures.1 in
    rw (p.1, p.2)
    (feed_refused _ _ _ _ _ _ _ _ _ _ _ _ _ _ _ _ so_far.came so_far.same (Consumes-trans _ _ _ _ _ so_far.gave c.in-Ok.ensures.bytes.0) c.in_err-lines-in-Ok.ensures.came)

pub returns-in_err-count-in-Ok-eq0-clause-outcome : goal.returns-in_err-count-in-Ok-eq0-clause-outcome
returns-in_err-count-in-Ok-eq0-clause-outcome g c =
    let so_far = c.read.invariant in
    let given = rw c.in-Ok-eq0.field-0-test at c.in-Ok-eq0.ensures.bytes in
    let room : 0 < length c.read-in-read.new.buffer = search rules in
    let p = err_from_is_err_and c.from_residual.result c.from_residual.ensures.1 in
    rw (p.1, p.2)
    (finish_refused _ _ _ _ _ _ _ _ _ _ _ _ _ _ _ so_far.came so_far.same (told_ended _ _ _ _ so_far.gave given.0) (given.1 refl room) (rw c.as_slice.ensures.value at c.in_err-count-in-Ok-eq0.ensures.came))

pub returns-in-Err-flush-clause-outcome : goal.returns-in-Err-flush-clause-outcome
returns-in-Err-flush-clause-outcome g c =
    let so_far = c.read.invariant in
    let given = rw c.in-Ok-eq0.field-0-test at c.in-Ok-eq0.ensures.bytes in
    let room : 0 < length c.read-in-read.new.buffer = search rules in
    all_part _ _ _ _ _ _ _ _ _ _ _ _ _ _ _ _ so_far.came so_far.same (rw c.as_slice.ensures.value at c.in_ok-count-in-Ok-eq0.ensures.came) (told_ended _ _ _ _ so_far.gave given.0) (given.1 refl room)
    c.in-Err-flush.ensures.bytes

pub returns-in-Ok-flush-clause-outcome : goal.returns-in-Ok-flush-clause-outcome
returns-in-Ok-flush-clause-outcome g c =
    let so_far = c.read.invariant in
    let given = rw c.in-Ok-eq0.field-0-test at c.in-Ok-eq0.ensures.bytes in
    let room : 0 < length c.read-in-read.new.buffer = search rules in
    all_answered _ _ _ _ _ _ _ _ _ _ _ _ _ _ _ so_far.came so_far.same (rw c.as_slice.ensures.value at c.in_ok-count-in-Ok-eq0.ensures.came) (told_ended _ _ _ _ so_far.gave given.0) (given.1 refl room)
    c.in-Ok-flush.ensures.bytes

pub returns-in-Err-clause-outcome : goal.returns-in-Err-clause-outcome
returns-in-Err-clause-outcome g c =
    let so_far = c.read.invariant in
    stop_refused _ _ _ _ _ _ _ _ _ _ _ _ _ _ so_far.came (Consumes-kept _ _ _ _ so_far.gave c.in-Err.ensures.bytes) c.stop.ensures.kept
