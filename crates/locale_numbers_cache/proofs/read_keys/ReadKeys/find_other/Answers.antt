use Rattle.std.proofs.Common.{◌≡◌, All, IfSome, set, slice_get, true, sym, subst}
use Rattle.std.proofs.lemmas.List.Elements.{All-set}
use Rattle.locale_numbers_cache.specs.LastRead.{AreRead, Remembered, Uses, either_remembers, pair_at}
use Rattle.locale_numbers_cache.proofs.LastReadLemmas.{both_used, now_kept, now_last, now_latest, old_read, old_remembers}
use Rattle.locale_numbers_cache.proofs.read_keys.ReadKeys.find_other.Goals as goal

pub returns-then-bytes-gt-LONGEST-clause-sound : goal.returns-then-bytes-gt-LONGEST-clause-sound
returns-then-bytes-gt-LONGEST-clause-sound g c = subst (λ (keys : Remembered _). All (AreRead (g.R.KeyReader.key_of c.args.reader.now)) keys.pairs) (sym c.self.view_is) c.requires

pub find-requires : goal.find-requires
find-requires g c =
    old_read c.self.inside.pairs.items c.pair_of-pair.result c.index_mut.result.now c.self.invariant.0 c.pair_of-pair.ensures.within c.index_mut.ensures.value
    (g.R.KeyReader.key_of c.args.reader.now)
    (subst (λ (keys : Remembered _). All (AreRead (g.R.KeyReader.key_of c.args.reader.now)) keys.pairs) (sym c.self.view_is) c.requires)

pub returns-in-Ok-clause-used : goal.returns-in-Ok-clause-used
returns-in-Ok-clause-used g c = λ little.
    subst (λ (keys : Remembered _). IfSome (slice_get keys.pairs (pair_at c.args.bytes.now)) (λ old. IfSome (slice_get (set c.self.inside.pairs.items c.pair_of-pair.result c.find.new.self) (pair_at c.args.bytes.now)) (λ new. Uses c.args.bytes.now (g.R.KeyReader.key_of c.args.reader.now c.args.bytes.now) old new)))
    c.self.view_is
    (both_used c.self.inside.pairs.items c.pair_of-pair.result c.index_mut.result.now c.self.invariant.0 c.pair_of-pair.ensures.within c.index_mut.ensures.value
    c.args.bytes.now c.pair_of-pair.ensures.value c.find.new.self (g.R.KeyReader.key_of c.args.reader.now c.args.bytes.now) c.in-Ok.ensures.used)

pub returns-in-Ok-clause-sound : goal.returns-in-Ok-clause-sound
returns-in-Ok-clause-sound g c =
    All-set (AreRead (g.R.KeyReader.key_of c.args.reader.now)) c.self.inside.pairs.items c.pair_of-pair.result c.find.new.self c.find.ensures.sound
    (subst (λ (keys : Remembered _). All (AreRead (g.R.KeyReader.key_of c.args.reader.now)) keys.pairs) (sym c.self.view_is) c.requires)

pub returns-in-Err-clause-sound : goal.returns-in-Err-clause-sound
returns-in-Err-clause-sound g c =
    All-set (AreRead (g.R.KeyReader.key_of c.args.reader.now)) c.self.inside.pairs.items c.pair_of-pair.result c.find.new.self c.find.ensures.sound
    (subst (λ (keys : Remembered _). All (AreRead (g.R.KeyReader.key_of c.args.reader.now)) keys.pairs) (sym c.self.view_is) c.requires)

pub returns-in-Err-clause-room : goal.returns-in-Err-clause-room
returns-in-Err-clause-room g c = λ little remembered.
    c.in-Err.ensures.room
    (old_remembers c.self.inside.pairs.items c.pair_of-pair.result c.index_mut.result.now c.self.invariant.0 c.pair_of-pair.ensures.within c.index_mut.ensures.value
    c.args.bytes.now c.pair_of-pair.ensures.value
    (subst (λ (keys : Remembered _). IfSome (slice_get keys.pairs (pair_at c.args.bytes.now)) (λ pair. either_remembers c.args.bytes.now pair ≡ true)) (sym c.self.view_is) remembered))

pub invariant_of-self-in-Ok : goal.invariant_of-self-in-Ok
invariant_of-self-in-Ok g c =
    now_last c.self.inside.pairs.items c.pair_of-pair.result c.index_mut.result.now c.self.invariant.0 c.pair_of-pair.ensures.within c.index_mut.ensures.value
    c.args.bytes.now c.pair_of-pair.ensures.value c.find.new.self (g.R.KeyReader.key_of c.args.reader.now c.args.bytes.now) c.in-Ok.ensures.used

pub returns-in-Ok-clause-value : goal.returns-in-Ok-clause-value
returns-in-Ok-clause-value g c =
    now_latest c.self.inside.pairs.items c.pair_of-pair.result c.index_mut.result.now c.self.invariant.0 c.pair_of-pair.ensures.within c.index_mut.ensures.value
    c.args.bytes.now c.pair_of-pair.ensures.value c.find.new.self (g.R.KeyReader.key_of c.args.reader.now c.args.bytes.now) c.in-Ok.ensures.used c.self.inside.long

pub returns-in-Ok-clause-kept : goal.returns-in-Ok-clause-kept
returns-in-Ok-clause-kept g c = λ little.
    now_kept c.self.inside.pairs.items c.pair_of-pair.result c.index_mut.result.now c.self.invariant.0 c.pair_of-pair.ensures.within c.index_mut.ensures.value
    c.args.bytes.now c.pair_of-pair.ensures.value c.find.new.self (g.R.KeyReader.key_of c.args.reader.now c.args.bytes.now) c.in-Ok.ensures.used
