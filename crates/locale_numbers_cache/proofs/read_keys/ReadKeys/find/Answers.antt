use Rattle.locale_numbers_cache.proofs.LastReadLemmas.{last_key, last_used, used_is_kept}
use Rattle.locale_numbers_cache.proofs.read_keys.ReadKeys.find.Goals as goal

pub returns-then-is_last-clause-value : goal.returns-then-is_last-clause-value
returns-then-is_last-clause-value g c =
    last_key (g.R.KeyReader.key_of c.args.reader.now) c.args.bytes.now c.args.self.now c.requires (c.is_last.ensures c.if-is_last.true)

pub returns-then-is_last-clause-used : goal.returns-then-is_last-clause-used
returns-then-is_last-clause-used g c = λ little.
    last_used (g.R.KeyReader.key_of c.args.reader.now) c.args.bytes.now c.args.self.now c.requires (c.is_last.ensures c.if-is_last.true)

pub returns-then-is_last-clause-kept : goal.returns-then-is_last-clause-kept
returns-then-is_last-clause-kept g c = λ little.
    let last = c.is_last.ensures c.if-is_last.true in
    used_is_kept c.args.bytes.now last.key last.pair c.args.self.now.pairs last.at last.last
