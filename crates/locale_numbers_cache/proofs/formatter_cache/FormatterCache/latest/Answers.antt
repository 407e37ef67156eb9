use Rattle.std.proofs.Common.{◌≡◌, ◌≤◌, Bool, true, length, subst, sym}
use Rattle.std.proofs.lemmas.Map.Entries.{length-keys_of}
use Rattle.lru.specs.LruCache.{LruCache}
use Rattle.locale_numbers_cache.specs.Cached.{Cached, ChangesNothing, IsFirst, cached}
use Rattle.locale_numbers_cache.proofs.CachedLemmas.{used_again}
use Rattle.locale_numbers_cache.proofs.KeptForLemmas.{first_is_kept}
use Rattle.locale_numbers_cache.proofs.formatter_cache.FormatterCache.latest.Goals as goal

still : {K F : Type 0} (same : K → K → Bool) (itself : (key : K) → same key key ≡ true) (kept : LruCache K F) (made : _) (cache : Cached K F) → cached kept.entries kept.cap made ≡ cache → length kept.entries ≤ kept.cap
    → (finds : K → Bool) (key : K) → IsFirst key cache → ChangesNothing same finds key cache
still same itself kept made cache view fits finds key =
    subst (λ c. IsFirst key c → ChangesNothing same finds key c) view
    (used_again same finds key (itself key) (cached kept.entries kept.cap made) (subst (λ n. n ≤ kept.cap) (sym (length-keys_of kept.entries)) fits))

pub returns-in-Some-clause-again : goal.returns-in-Some-clause-again
returns-in-Some-clause-again g c = still g.K.PartialEq.eq g.met.K.Eq.laws.refl c.self.inside.kept c.self.inside.made c.args.self.now c.self.view_is c.self.invariant.0

pub returns-in-None-clause-again : goal.returns-in-None-clause-again
returns-in-None-clause-again g c = still g.K.PartialEq.eq g.met.K.Eq.laws.refl c.self.inside.kept c.self.inside.made c.args.self.now c.self.view_is c.self.invariant.0

pub returns-in-Some-clause-held : goal.returns-in-Some-clause-held
returns-in-Some-clause-held g c = λ key. first_is_kept g.K.PartialEq.eq key (g.met.K.Eq.laws.refl key) c.args.self.now

pub returns-in-None-clause-held : goal.returns-in-None-clause-held
returns-in-None-clause-held g c = λ key. first_is_kept g.K.PartialEq.eq key (g.met.K.Eq.laws.refl key) c.args.self.now
