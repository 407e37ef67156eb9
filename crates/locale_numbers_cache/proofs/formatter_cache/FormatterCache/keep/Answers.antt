use Rattle.std.proofs.Common.{◌≤◌, sym, ap, subst, ◌∙◌, true≢false, arith, Result, Ok, Err, OnErr}
use Rattle.locale_numbers_cache.specs.Cached.{cached, most, recent_of, made_over, IsSound}
use Rattle.locale_numbers_cache.proofs.CachedLemmas.{Uses, hit, miss, not_kept, nothing_put}
use Rattle.locale_numbers_cache.proofs.KeptForLemmas.{all_kept, first_is_there}
use Rattle.locale_numbers_cache.proofs.formatter_cache.FormatterCache.keep.Given as given
use Rattle.locale_numbers_cache.proofs.formatter_cache.FormatterCache.keep.Goals as goal

found_here : (g : given.Over) (c : goal.Then-promote g) → Uses g.K.PartialEq.eq (g.M.Maker.finds c.args.maker.now) (g.M.Maker.is_made c.args.maker.now) c.args.key.now c.args.self.now (cached c.promote.new.kept.entries c.promote.new.kept.cap c.self.inside.made)
found_here g c = let little : c.self.inside.made ≤ most = omega (arith, c.self.ranges.1.0.1) in
    hit g.K.PartialEq.eq g.met.K.CacheKey.same (g.M.Maker.finds c.args.maker.now) (g.M.Maker.is_made c.args.maker.now) c.args.key.now c.self.inside.kept c.self.inside.made
    c.args.self.now c.promote.new.kept c.promote.result c.self.view_is c.requires c.self.invariant little c.promote.ensures.entries c.promote.ensures.value c.if-promote.true

pub invariant_of-self : goal.invariant_of-self
invariant_of-self g c = (found_here g c).bounds

pub returns-then-promote-clause-value : goal.returns-then-promote-clause-value
returns-then-promote-clause-value g c = sym (found_here g c).found

pub returns-then-promote-clause-latest : goal.returns-then-promote-clause-latest
returns-then-promote-clause-latest g c = λ _. (found_here g c).latest

pub returns-then-promote-clause-there : goal.returns-then-promote-clause-there
returns-then-promote-clause-there g c = λ _. let latest = (found_here g c).latest in first_is_there g.K.PartialEq.eq c.args.key.now (g.met.K.Eq.laws.refl c.args.key.now) (cached c.promote.new.kept.entries c.promote.new.kept.cap c.self.inside.made) latest.kept latest.first

pub returns-then-promote-clause-recent : goal.returns-then-promote-clause-recent
returns-then-promote-clause-recent g c = (found_here g c).recent

pub returns-then-promote-clause-count : goal.returns-then-promote-clause-count
returns-then-promote-clause-count g c = (found_here g c).count

pub returns-then-promote-clause-ahead : goal.returns-then-promote-clause-ahead
returns-then-promote-clause-ahead g c = (found_here g c).ahead

pub returns-then-promote-clause-sound : goal.returns-then-promote-clause-sound
returns-then-promote-clause-sound g c = (found_here g c).sound

pub returns-then-promote-clause-held : goal.returns-then-promote-clause-held
returns-then-promote-clause-held g c = (found_here g c).held

-- the maker found nothing

pub invariant_of-self-then-not-branch : goal.invariant_of-self-then-not-branch
invariant_of-self-then-not-branch g c =
    let none = nothing_put g.K.PartialEq.eq c.args.key.now c.self.inside.kept c.promote.new.kept c.put_made.new.kept c.self.inside.made c.args.self.now c.promote.result
    c.self.view_is c.promote.ensures.entries c.promote.ensures.value c.if-promote.false (c.in_ok-put_made.ensures.same c.if-not-branch.true) in
    rw none.0 c.self.invariant

pub returns-then-not-branch-clause-recent : goal.returns-then-not-branch-clause-recent
returns-then-not-branch-clause-recent g c =
    let none = nothing_put g.K.PartialEq.eq c.args.key.now c.self.inside.kept c.promote.new.kept c.put_made.new.kept c.self.inside.made c.args.self.now c.promote.result
    c.self.view_is c.promote.ensures.entries c.promote.ensures.value c.if-promote.false (c.in_ok-put_made.ensures.same c.if-not-branch.true) in
    rw (sym c.in_ok-put_made.ensures.value ∙ c.if-not-branch.true) (ap recent_of none.1)

pub returns-then-not-branch-clause-ahead : goal.returns-then-not-branch-clause-ahead
returns-then-not-branch-clause-ahead g c = λ more.
    let none = nothing_put g.K.PartialEq.eq c.args.key.now c.self.inside.kept c.promote.new.kept c.put_made.new.kept c.self.inside.made c.args.self.now c.promote.result
    c.self.view_is c.promote.ensures.entries c.promote.ensures.value c.if-promote.false (c.in_ok-put_made.ensures.same c.if-not-branch.true) in
    rw (sym c.in_ok-put_made.ensures.value ∙ c.if-not-branch.true) (ap (λ s. made_over g.K.PartialEq.eq (g.M.Maker.finds c.args.maker.now) s more) (sym none.1))

pub returns-then-not-branch-clause-sound : goal.returns-then-not-branch-clause-sound
returns-then-not-branch-clause-sound g c =
    let none = nothing_put g.K.PartialEq.eq c.args.key.now c.self.inside.kept c.promote.new.kept c.put_made.new.kept c.self.inside.made c.args.self.now c.promote.result
    c.self.view_is c.promote.ensures.entries c.promote.ensures.value c.if-promote.false (c.in_ok-put_made.ensures.same c.if-not-branch.true) in
    subst (IsSound (g.M.Maker.finds c.args.maker.now) (g.M.Maker.is_made c.args.maker.now)) (sym none.1) c.requires

pub returns-then-not-branch-clause-held : goal.returns-then-not-branch-clause-held
returns-then-not-branch-clause-held g c =
    let none = nothing_put g.K.PartialEq.eq c.args.key.now c.self.inside.kept c.promote.new.kept c.put_made.new.kept c.self.inside.made c.args.self.now c.promote.result
    c.self.view_is c.promote.ensures.entries c.promote.ensures.value c.if-promote.false (c.in_ok-put_made.ensures.same c.if-not-branch.true) in
    all_kept g.K.PartialEq.eq c.args.self.now (cached c.put_made.new.kept.entries c.put_made.new.kept.cap c.self.inside.made) none.1

pub returns-then-not-branch-clause-same : goal.returns-then-not-branch-clause-same
returns-then-not-branch-clause-same g c = λ _.
    let none = nothing_put g.K.PartialEq.eq c.args.key.now c.self.inside.kept c.promote.new.kept c.put_made.new.kept c.self.inside.made c.args.self.now c.promote.result
    c.self.view_is c.promote.ensures.entries c.promote.ensures.value c.if-promote.false (c.in_ok-put_made.ensures.same c.if-not-branch.true) in
    none.1

on_err : {T E : Type 0} {P : Type 0} (result : Result T E) → P → OnErr result P
on_err (Ok value) p = tt
on_err (Err fault) p = p

-- a thing was made, and there was no memory to keep it

pub invariant_of-self-in_err-put_made : goal.invariant_of-self-in_err-put_made
invariant_of-self-in_err-put_made g c =
    let none = nothing_put g.K.PartialEq.eq c.args.key.now c.self.inside.kept c.promote.new.kept c.put_made.new.kept c.self.inside.made c.args.self.now c.promote.result
    c.self.view_is c.promote.ensures.entries c.promote.ensures.value c.if-promote.false (c.in_err-put_made.ensures.err) in
    rw none.0 c.self.invariant

pub returns-in_err-put_made-clause-sound : goal.returns-in_err-put_made-clause-sound
returns-in_err-put_made-clause-sound g c =
    let none = nothing_put g.K.PartialEq.eq c.args.key.now c.self.inside.kept c.promote.new.kept c.put_made.new.kept c.self.inside.made c.args.self.now c.promote.result
    c.self.view_is c.promote.ensures.entries c.promote.ensures.value c.if-promote.false (c.in_err-put_made.ensures.err) in
    subst (IsSound (g.M.Maker.finds c.args.maker.now) (g.M.Maker.is_made c.args.maker.now)) (sym none.1) c.requires

pub returns-in_err-put_made-clause-held : goal.returns-in_err-put_made-clause-held
returns-in_err-put_made-clause-held g c =
    let none = nothing_put g.K.PartialEq.eq c.args.key.now c.self.inside.kept c.promote.new.kept c.put_made.new.kept c.self.inside.made c.args.self.now c.promote.result
    c.self.view_is c.promote.ensures.entries c.promote.ensures.value c.if-promote.false (c.in_err-put_made.ensures.err) in
    all_kept g.K.PartialEq.eq c.args.self.now (cached c.put_made.new.kept.entries c.put_made.new.kept.cap c.self.inside.made) none.1

pub returns-in_err-put_made-clause-err : goal.returns-in_err-put_made-clause-err
returns-in_err-put_made-clause-err g c =
    let none = nothing_put g.K.PartialEq.eq c.args.key.now c.self.inside.kept c.promote.new.kept c.put_made.new.kept c.self.inside.made c.args.self.now c.promote.result
    c.self.view_is c.promote.ensures.entries c.promote.ensures.value c.if-promote.false (c.in_err-put_made.ensures.err) in
    on_err c.from_residual.result none.1

pub returns-in_err-put_made-clause-room : goal.returns-in_err-put_made-clause-room
returns-in_err-put_made-clause-room g c = λ there.
    let gone = not_kept g.K.PartialEq.eq c.args.key.now c.self.inside.kept c.self.inside.made c.args.self.now c.promote.result c.self.view_is c.promote.ensures.value c.if-promote.false in
    absurd (true≢false (sym there ∙ gone))

-- a thing was made, and kept
made_here : (g : given.Over) (c : goal.After-self-1 g)
    → Uses g.K.PartialEq.eq (g.M.Maker.finds c.args.maker.now) (g.M.Maker.is_made c.args.maker.now) c.args.key.now c.args.self.now (cached c.put_made.new.kept.entries c.put_made.new.kept.cap c.saturating_add-self-inside.result)
made_here g c =
    let little : c.self.inside.made ≤ most = omega (arith, c.self.ranges.1.0.1) in
    let put = c.in_ok-put_made.ensures.put c.if-not-branch.false in
    miss g.K.PartialEq.eq g.met.K.CacheKey.same (g.M.Maker.finds c.args.maker.now) (g.M.Maker.is_made c.args.maker.now) c.args.key.now c.self.inside.kept c.self.inside.made
    c.args.self.now c.promote.new.kept c.put_made.new.kept c.promote.result put.kept c.saturating_add-self-inside.result c.self.view_is c.requires c.self.invariant little
    c.promote.ensures.entries c.promote.ensures.value c.if-promote.false (sym c.in_ok-put_made.ensures.value ∙ c.if-not-branch.false, put.right) put.put c.saturating_add-self-inside.ensures

pub invariant_of-self-2 : goal.invariant_of-self-2
invariant_of-self-2 g c = (made_here g c).bounds

pub returns-clause-latest : goal.returns-clause-latest
returns-clause-latest g c = λ _. (made_here g c).latest

pub returns-clause-there : goal.returns-clause-there
returns-clause-there g c = λ _. let latest = (made_here g c).latest in first_is_there g.K.PartialEq.eq c.args.key.now (g.met.K.Eq.laws.refl c.args.key.now) (cached c.put_made.new.kept.entries c.put_made.new.kept.cap c.saturating_add-self-inside.result) latest.kept latest.first

pub returns-clause-recent : goal.returns-clause-recent
returns-clause-recent g c = (made_here g c).recent

pub returns-clause-count : goal.returns-clause-count
returns-clause-count g c = (made_here g c).count

pub returns-clause-ahead : goal.returns-clause-ahead
returns-clause-ahead g c = (made_here g c).ahead

pub returns-clause-sound : goal.returns-clause-sound
returns-clause-sound g c = (made_here g c).sound

pub returns-clause-held : goal.returns-clause-held
returns-clause-held g c = (made_here g c).held
