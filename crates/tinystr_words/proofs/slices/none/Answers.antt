use Rattle.std.proofs.Common.{ℕ, not, ap, subst, sym, ◌∙◌}
use Rattle.std.specs.List.{list_all}
use Rattle.std.specs.Str.{IsAscii}
use Rattle.std.proofs.lemmas.Str.{IsAscii-drop, IsAscii-take}
use Rattle.tinystr_words.proofs.CutLaws.{IsAscii-filled, step_fails, step_goes_on}
use Rattle.tinystr_words.proofs.slices.none.Goals as goal

pub is_none-requires : goal.is_none-requires
is_none-requires g c =
    let front = subst IsAscii (sym c.split_at.ensures.front) (IsAscii-take c.loop-rest.rest.now c.min.result c.loop-rest.invariant.0) in
    record { ascii = subst IsAscii (sym c.word_at.ensures) (IsAscii-filled c.split_at.result.0.now front) }

pub returns-then-not-is_none : goal.returns-then-not-is_none
returns-then-not-is_none g c =
    let p = (λ (b : ℕ). not (g.C.WordClass.test b)) in
    step_fails p (ap not g.met.C.WordClass.no_nul) c.args.bytes.now c.loop-rest.rest.now c.split_at.result.0.now c.split_at.result.1.now c.is_none.result
    c.split_at.ensures.by_index.0 (c.is_none.ensures ∙ ap (list_all p) c.word_at.ensures) c.loop-rest.invariant.1 c.if-not-is_none.true

pub loop-rest-preserved : goal.loop-rest-preserved
loop-rest-preserved g c =
    let p = (λ (b : ℕ). not (g.C.WordClass.test b)) in (
      subst IsAscii (sym c.split_at.ensures.back) (IsAscii-drop c.loop-rest.rest.now c.min.result c.loop-rest.invariant.0),
      step_goes_on p (ap not g.met.C.WordClass.no_nul) c.args.bytes.now c.loop-rest.rest.now c.split_at.result.0.now c.split_at.result.1.now c.is_none.result
          c.split_at.ensures.by_index.0 (c.is_none.ensures ∙ ap (list_all p) c.word_at.ensures) c.loop-rest.invariant.1 c.if-not-is_none.false,
    )
