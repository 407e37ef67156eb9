use Rattle.std.proofs.Common.{ap, refl, subst, sym, ◌∙◌}
use Rattle.std.specs.List.{list_all}
use Rattle.std.specs.Str.{IsAscii}
use Rattle.std.proofs.lemmas.Str.{IsAscii-drop, IsAscii-take}
use Rattle.tinystr_words.specs.Words.{or_nul}
use Rattle.tinystr_words.proofs.CutLaws.{IsAscii-filled, step_fails, step_goes_on}
use Rattle.tinystr_words.proofs.slices.all.Goals as goal

pub is_all-requires : goal.is_all-requires
is_all-requires g c =
    let front = subst IsAscii (sym c.split_at.ensures.front) (IsAscii-take c.loop-rest.rest.now c.min.result c.loop-rest.invariant.0) in
    record { ascii = subst IsAscii (sym c.word_at.ensures) (IsAscii-filled c.split_at.result.0.now front) }

pub returns-then-not-is_all : goal.returns-then-not-is_all
returns-then-not-is_all g c =
    let p = (or_nul g.C.WordClass.test) in
    step_fails p refl c.args.bytes.now c.loop-rest.rest.now c.split_at.result.0.now c.split_at.result.1.now c.is_all.result
    c.split_at.ensures.by_index.0 (c.is_all.ensures ∙ ap (list_all p) c.word_at.ensures) c.loop-rest.invariant.1 c.if-not-is_all.true

pub loop-rest-preserved : goal.loop-rest-preserved
loop-rest-preserved g c =
    let p = (or_nul g.C.WordClass.test) in (
      subst IsAscii (sym c.split_at.ensures.back) (IsAscii-drop c.loop-rest.rest.now c.min.result c.loop-rest.invariant.0),
      step_goes_on p refl c.args.bytes.now c.loop-rest.rest.now c.split_at.result.0.now c.split_at.result.1.now c.is_all.result
          c.split_at.ensures.by_index.0 (c.is_all.ensures ∙ ap (list_all p) c.word_at.ensures) c.loop-rest.invariant.1 c.if-not-is_all.false,
    )
