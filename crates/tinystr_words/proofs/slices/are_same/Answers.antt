use Rattle.std.proofs.Common.{◌≡◌, ◌++◌, ◌==◌, length, true, arith, sym, ◌∙◌}
use Rattle.std.specs.Bool.{Decides}
use Rattle.std.proofs.lemmas.Bool.Decides.{Decides-and, Decides-eqb}
use Rattle.tinystr_words.proofs.CutLaws.{words_same, words_differ, same_cut}
use Rattle.tinystr_words.proofs.slices.are_same.Goals as goal

pub loop-left-preserved : goal.loop-left-preserved
loop-left-preserved c =
    let front = c.split_at.result.0.now in
    let back = c.split_at.result.1.now in
    let other = c.split_at-in-loop-left.result.0.now in
    let rest = c.split_at-in-loop-left.result.1.now in
    let word = c.word_at.result in
    let beside = c.word_at-in-loop-left.result in
    let long : length front ≡ length other = c.split_at.ensures.front_len ∙ sym c.split_at-in-loop-left.ensures.front_len in
    let so_far : Decides c.loop-left.same (c.loop-left.same ≡ true) = (λ e. e, λ e. e) in
    let both = Decides-and c.loop-left.same (word == beside) so_far (Decides-eqb word beside) in
    record {
      long = omega (arith, c.split_at.ensures.back_len, c.split_at-in-loop-left.ensures.back_len, c.loop-left.invariant.long);
      whole = λ e left.
          let same : front ≡ other = words_same word beside front other long c.word_at.ensures c.word_at-in-loop-left.ensures (both.0 e).1 in
          c.loop-left.invariant.whole (both.0 e).0
          (c.split_at.ensures.by_index.0 ∙ (λ i. same i ++ left i) ∙ sym c.split_at-in-loop-left.ensures.by_index.0);
      parts = λ e.
          let before = c.loop-left.invariant.parts e in
          let halves = same_cut c.loop-left.left.now c.loop-left.right.now front back other rest
          c.split_at.ensures.by_index.0 c.split_at-in-loop-left.ensures.by_index.0 long before.1 in
          (both.1 (before.0, words_differ word beside front other (omega arith) (omega arith) c.word_at.ensures c.word_at-in-loop-left.ensures halves.0), halves.1);
    }
