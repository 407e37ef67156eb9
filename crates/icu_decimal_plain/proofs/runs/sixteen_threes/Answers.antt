use Rattle.std.proofs.Common.{◌≡◌, ◌∙◌, ap, arith, sym, take}
use Rattle.std.proofs.lemmas.List.{take_all}
use Rattle.icu_decimal_plain.proofs.runs.sixteen_threes.Goals as goal

pub returns : goal.returns
returns c =
    let text = c.put_threes.new.waiting in
    let long = c.put_threes.array_long in
    let all : c.put_threes.result ≡ 64 = c.put_threes.ensures.room in
    sym (take_all 64 text (omega (arith, long))) ∙ ap (λ n. take n text) (sym all) ∙ c.put_threes.ensures.text
