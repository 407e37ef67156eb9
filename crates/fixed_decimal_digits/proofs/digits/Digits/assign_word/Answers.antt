use Rattle.std.proofs.Common.{◌≡◌, ◌%◌, ◌≤◌, ◌∙◌, ap, arith}
use Rattle.fixed_decimal_digit_words.proofs.WordLemmas.{word_fits}
use Rattle.fixed_decimal_digits.proofs.WordBytesLemmas.{even_word, odd_word}
use Rattle.fixed_decimal_digits.proofs.digits.Digits.assign_word.Goals as goal
use Rattle.fixed_decimal_digits.proofs.digits.Digits.assign_word.Goals.{then-count-eq0, else-count-eq0}

pub overflow_mul-word : goal.overflow_mul-word
overflow_mul-word c =
    let odd : c.args.count % 2 ≡ 1 = grind (arith, c.if-count-eq0.false) in
    let few : c.args.count ≤ 15 = omega (arith, odd, c.requires.few) in
    let fits = word_fits c.args.word 0 c.args.count few c.requires.fits (omega arith) in
    omega (arith, fits)

pub invariant_of-self : goal.invariant_of-self
invariant_of-self c =
    let inside = c.if-count-eq0.self-inside in
    elim c.if-count-eq0.branch [
      | then-count-eq0 w ↦
          let items = ap (λ d. d.kept.items) w.self-inside-is ∙ w.assign_bytes.ensures.items in
          let capacity = ap (λ d. d.kept.capacity) w.self-inside-is in
          ((even_word inside.kept.items c.args.word c.args.count c.requires.tens w.if-count-eq0.true items).0, omega (arith, capacity, w.assign_bytes.ensures.capacity, c.self.invariant.1))
      | else-count-eq0 w ↦
          let items = ap (λ d. d.kept.items) w.self-inside-is ∙ w.assign_bytes-else-count-eq0.ensures.items in
          let capacity = ap (λ d. d.kept.capacity) w.self-inside-is in
          let odd : c.args.count % 2 ≡ 1 = grind (arith, w.if-count-eq0.false) in
          ((odd_word inside.kept.items c.args.word c.args.count c.requires.tens odd items).0, omega (arith, capacity, w.assign_bytes-else-count-eq0.ensures.capacity, c.self.invariant.1))
    ]

pub returns : goal.returns
returns c =
    let inside = c.if-count-eq0.self-inside in
    elim c.if-count-eq0.branch [
      | then-count-eq0 w ↦
          let items = ap (λ d. d.kept.items) w.self-inside-is ∙ w.assign_bytes.ensures.items in
          (even_word inside.kept.items c.args.word c.args.count c.requires.tens w.if-count-eq0.true items).1
      | else-count-eq0 w ↦
          let items = ap (λ d. d.kept.items) w.self-inside-is ∙ w.assign_bytes-else-count-eq0.ensures.items in
          let odd : c.args.count % 2 ≡ 1 = grind (arith, w.if-count-eq0.false) in
          (odd_word inside.kept.items c.args.word c.args.count c.requires.tens odd items).1
    ]
