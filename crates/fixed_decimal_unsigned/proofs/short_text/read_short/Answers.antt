use Rattle.std.proofs.Common.{◌≡◌, ◌≤◌, ◌+◌, ◌-◌, ◌*◌, ◌^◌, min, max, length, sym, ap, ◌∙◌, subst, arith, refl}
use Rattle.std.specs.Int.Digits.{number_from_digits, AllBelowBase}
use Rattle.fixed_decimal_digits.specs.DigitList.{count_of}
use Rattle.fixed_decimal_digits.specs.DigitWord.{word_digits, SpellsNumber}
use Rattle.fixed_decimal_digits.proofs.CutWordLemmas.{cut_within}
use Rattle.fixed_decimal_digits.proofs.NumberWordLemmas.{spells_wide}
use Rattle.fixed_decimal_digits.proofs.WordLemmas.{word_length}
use Rattle.fixed_decimal_unsigned.specs.Number.{Number}
use Rattle.fixed_decimal_unsigned.proofs.MantissaLemmas.{assembled_is, from_fields}
use Rattle.fixed_decimal_unsigned.proofs.IntegerLemmas.{word_tight}
use Rattle.fixed_decimal_unsigned.proofs.ShortTextLemmas.{short_ends, cut_value}
use Rattle.fixed_decimal_unsigned.proofs.short_text.read_short.Goals as goal

pub cut_word-cut-requires : goal.cut_word-cut-requires
cut_word-cut-requires c =
    let s = c.args.short in let n = s.above + s.below in
    let whole : (16 - n) + n ≡ 16 = omega (arith, c.requires.few) in
    let spells : SpellsNumber s.word n (number_from_digits 10 (word_digits s.word n)) = record { fits = c.requires.fits; tens = c.requires.tens; value = refl } in
    subst (λ k. AllBelowBase 10 (word_digits s.word k)) whole (spells_wide (16 - n) s.word n (number_from_digits 10 (word_digits s.word n)) spells).tens

pub places_of-requires-clause-tight : goal.places_of-requires-clause-tight
places_of-requires-clause-tight c =
    let cut = c.cut_word-cut.result in
    word_tight c.assign_word.new.self.items c.args.short.word cut.word cut.count cut.zeros c.cut_word-cut.ensures.cut c.cut_word-cut.ensures.last c.assign_word.ensures

pub places_of-requires-clause-room : goal.places_of-requires-clause-room
places_of-requires-clause-room c =
    let s = c.args.short in let cut = c.cut_word-cut.result in
    let within : cut.count + cut.zeros ≤ s.above + s.below = cut_within s.word cut.word cut.count cut.zeros (s.above + s.below) c.cut_word-cut.ensures.cut c.requires.fits in
    let size : length c.assign_word.new.self.items ≡ cut.count = ap length c.assign_word.ensures ∙ word_length cut.count cut.word in
    omega (arith, within, size, c.requires.few)

pub returns-clause-value : goal.returns-clause-value
returns-clause-value c =
    let s = c.args.short in let cut = c.cut_word-cut.result in let n = s.above + s.below in
    let items = c.assign_word.new.self.items in
    let mantissa = number_from_digits 10 (word_digits s.word n) in
    let number = number_from_digits 10 items in
    let spells : SpellsNumber s.word n mantissa = record { fits = c.requires.fits; tens = c.requires.tens; value = refl } in
    let value : mantissa ≡ number * 10 ^ cut.zeros =
    cut_value s.word cut.word cut.count cut.zeros n c.requires.few spells c.cut_word-cut.ensures.cut ∙ ap (λ ds. number_from_digits 10 ds * 10 ^ cut.zeros) (sym c.assign_word.ensures) in
    let first = 32767 + s.above in
    let last = 32768 - s.below in
    let shown : Number = record { count = count_of items c.places_of.result.top; low = c.places_of.result.low; high = c.places_of.result.high } in
    from_fields shown (number * 10 ^ (last + cut.zeros)) (min 32768 last) (max 32768 first) c.places_of.ensures.count c.places_of.ensures.low c.places_of.ensures.high
    ∙ assembled_is mantissa s.above s.below 0 0 number cut.zeros first last (short_ends s.above s.below c.requires.few) c.requires.some value (omega arith) (omega (arith, c.requires.few))
