use Rattle.std.proofs.Common.{◌≡◌, ◌==◌, ◌+◌, ◌-◌, ◌*◌, ◌^◌, ◌%◌, ◌<◌, ◌||◌, min, max, cond, length, ◌++◌, subst, sym, ap, ◌∙◌, arith}
use Rattle.std.specs.Int.Digits.{number_from_digits}
use Rattle.fixed_decimal_unsigned.specs.NumberText.{AreEndsIn, mantissa_of, spelled, up_of, down_of, number_at}
use Rattle.fixed_decimal_digits.specs.DigitList.{count_of}
use Rattle.fixed_decimal_unsigned.specs.BorrowedParts.{parts_of}
use Rattle.fixed_decimal_unsigned.specs.Number.{Number}
use Rattle.fixed_decimal_unsigned.proofs.LongLemmas.{more_mantissa}
use Rattle.fixed_decimal_unsigned.proofs.MantissaLemmas.{none_kept, spelled_none, capped_ends, ends_uncapped, assembled_is, capped_same, from_fields, zeros_grouped}
use Rattle.fixed_decimal_unsigned.proofs.reading.read_parts.Goals as goal

-- the exponent's moves are those of the parts, capped
pub returns-in_default-clause-limit : goal.returns-in_default-clause-limit
returns-in_default-clause-limit c = λ _ h.
    let p = parts_of c.args.parts.now in
    let r = c.without_mantissa_zeros.result in
    let zero : c.is_none.result ≡ (mantissa_of p == 0) =
    c.is_none.ensures ∙ none_kept (mantissa_of p) (spelled (r.0.now ++ r.1.now)) (length p.integer + length p.fraction - (length r.0.now + length r.1.now)) (length r.0.now + length r.1.now)
    c.without_mantissa_zeros.ensures.value (spelled_none r.0.now r.1.now) c.without_mantissa_zeros.ensures.last in
    let up : c.moves_of-up.result.0 ≡ min (up_of p) 65536 = c.moves_of-up.ensures.up ∙ ap (λ b. min (cond (b || p.negative) 0 (spelled p.exponent)) 65536) zero in
    let down : c.moves_of-up.result.1 ≡ min (down_of p) 65536 = c.moves_of-up.ensures.down ∙ ap (λ b. min (cond b 0 (cond p.negative (spelled p.exponent) 0)) 65536) zero in
    c.in_default.ensures.beyond
    (subst (λ u. AreEndsIn (length p.integer) (length p.fraction) u c.moves_of-up.result.1) (sym up)
    (subst (λ d. AreEndsIn (length p.integer) (length p.fraction) (min (up_of p) 65536) d) (sym down)
    (capped_ends (length p.integer) (length p.fraction) (up_of p) (down_of p) h)))

pub returns-clause-within : goal.returns-clause-within
returns-clause-within c =
    let p = parts_of c.args.parts.now in
    let r = c.without_mantissa_zeros.result in
    let zero : c.is_none.result ≡ (mantissa_of p == 0) =
    c.is_none.ensures ∙ none_kept (mantissa_of p) (spelled (r.0.now ++ r.1.now)) (length p.integer + length p.fraction - (length r.0.now + length r.1.now)) (length r.0.now + length r.1.now)
    c.without_mantissa_zeros.ensures.value (spelled_none r.0.now r.1.now) c.without_mantissa_zeros.ensures.last in
    let up : c.moves_of-up.result.0 ≡ min (up_of p) 65536 = c.moves_of-up.ensures.up ∙ ap (λ b. min (cond (b || p.negative) 0 (spelled p.exponent)) 65536) zero in
    let down : c.moves_of-up.result.1 ≡ min (down_of p) 65536 = c.moves_of-up.ensures.down ∙ ap (λ b. min (cond b 0 (cond p.negative (spelled p.exponent) 0)) 65536) zero in
    ends_uncapped (length p.integer) (length p.fraction) (up_of p) (down_of p)
    (subst (λ u. AreEndsIn (length p.integer) (length p.fraction) u (min (down_of p) 65536)) up
    (subst (λ d. AreEndsIn (length p.integer) (length p.fraction) c.moves_of-up.result.0 d) down c.in-Some.ensures.within))

pub returns-in_err-gather-clause-memory_within : goal.returns-in_err-gather-clause-memory_within
returns-in_err-gather-clause-memory_within c = λ _.
    let p = parts_of c.args.parts.now in
    let r = c.without_mantissa_zeros.result in
    let zero : c.is_none.result ≡ (mantissa_of p == 0) =
    c.is_none.ensures ∙ none_kept (mantissa_of p) (spelled (r.0.now ++ r.1.now)) (length p.integer + length p.fraction - (length r.0.now + length r.1.now)) (length r.0.now + length r.1.now)
    c.without_mantissa_zeros.ensures.value (spelled_none r.0.now r.1.now) c.without_mantissa_zeros.ensures.last in
    let up : c.moves_of-up.result.0 ≡ min (up_of p) 65536 = c.moves_of-up.ensures.up ∙ ap (λ b. min (cond (b || p.negative) 0 (spelled p.exponent)) 65536) zero in
    let down : c.moves_of-up.result.1 ≡ min (down_of p) 65536 = c.moves_of-up.ensures.down ∙ ap (λ b. min (cond b 0 (cond p.negative (spelled p.exponent) 0)) 65536) zero in
    ends_uncapped (length p.integer) (length p.fraction) (up_of p) (down_of p)
    (subst (λ u. AreEndsIn (length p.integer) (length p.fraction) u (min (down_of p) 65536)) up
    (subst (λ d. AreEndsIn (length p.integer) (length p.fraction) c.moves_of-up.result.0 d) down c.in-Some.ensures.within))

pub returns-in_err-gather-clause-memory : goal.returns-in_err-gather-clause-memory
returns-in_err-gather-clause-memory c = λ _.
    let p = parts_of c.args.parts.now in
    let r = c.without_mantissa_zeros.result in
    more_mantissa 16 (spelled (r.0.now ++ r.1.now)) (length p.integer + length p.fraction - (length r.0.now + length r.1.now)) (length r.0.now + length r.1.now) (mantissa_of p)
    (32768 + up_of p - (length p.fraction + down_of p)) c.without_mantissa_zeros.ensures.value c.without_mantissa_zeros.ensures.last (spelled_none r.0.now r.1.now) c.in_err-gather.ensures.room

pub returns-in_err-gather-clause-kept : goal.returns-in_err-gather-clause-kept
returns-in_err-gather-clause-kept c = λ _.
    let p = parts_of c.args.parts.now in
    let r = c.without_mantissa_zeros.result in
    more_mantissa (length c.args.digits.now.items) (spelled (r.0.now ++ r.1.now)) (length p.integer + length p.fraction - (length r.0.now + length r.1.now)) (length r.0.now + length r.1.now) (mantissa_of p)
    (32768 + up_of p - (length p.fraction + down_of p)) c.without_mantissa_zeros.ensures.value c.without_mantissa_zeros.ensures.last (spelled_none r.0.now r.1.now) c.in_err-gather.ensures.kept

pub places_of-requires-clause-tight : goal.places_of-requires-clause-tight
places_of-requires-clause-tight c =
    let r = c.without_mantissa_zeros.result in
    let items = c.gather.new.digits.items in
    record {
      tens = c.in_ok-gather.ensures.tens;
      first = c.in_ok-gather.ensures.first;
      last = λ some.
          subst (λ n. 0 < n % 10) (sym c.in_ok-gather.ensures.value)
          (c.without_mantissa_zeros.ensures.last (omega (arith, some, c.in_ok-gather.ensures.length)));
    }

pub returns-clause-value : goal.returns-clause-value
returns-clause-value c =
    let p = parts_of c.args.parts.now in
    let r = c.without_mantissa_zeros.result in
    let zeros = length p.integer + length p.fraction - (length r.0.now + length r.1.now) in
    let zero : c.is_none.result ≡ (mantissa_of p == 0) =
    c.is_none.ensures ∙ none_kept (mantissa_of p) (spelled (r.0.now ++ r.1.now)) zeros (length r.0.now + length r.1.now)
    c.without_mantissa_zeros.ensures.value (spelled_none r.0.now r.1.now) c.without_mantissa_zeros.ensures.last in
    let up : c.moves_of-up.result.0 ≡ min (up_of p) 65536 = c.moves_of-up.ensures.up ∙ ap (λ b. min (cond (b || p.negative) 0 (spelled p.exponent)) 65536) zero in
    let down : c.moves_of-up.result.1 ≡ min (down_of p) 65536 = c.moves_of-up.ensures.down ∙ ap (λ b. min (cond b 0 (cond p.negative (spelled p.exponent) 0)) 65536) zero in
    let within = c.in-Some.ensures.within in
    let up_is : c.moves_of-up.result.0 ≡ up_of p = capped_same c.moves_of-up.result.0 (up_of p) 32767 up within.exponent_high (omega arith) in
    let down_is : c.moves_of-up.result.1 ≡ down_of p = capped_same c.moves_of-up.result.1 (down_of p) 32768 down within.exponent_low (omega arith) in
    let a = length p.integer in let b = length p.fraction in
    let left = a + b - length r.0.now - length r.1.now in
    let ends = c.in-Some.ends in
    let number = number_from_digits 10 c.gather.new.digits.items in
    let value : mantissa_of p ≡ number * 10 ^ left =
    c.without_mantissa_zeros.ensures.value ∙ ap (λ n. n * 10 ^ zeros) (sym c.in_ok-gather.ensures.value) ∙ ap (λ k. number * 10 ^ k) (zeros_grouped a b (length r.0.now) (length r.1.now)) in
    let shown : Number = record { count = count_of c.gather.new.digits.items c.places_of.result.top; low = c.places_of.result.low; high = c.places_of.result.high } in
    from_fields shown (number * 10 ^ (ends.last + left)) (min 32768 ends.last) (max 32768 ends.first) c.places_of.ensures.count c.places_of.ensures.low c.places_of.ensures.high
    ∙ assembled_is (mantissa_of p) a b c.moves_of-up.result.0 c.moves_of-up.result.1 number left ends.first ends.last within c.requires.some value c.in-Some.ensures.first c.in-Some.ensures.last
    ∙ ap (λ u. number_at (mantissa_of p) a b u c.moves_of-up.result.1) up_is
    ∙ ap (λ d. number_at (mantissa_of p) a b (up_of p) d) down_is
