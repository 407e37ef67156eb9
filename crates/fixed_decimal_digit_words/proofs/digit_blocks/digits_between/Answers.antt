use Rattle.std.proofs.Common.{◌≡◌, ◌/◌, ◌<◌, ◌≤◌, get_or, length, refl, sym, ap, ◌∙◌, arith}
use Rattle.fixed_decimal_digit_words.proofs.ByteWordLemmas.{past_last, sixteen_between}
use Rattle.fixed_decimal_digit_words.proofs.digit_blocks.digits_between.Goals as goal
use Rattle.fixed_decimal_digit_words.proofs.digit_blocks.digits_between.Goals.{then-bytes-gt8, else-bytes-gt8}

pub returns : goal.returns
returns c =
    let bytes = c.args.bytes.now in
    let small : get_or bytes 8 0 < 256 = (c.type_inv.bytes 8).fits in
    let ninth : c.if-bytes-gt8.ninth ≡ get_or bytes 8 0 / 16 =
    elim c.if-bytes-gt8.branch [
      | then-bytes-gt8 w ↦ w.ninth-is
      | else-bytes-gt8 w ↦
          let past : length bytes ≤ 8 = grind (arith, w.if-bytes-gt8) in
          w.ninth-is ∙ sym (ap (λ b. b / 16) (past_last bytes 8 past))
    ] in
    c.digits_of_word.ensures
    ∙ sixteen_between bytes c.first_eight.result _ c.from.result (omega (arith, c.from.ensures, ninth, small)) c.first_eight.ensures (c.from.ensures ∙ ninth) refl
