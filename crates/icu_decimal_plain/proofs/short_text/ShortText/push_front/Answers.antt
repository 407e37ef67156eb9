use Rattle.std.proofs.Common.{◌++◌, ◌∙◌, ap, arith, map}
use Rattle.std.proofs.lemmas.Str.{IsUtf8-append, IsUtf8-had}
use Rattle.icu_decimal_plain.specs.PlainText.{chained, digit_text}
use Rattle.icu_decimal_plain.proofs.PieceLemmas.{utf8_digits}
use Rattle.icu_decimal_plain.proofs.short_text.ShortText.push_front.Goals as goal

pub invariant_of-self : goal.invariant_of-self
invariant_of-self c =
    let table = c.args.table.now in
    let put = c.put_digits-self-inside.ensures.room in (
      omega (arith, put),
      ∣ rw c.put_digits-self-inside.ensures.text (IsUtf8-append _ _ (IsUtf8-had _ c.self.invariant.1) (utf8_digits table.chars.now c.args.digits.now (λ d below. IsUtf8-had _ (table.held d below).utf8) c.requires)) ∣₁,
    )

pub returns : goal.returns
returns c =
    c.put_digits-self-inside.ensures.text ∙ ap (λ bytes. bytes ++ chained (map (digit_text c.args.table.now.chars.now) c.args.digits.now)) c.self.view_is
