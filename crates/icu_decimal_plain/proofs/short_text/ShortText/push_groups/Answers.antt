use Rattle.std.proofs.Common.{◌+◌, ◌*◌, ◌≤◌, ◌++◌, ◌∙◌, ap, arith, length, take}
use Rattle.std.proofs.lemmas.Str.{IsUtf8-append, IsUtf8-had}
use Rattle.icu_decimal_plain.specs.LaterGroups.{groups_ahead}
use Rattle.icu_decimal_plain.specs.PlainText.{digit_text}
use Rattle.icu_decimal_plain.proofs.PieceLemmas.{utf8_groups}
use Rattle.icu_decimal_plain.proofs.short_text.ShortText.push_groups.Goals as goal

pub invariant_of-self : goal.invariant_of-self
invariant_of-self c =
    let table = c.args.table.now in
    let separator = take c.args.separator.len c.args.separator.bytes in
    let put = c.put_groups-self-inside.ensures.room in (
      omega (arith, put),
      ∣ rw c.put_groups-self-inside.ensures.text (IsUtf8-append _ _ (IsUtf8-had _ c.self.invariant.1)
          (utf8_groups separator table.chars.now c.args.sizes.now c.args.digits.now (IsUtf8-had _ c.requires.separator.utf8) (λ d below. IsUtf8-had _ (table.held d below).utf8) c.requires.tens)) ∣₁,
    )

pub returns : goal.returns
returns c =
    let separator = take c.args.separator.len c.args.separator.bytes in
    c.put_groups-self-inside.ensures.text
    ∙ ap (λ bytes. bytes ++ groups_ahead separator (digit_text c.args.table.now.chars.now) c.args.sizes.now c.args.digits.now) c.self.view_is

pub put_groups-self-inside-requires : goal.put_groups-self-inside-requires
put_groups-self-inside-requires c =
    let len = c.self.inside.len in
    let few = c.self.invariant.0 in
    let room : len + 4 * (length c.args.digits.now + length c.args.sizes.now) ≤ 256 = omega (arith, few) in
    (omega arith, (room, (c.requires.whole, (c.requires.separator.long, (c.requires.separator.short, c.requires.tens)))))
