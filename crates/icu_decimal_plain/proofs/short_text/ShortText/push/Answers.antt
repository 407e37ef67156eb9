use Rattle.std.proofs.Common.{◌++◌, ◌∙◌, ap, arith, take}
use Rattle.std.proofs.lemmas.List.{length-take-le}
use Rattle.std.proofs.lemmas.Str.{IsUtf8-append, IsUtf8-had}
use Rattle.icu_decimal_plain.proofs.short_text.ShortText.push.Goals as goal

pub invariant_of-self : goal.invariant_of-self
invariant_of-self c =
    let len = c.self.inside.len in
    let kept = length-take-le len c.self.inside.bytes (omega (arith, c.self.invariant.0, c.self.told)) in
    let room = rw (← c.self.view_is) at c.requires.room in
    let put = c.put_piece-self-inside.ensures.room in (
      omega (arith, kept, room, put),
      ∣ rw c.put_piece-self-inside.ensures.text (IsUtf8-append _ _ (IsUtf8-had _ c.self.invariant.1) (IsUtf8-had _ c.requires.piece.utf8)) ∣₁,
    )

pub returns : goal.returns
returns c = c.put_piece-self-inside.ensures.text ∙ ap (λ bytes. bytes ++ take c.args.piece.len c.args.piece.bytes) c.self.view_is
