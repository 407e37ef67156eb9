use Rattle.std.proofs.Common.{◌≡◌, ◌==◌, length, true, sym}
use Rattle.locale_numbers_book.proofs.plural_providers.ordinals_at.Goals as goal

pub returns : goal.returns
returns c =
    let bare : (length c.id.inside.attributes == 0) ≡ true = sym c.if-not-is_empty.ensures in
    rw (← c.id.view_is, bare) c.ordinal_rules.ensures
