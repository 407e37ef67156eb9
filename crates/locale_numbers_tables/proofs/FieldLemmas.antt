-- A text in which no tab and no line feed is is a field.
use Rattle.std.proofs.Common.{◌≡◌, Bool, true, false, ◌&&◌, List, ℕ, Some, None, refl, if◌then◌else◌}

pub plain_both : (u p : Bool) (text : List ℕ) → u ≡ true → p ≡ true → Some text ≡ (if u && p then Some text else None)
plain_both true true text utf8 plain = refl
plain_both true false text utf8 plain = absurd (cc)
plain_both false p text utf8 plain = absurd (cc)
