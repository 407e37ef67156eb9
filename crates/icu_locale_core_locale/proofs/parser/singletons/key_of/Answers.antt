use Rattle.std.proofs.Common.{sym, refl}
use Rattle.icu_locale_core_locale.proofs.parser.singletons.key_of.Goals as goal

-- each kind of extension has its singleton
pub returns-in-InUnicode : goal.returns-in-InUnicode
returns-in-InUnicode c = rw c.in-InUnicode.is refl

pub returns-in-InTransform : goal.returns-in-InTransform
returns-in-InTransform c = rw c.in-InTransform.is refl

pub returns-in-InOther : goal.returns-in-InOther
returns-in-InOther c = rw c.in-InOther.is (sym c.get_ext_byte.ensures)
