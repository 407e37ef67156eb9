use Rattle.std.proofs.Common.{subst}
use Rattle.fixed_decimal_signed.specs.SignedText.{ReadsLongerSigned}
use Rattle.fixed_decimal_signed.proofs.SignedTextLemmas.{no_signed_text, long_signed, longer_signed}
use Rattle.fixed_decimal_signed.proofs.decimal.Signed+UnsignedDecimal.assign_from_utf8.Goals as goal

pub returns-in-Err-clause-syntax : goal.returns-in-Err-clause-syntax
returns-in-Err-clause-syntax c = λ e.
    no_signed_text c.args.code_units.now c.split_sign-sign.result.1.now c.split_sign-sign.result.0 c.split_sign-sign.ensures.whole c.split_sign-sign.ensures.none
    (c.in-Err.ensures.syntax (cc))

pub returns-in-Err-clause-memory : goal.returns-in-Err-clause-memory
returns-in-Err-clause-memory c = λ e.
    long_signed c.args.code_units.now c.split_sign-sign.result.1.now c.split_sign-sign.result.0 c.split_sign-sign.ensures.whole (c.in-Err.ensures.memory (cc))

pub returns-in-Err-clause-room : goal.returns-in-Err-clause-room
returns-in-Err-clause-room c = λ e.
    subst (λ v. ReadsLongerSigned c.args.code_units.now v.absolute.count) c.self.view_is
    (longer_signed c.args.code_units.now c.split_sign-sign.result.1.now c.split_sign-sign.result.0 c.self.inside.absolute.count c.split_sign-sign.ensures.whole (c.in-Err.ensures.room (cc)))
