use Rattle.fixed_decimal_signed.proofs.SignedTextLemmas.{no_signed_text, long_signed}
use Rattle.fixed_decimal_signed.proofs.decimal.Signed+UnsignedDecimal.try_from_utf8.Goals as goal

pub returns-in-Err-clause-syntax : goal.returns-in-Err-clause-syntax
returns-in-Err-clause-syntax c = λ e.
    no_signed_text c.args.code_units.now c.split_sign-sign.result.1.now c.split_sign-sign.result.0 c.split_sign-sign.ensures.whole c.split_sign-sign.ensures.none
    (c.in-Err.ensures.syntax (cc))

pub returns-in-Err-clause-memory : goal.returns-in-Err-clause-memory
returns-in-Err-clause-memory c = λ e.
    long_signed c.args.code_units.now c.split_sign-sign.result.1.now c.split_sign-sign.result.0 c.split_sign-sign.ensures.whole (c.in-Err.ensures.memory (cc))
