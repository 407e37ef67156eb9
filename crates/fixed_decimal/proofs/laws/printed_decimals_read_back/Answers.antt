use Rattle.fixed_decimal_signed.specs.SignedText.{ReadsSigned, signed_text_of}
use Rattle.fixed_decimal.proofs.SignedReadOnceLemmas.{signed_reads_once, signed_printed, same_printed}
use Rattle.fixed_decimal.proofs.laws.printed_decimals_read_back.Goals as goal

pub returns : goal.returns
returns c = record {
  back = signed_printed;
  equal = λ a b h k e. same_printed ReadsSigned (signed_text_of a) (signed_text_of b) a b signed_reads_once (signed_printed a h) (signed_printed b k) e;
}
