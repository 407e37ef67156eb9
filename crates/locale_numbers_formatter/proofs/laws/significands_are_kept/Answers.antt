use Rattle.locale_numbers_formatter.proofs.SignificandLemmas.{parts_keep, shown_form_reads_back}
use Rattle.locale_numbers_formatter.proofs.laws.significands_are_kept.Goals as goal

pub returns-clause-keeps : goal.returns-clause-keeps
returns-clause-keeps c = parts_keep

pub returns-clause-back : goal.returns-clause-back
returns-clause-back c = shown_form_reads_back c.shown_is_read_back.ensures.back
