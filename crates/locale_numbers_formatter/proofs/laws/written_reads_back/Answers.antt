use Rattle.locale_numbers_formatter.proofs.ReadBackLemmas.{reads_back, text_is_read, written_again}
use Rattle.locale_numbers_formatter.proofs.laws.written_reads_back.Goals as goal

pub returns-clause-back : goal.returns-clause-back
returns-clause-back c = reads_back c.functions_answer_readings.ensures.exact c.both_trips.ensures.back

pub returns-clause-again : goal.returns-clause-again
returns-clause-again c = written_again

pub returns-clause-written : goal.returns-clause-written
returns-clause-written c = text_is_read
