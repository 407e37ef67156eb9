use Rattle.legumeyet_options.proofs.KeptSayerLemmas.{digits_read}
use Rattle.legumeyet_options.proofs.kept_sayer.digits_of.Goals as goal

pub returns : goal.returns
returns c = digits_read c.args.text.now c.of.result c.of.ensures.reads
