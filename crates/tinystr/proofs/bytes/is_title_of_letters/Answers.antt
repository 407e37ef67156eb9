use Rattle.tinystr.proofs.FormWords.{rest_ascii}
use Rattle.tinystr.proofs.bytes.is_title_of_letters.Goals as goal

pub all-requires : goal.all-requires
all-requires c = rest_ascii c.args.bytes.now c.in-Some.first.now c.in-Some.rest.now c.in-Some.ensures.cases.0 c.requires
