use Rattle.locale_numbers_tables.proofs.SeedLemmas.{hashed_in}
use Rattle.locale_numbers_tables.proofs.seed.Seed.of_text.Goals as goal

pub returns : goal.returns
returns c = record { value = hashed_in c.of_digest.result.first c.args.text.now _ c.digest.ensures c.of_digest.ensures.first c.of_digest.ensures.last }
