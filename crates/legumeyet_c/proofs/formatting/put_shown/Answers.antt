use Rattle.legumeyet_c.specs.Formatted.{IsShownFault, IsShownText}
use Rattle.legumeyet_c.proofs.WordedLemmas.{put_tables}
use Rattle.legumeyet_c.proofs.formatting.put_shown.Goals as goal

pub returns : goal.returns
returns c =
    let value = c.args.value.now in
    put_tables (λ f text. IsShownText f value text) (λ f error. IsShownFault f value error) c.get.result.now c.args.lent.now.tables _ _ _ _ _ c.get.ensures c.put_shown_value.ensures
