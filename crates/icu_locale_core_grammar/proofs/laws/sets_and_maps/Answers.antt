use Rattle.std.proofs.Common.{subst}
use Rattle.icu_locale_core_grammar.specs.Collections.{Rises, keys_of}
use Rattle.icu_locale_core_grammar.proofs.SetLemmas.{contains-set_of, Rises-set_of, set_of_rising}
use Rattle.icu_locale_core_grammar.proofs.MapLemmas.{Rises-map_of, map_of_rising}
use Rattle.icu_locale_core_grammar.proofs.LookupLemmas.{value_at-map_of}
use Rattle.icu_locale_core_grammar.proofs.laws.sets_and_maps.Goals as goal

pub returns : goal.returns
returns c = record {
  contains = contains-set_of;
  rises = Rises-set_of;
  own_set = λ ts. (set_of_rising ts, λ e. subst Rises e (Rises-set_of ts));
  first_stands = value_at-map_of;
  keys_rise = Rises-map_of;
  own_map = λ es. (map_of_rising es, λ e. subst (λ l. Rises (keys_of l)) e (Rises-map_of es));
}
