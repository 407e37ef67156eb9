use Rattle.std.proofs.Common.{◌≡◌, ◌∙◌, ap, subst, sym}
use Rattle.serde_json.specs.View.{view}
use Rattle.serde_json.specs.declared.value.Value.{Array}
use Rattle.serde_json.proofs.Views.{view-Array}
use Rattle.icu_decimal_patterns.specs.KeptEntries.{CompactTable}
use Rattle.icu_decimal_patterns.specs.SmallEntries.{AreSmall}
use Rattle.icu_decimal_patterns.specs.TableJson.{SaysTable, json_array, table_json, types_json}
use Rattle.icu_decimal_patterns.proofs.ReadBackLemmas.{reads_back}
use Rattle.icu_decimal_patterns.proofs.compact_patterns.CompactPatterns.to_json.Goals as goal

pub returns-clause-reads_back : goal.returns-clause-reads_back
returns-clause-reads_back c =
    let t : CompactTable = record { entries = c.self.inside.entries.items; patterns = c.self.inside.patterns.items } in
    let whole : view (Array c.in_ok-list.list) ≡ table_json t
    = view-Array c.in_ok-list.list ∙ ap json_array (c.in_ok-list.ensures.value ∙ (λ i. types_json (c.as_slice.ensures.value i) (c.as_slice-2.ensures.value i))) in
    let says : SaysTable (table_json t) t = reads_back t (subst AreSmall c.as_slice.ensures.value c.in_ok-list.ensures.small) c.self.invariant.0 c.self.invariant.2 in
    subst (SaysTable (view (Array c.in_ok-list.list))) c.self.view_is (subst (λ d. SaysTable d t) (sym whole) says)
