use Rattle.std.proofs.Common.{sym}
use Rattle.serde_json.specs.View.{view}
use Rattle.locale_numbers_book.proofs.FormLemmas.{formed}
use Rattle.locale_numbers_book.proofs.json.form.arrays_of.Goals as goal

pub arrays_in-requires : goal.arrays_in-requires
arrays_in-requires c = formed (view c.args.value) _ (sym c.if-not-has_form.ensures) c.in-Some.ensures
