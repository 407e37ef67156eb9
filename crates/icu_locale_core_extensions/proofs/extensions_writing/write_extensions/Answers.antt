use Rattle.std.proofs.Common.{◌≡◌, List, take, drop, ap, ◌∙◌}
use Rattle.writeable.specs.Taking.{on_err}
use Rattle.icu_locale_core_grammar.specs.Collections.{Entry}
use Rattle.icu_locale_core_grammar.specs.NormalText.{before_transform}
use Rattle.icu_locale_core_extensions.specs.ExtensionsValue.{ExtensionsValue}
use Rattle.icu_locale_core_extensions.proofs.PlacedLemmas.{placed_in_order}
use Rattle.icu_locale_core_extensions.proofs.extensions_writing.write_extensions.Goals as goal

pub returns-clause-ok : goal.returns-clause-ok
returns-clause-ok g c =
    let held : c.as_slice-others.result.now ≡ c.args.extensions.now.blocks.others = c.as_slice-others.ensures.value ∙ ap (λ (e : ExtensionsValue). e.blocks.others) c.extensions.view_is in
    let place = c.before_transform.result in
    let cut = placed_in_order c.args.begins c.args.extensions.now _ _ place (c.before_transform.ensures.value ∙ ap before_transform held) (c.split_at.ensures.front ∙ ap (λ (os : List Entry). take place os) held) (c.split_at.ensures.back ∙ ap (λ (os : List Entry). drop place os) held) in
    rw cut c.in_ok-write_in_order.ensures.ok

pub returns-in_err-write_in_order-clause-begun : goal.returns-in_err-write_in_order-clause-begun
returns-in_err-write_in_order-clause-begun g c =
    let held : c.as_slice-others.result.now ≡ c.args.extensions.now.blocks.others = c.as_slice-others.ensures.value ∙ ap (λ (e : ExtensionsValue). e.blocks.others) c.extensions.view_is in
    let place = c.before_transform.result in
    let cut = placed_in_order c.args.begins c.args.extensions.now _ _ place (c.before_transform.ensures.value ∙ ap before_transform held) (c.split_at.ensures.front ∙ ap (λ (os : List Entry). take place os) held) (c.split_at.ensures.back ∙ ap (λ (os : List Entry). drop place os) held) in
    on_err c.from_residual.result (rw cut c.in_err-write_in_order.ensures.begun)
