use Rattle.icu_locale_core_extensions.specs.ExtensionsText.{extensions_alone}
use Rattle.icu_locale_core_extensions.proofs.HintLemmas.{exact_hint, open_hint}
use Rattle.icu_locale_core_extensions.proofs.extensions_writing.ExtensionsWriteable.writeable_length_hint.Goals as goal

pub returns-in-Ok : goal.returns-in-Ok
returns-in-Ok c =
    let h = exact_hint c.exact.result c.new-sink.result c.write_extensions.new.sink (extensions_alone c.args.self.now) c.new-sink.ensures c.count.result c.in-Ok.ensures.ok c.count.ensures c.count.type_inv c.exact.ensures.low c.exact.ensures.high in
    record { within = h.within; low = h.low; high = h.high }

pub returns-in-Err : goal.returns-in-Err
returns-in-Err c =
    let h = open_hint c.at_least.result c.new-sink.result c.write_extensions.new.sink (extensions_alone c.args.self.now) c.new-sink.ensures c.in-Err.ensures.begun c.at_least.ensures.low c.at_least.ensures.high in
    record { within = h.within; low = h.low; high = h.high }
