use Rattle.std.proofs.Common.{rules}
use Rattle.icu_locale_core_extensions.proofs.ExtensionsLemmas.{empty_iff}
use Rattle.icu_locale_core_extensions.proofs.extensions.Extensions.is_empty.Goals as goal

pub returns-then-is_empty-3 : goal.returns-then-is_empty-3
returns-then-is_empty-3 c = empty_iff c.args.self.now _ (search rules)

pub returns-else-is_empty-3 : goal.returns-else-is_empty-3
returns-else-is_empty-3 c = empty_iff c.args.self.now _ (search rules)
