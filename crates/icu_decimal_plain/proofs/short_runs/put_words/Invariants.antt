use Rattle.std.proofs.Common.{◌≡◌, ◌+◌, ◌*◌, ◌≤◌, ◌++◌, drop, length, sum, take}
use Rattle.icu_decimal_plain.specs.LaterGroups.{groups_ahead}
use Rattle.icu_decimal_plain.specs.Runs.{byte_text}
use Rattle.icu_decimal_plain.proofs.short_runs.put_words.Given as goal

abbrev pub invariant-loop-size : goal.invariant-loop-size
invariant-loop-size l = record {
  within : l.at + sum l.sizes ≤ 16;
  text : take l.len l.text ++ groups_ahead (take l.separator.len l.separator.bytes) byte_text l.sizes (drop l.at l.bytes) ≡ take l.initial.len l.initial.text ++ groups_ahead (take l.separator.len l.separator.bytes) byte_text l.initial.sizes (drop l.from l.bytes);
  room : l.len + 4 * (sum l.sizes + length l.sizes) ≤ l.initial.len + 4 * (sum l.initial.sizes + length l.initial.sizes);
}
