use Rattle.std.proofs.Common.{◌≡◌, rules, string_bytes, length}
use Rattle.std.proofs.lemmas.Str.{IsUtf8-string_bytes}
use Rattle.locale_numbers_lines.proofs.GrowsLemmas.{IsSplitPoint-grown}
use Rattle.locale_numbers_lines.proofs.ready_answers.answer_line.Goals as goal

pub truncate-requires : goal.truncate-requires
truncate-requires g c =
    let whole : c.len-whole.result ≡ length (string_bytes c.args.ready.now) = search rules in
    λ _. IsSplitPoint-grown _ _ _ (IsUtf8-string_bytes c.args.ready.now) (IsUtf8-string_bytes c.push_ended.new.ready) c.in-Err.ensures.err whole
