use Rattle.std.proofs.Common.{◌++◌, refl, Some, ap, subst, ◌∙◌}
use Rattle.std.specs.Io.BufRead.{drop_through}
use Rattle.std.specs.Io.KnownBytes.{IsAtEnd}
use Rattle.legumeyet_columns.specs.Places.{after_all}
use Rattle.legumeyet_columns.specs.declared.dialect.Place.TheVariants.{Front}
use Rattle.legumeyet_columns.proofs.LinesLemmas.{nothing_of, nothing_of_left, whole_left, whole_row}
use Rattle.legumeyet_columns.proofs.reading.read_record.Goals as goal

-- nothing is left
pub returns-then-branch-eq0-clause-bytes : goal.returns-then-branch-eq0-clause-bytes
returns-then-branch-eq0-clause-bytes g c = λ short bytes known.
    let read = c.in_ok-read_line.ensures.line bytes known in
    let over = subst IsAtEnd known (c.in_ok-read_line.ensures.over c.if-branch-eq0.true) in (
      nothing_of c.args.dialect c.clear.new.self.items _ bytes c.clear.ensures.items over read.0,
      read.1 ∙ ap Some (nothing_of_left c.args.dialect bytes over),
    )

-- a record is read
pub returns-clause-bytes : goal.returns-clause-bytes
returns-clause-bytes g c = λ short bytes known.
    let read = c.in_ok-read_line.ensures.line bytes known in
    let rest = c.in_ok-found.ensures.bytes short (drop_through 10 bytes) read.1 in
    let row = rest.0 ∙ ap (λ t. c.read_line.new.row.items ++ t) (c.place_after-place.ensures.rest (drop_through 10 bytes)) in
    let left = rest.1 ∙ ap Some (c.place_after-place.ensures.left (drop_through 10 bytes)) in (
      whole_row c.args.dialect (after_all c.args.dialect Front c.deref.result.now) c.clear.new.self.items _ c.deref.result.now _ bytes
          c.clear.ensures.items read.0 c.deref.ensures.value refl row,
      left ∙ ap Some (whole_left c.args.dialect (after_all c.args.dialect Front c.deref.result.now) c.clear.new.self.items _ c.deref.result.now bytes
          c.clear.ensures.items read.0 c.deref.ensures.value refl),
    )
