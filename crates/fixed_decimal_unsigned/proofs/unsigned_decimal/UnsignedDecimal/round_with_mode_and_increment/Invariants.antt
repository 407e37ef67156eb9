use Rattle.fixed_decimal_unsigned.proofs.unsigned_decimal.UnsignedDecimal.round_with_mode_and_increment.Given as goal

abbrev pub ghosts-round_with_blank : goal.ghosts-round_with_blank
ghosts-round_with_blank a = record { name = a.blank.name; parts = a.blank.parts }
