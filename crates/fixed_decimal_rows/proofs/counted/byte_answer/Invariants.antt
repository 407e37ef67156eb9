use Rattle.fixed_decimal_rows.proofs.counted.byte_answer.Given as goal

abbrev pub ghosts-counted_byte : goal.ghosts-counted_byte
ghosts-counted_byte a = record { name = a.blank.name; parts = a.blank.parts }
