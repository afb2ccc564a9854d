-- `fields::write_decimal` meets its contract. Assumes nothing.
use Rattle.fields.proofs.+write_decimal.Given as goal

abbrev pub decreases-write_decimal : goal.decreases-write_decimal
decreases-write_decimal l = l.n
