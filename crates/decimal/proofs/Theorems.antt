-- The claims of specs/Claims.antt, proved. Assumes nothing.
use Rattle.decimal.specs.Claims.{Text}
use Rattle.decimal.proofs.DecimalLaw.{spelled_decimal, decimal_size}

pub text : Text
text = record { read_back = spelled_decimal; size = decimal_size }
