-- `decimal::put` ends because n / 10 is below n, where n is not of one digit. Assumes nothing.
use Rattle.decimal.proofs.+put.Given as goal

abbrev pub decreases-put : goal.decreases-put
decreases-put l = l.n
