-- `lockpage::updates::updated` meets its contract, by those of the word and the stamp. Assumes nothing.
use borrow.Author.Rules.{rules}
use mathlib.Core.Path.{ap₂}
use native.Mathlib.Omega.{arith}
use Rattle.lockpage.specs.Entry.{entry}
use Rattle.lockpage.proofs.UpdateLaw.{within_most}
use Rattle.lockpage.proofs.updates.updated.Statement.{statement}
use Rattle.lockpage.proofs.updates.updated.Tie as tie

cast-word : tie.Need-overflow_cast-result
cast-word c = omega (arith, c.before.new_word-word.ensures, within_most _ c.before.before.requires.1)

returns : tie.Need-returns
returns c = ap₂ entry c.before.new_word-word.ensures c.new_stamp-stamp.ensures

pub updated_spec : {M : Type 1} → statement M
updated_spec = tie.close (tie.spec (λ c κs. search rules) (λ c κs. search rules) cast-word returns)
