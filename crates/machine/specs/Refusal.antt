-- What a call answers: that it is accepted, or why it is refused. Assumes nothing: these are definitions.
use Rattle.std.specs.Prelude.{◌≡◌, ℕ, Result, Ok, Err}
use Rattle.machine.specs.declared.Refusal.{Refusal}
use Rattle.machine.specs.declared.Refusal.TheVariants.{
  MemoryInvalid,
  DiskSizeWrong,
  KindUnknown,
  TimeOutOfRange,
  AddressOutOfRange,
  LengthWrong,
  TagWrong,
  CountExhausted,
  StateWrong,
  LimitExceeded,
  SaltUnchanged,
  ListSizeWrong,
  PartOutOfRange,
  TooFewFree,
}

-- "A no ends the command with that number": the number of the question that says no
abbrev pub refusal_number : Refusal → ℕ
refusal_number MemoryInvalid = 1
refusal_number DiskSizeWrong = 2
refusal_number KindUnknown = 3
refusal_number TimeOutOfRange = 4
refusal_number AddressOutOfRange = 5
refusal_number LengthWrong = 6
refusal_number TagWrong = 7
refusal_number CountExhausted = 8
refusal_number StateWrong = 9
refusal_number LimitExceeded = 10
refusal_number SaltUnchanged = 11
refusal_number ListSizeWrong = 12
refusal_number PartOutOfRange = 13
refusal_number TooFewFree = 14

-- "Accepted is 0."
abbrev pub number_of : {A : Type 0} → Result A Refusal → ℕ
number_of (Ok _) = 0
number_of (Err r) = refusal_number r

-- what is answered beside the number: 0 where that is not 0
abbrev pub answered_or_0 : Result ℕ Refusal → ℕ
answered_or_0 (Ok n) = n
answered_or_0 (Err _) = 0

-- a claim: two refusals have two numbers, and none has that of an accepted call, so that the number tells what is answered
abbrev pub NumbersTell : Type 0
NumbersTell = (a b : Result Unit Refusal) → number_of a ≡ number_of b → a ≡ b
