-- What a number tells of the answer: the answer is found from it.
use Rattle.std.proofs.Common.{◌≡◌, ℕ, List, [], ◌∷◌, get_or, Result, Ok, Err, refl, ap, sym, ◌∙◌}
use Rattle.machine.specs.declared.Refusal.{Refusal}
use Rattle.machine.specs.declared.Refusal.TheVariants.{
  MemoryInvalid,
  DiskSizeWrong,
  KindUnknown,
  TimeOutOfRange,
  AddressOutOfRange,
  LengthWrong,
  TagWrong,
  CountExhausted,
  StateWrong,
  LimitExceeded,
  SaltUnchanged,
  ListSizeWrong,
  PartOutOfRange,
  TooFewFree,
}
use Rattle.machine.specs.Refusal.{refusal_number, number_of, NumbersTell}

-- the answers in their numbers' order
abbrev answers : List (Result Unit Refusal)
answers = Ok tt
    ∷ Err MemoryInvalid ∷ Err DiskSizeWrong ∷ Err KindUnknown ∷ Err TimeOutOfRange ∷ Err AddressOutOfRange ∷ Err LengthWrong
    ∷ Err TagWrong ∷ Err CountExhausted ∷ Err StateWrong ∷ Err LimitExceeded ∷ Err SaltUnchanged ∷ Err ListSizeWrong
    ∷ Err PartOutOfRange ∷ Err TooFewFree ∷ []

abbrev numbered : ℕ → Result Unit Refusal
numbered n = get_or answers n (Ok tt)

found : (a : Result Unit Refusal) → numbered (number_of a) ≡ a
found (Ok tt) = refl
found (Err MemoryInvalid) = refl
found (Err DiskSizeWrong) = refl
found (Err KindUnknown) = refl
found (Err TimeOutOfRange) = refl
found (Err AddressOutOfRange) = refl
found (Err LengthWrong) = refl
found (Err TagWrong) = refl
found (Err CountExhausted) = refl
found (Err StateWrong) = refl
found (Err LimitExceeded) = refl
found (Err SaltUnchanged) = refl
found (Err ListSizeWrong) = refl
found (Err PartOutOfRange) = refl
found (Err TooFewFree) = refl

pub numbers_tell : NumbersTell
numbers_tell a b h = sym (found a) ∙ (ap numbered h ∙ found b)

-- no refusal has the number of an accepted call
pub some_number : (r : Refusal) → refusal_number r ≡ 0 → ⊥
some_number r e =
    let same : Err r ≡ Ok tt = numbers_tell (Err r) (Ok tt) e in
    cc
