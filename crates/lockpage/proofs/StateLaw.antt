-- Laws of states and of the time left: when an entry has each, and what each says of the entry. Assumes nothing.
use mathlib.Core.Path.{◌≡◌, refl, ap, subst, ◌∙◌}
use mathlib.Core.List.{List}
use mathlib.Core.Bool.{Bool, true, false, cond}
use Prim.Native.Nat.{ℕ, zero, suc, ◌+◌, ◌-◌, ◌≤◌, ◌<◌, ◌^◌}
use native.Mathlib.Omega.{arith}
use borrow.Author.Tests.{ltb-true, ltb-false, lt-ltb, le-ltb}
use lib.Dec.{ltb, lit<}
use lib.ListN.{length}
use lib.IntN.{ℤ, pos, negsuc, ◌-ℤ◌}
use mir.Syntax.{w64}
use mir.Val.{SFits}
use Rattle.octets.specs.Part.{AreBytes, replaced}
use Rattle.octets.specs.Number.{bytes, with_number}
use Rattle.octets.specs.Signed.{twos, signed}
use Rattle.octets.proofs.NumberLaw.{bytes_length, bytes_are}
use Rattle.octets.proofs.SignedLaw.{signed_twos}
use Rattle.lockpage.specs.declared.Entry.{Entry}
use Rattle.lockpage.specs.declared.State.{State}
use Rattle.lockpage.specs.declared.State.TheVariants.{Free, Frozen, Counting}
use Rattle.lockpage.specs.Size.{word_size}
use Rattle.lockpage.specs.Entry.{flag, frozen_flag, unfrozen_flag, is_frozen}
use Rattle.lockpage.specs.State.{state, state_number, time_left, time_left_size, time_left_bytes}
use Rattle.lockpage.proofs.EntryLaw.{frozen_true, frozen_false, frozen_no}

module _ (now : ℕ) (e : Entry) where
  pub state_frozen : is_frozen e.stamp ≡ true → state now e ≡ Frozen
  unfolding state
  state_frozen f = rw (state, f)

  pub state_counting : is_frozen e.stamp ≡ false → now < e.word → state now e ≡ Counting
  unfolding state
  state_counting f h = rw (state, f, lt-ltb now e.word h)

  pub state_free : is_frozen e.stamp ≡ false → e.word ≤ now → state now e ≡ Free
  unfolding state
  state_free f h = rw (state, f, le-ltb now e.word h)

  -- what a state says of the entry
  abbrev pub Says : State → Type 0
  Says Free = (flag e.stamp ≡ unfrozen_flag) × (e.word ≤ now)
  Says Frozen = flag e.stamp ≡ frozen_flag
  Says Counting = (flag e.stamp ≡ unfrozen_flag) × (now < e.word)

  pub says : Says (state now e)
  unfolding state
  says = go (is_frozen e.stamp) refl (ltb now e.word) refl
    where
      go : (a : Bool) → is_frozen e.stamp ≡ a → (b : Bool) → ltb now e.word ≡ b
          → Says (elim a [ true ↦ Frozen | false ↦ elim b [ true ↦ Counting | false ↦ Free ] ])
      go true f b h = frozen_true e.stamp f
      go false f true h = (frozen_false e.stamp f, ltb-true now e.word h)
      go false f false h = (frozen_false e.stamp f, ltb-false now e.word h)

  pub left_frozen : is_frozen e.stamp ≡ true → time_left now e ≡ pos e.word
  unfolding time_left
  left_frozen f = rw (time_left, f)

  pub left_unfrozen : is_frozen e.stamp ≡ false → time_left now e ≡ pos e.word -ℤ pos now
  unfolding time_left
  left_unfrozen f = rw (time_left, f)

-- what is free stays free
pub stays_free : (now later : ℕ) (e : Entry) → now ≤ later → state now e ≡ Free → state later e ≡ Free
stays_free now later e h f =
    let free : Says now e Free = subst (Says now e) f (says now e) in
    state_free later e (frozen_no e.stamp free.0) (omega (arith, free.1))

-- a difference of two numbers: from the second on, and below it
minus_ahead : (a b : ℕ) → b ≤ a → pos a -ℤ pos b ≡ pos (a - b)
minus_ahead a zero h =
    let same : a + 0 ≡ a - 0 = omega arith in
    ap pos same
minus_ahead a (suc b) h = ap (λ (t : Bool). cond t (negsuc (suc b - suc a)) (pos (a - suc b))) (le-ltb a (suc b) h)

minus_past : (a b k : ℕ) → b ≡ a + suc k → pos a -ℤ pos b ≡ negsuc k
minus_past a zero k h = absurd (omega arith)
minus_past a (suc b) k h =
    let less : suc b - suc a ≡ k = omega arith in
    ap (λ (t : Bool). cond t (negsuc (suc b - suc a)) (pos (a - suc b))) (lt-ltb a (suc b) (omega arith)) ∙ ap negsuc less

pub left_ahead : (now : ℕ) (e : Entry) → is_frozen e.stamp ≡ false → now ≤ e.word → time_left now e ≡ pos (e.word - now)
left_ahead now e f h = left_unfrozen now e f ∙ minus_ahead e.word now h

pub left_past : (now : ℕ) (e : Entry) → is_frozen e.stamp ≡ false → (k : ℕ) → now ≡ e.word + suc k → time_left now e ≡ negsuc k
left_past now e f k h = left_unfrozen now e f ∙ minus_past e.word now k h

-- the difference of two numbers of 4 bytes has 64 bits
pub minus_fits : (a b : ℕ) → a < 256 ^ word_size → b < 256 ^ word_size → SFits w64 (pos a -ℤ pos b)
minus_fits a zero h k = record { sfits = omega arith }
minus_fits a (suc b) h k = go (ltb a (suc b)) refl
  where
    go : (t : Bool) → ltb a (suc b) ≡ t → SFits w64 (cond t (negsuc (suc b - suc a)) (pos (a - suc b)))
    go true p = record { sfits = omega arith }
    go false p = record { sfits = omega arith }

-- a time left that is stored
pub left_stored : (l r : List ℕ) (at now : ℕ) (e : Entry) (z : ℤ) → SFits w64 z → r ≡ with_number l at time_left_size (twos (signed (twos z)))
    → z ≡ time_left now e
    → r ≡ replaced l at (time_left_bytes now e)
unfolding with_number time_left_bytes
left_stored l r at now e z f er ez = er ∙ ap (λ (t : ℤ). replaced l at (bytes time_left_size (twos t))) (signed_twos z f ∙ ez)

pub time_left_bytes_length : (now : ℕ) (e : Entry) → length (time_left_bytes now e) ≡ time_left_size
unfolding time_left_bytes
time_left_bytes_length now e = bytes_length time_left_size (twos (time_left now e))

pub time_left_bytes_are : (now : ℕ) (e : Entry) → AreBytes (time_left_bytes now e)
unfolding time_left_bytes
time_left_bytes_are now e = bytes_are time_left_size (twos (time_left now e))

pub state_number_byte : (s : State) → state_number s < 256
unfolding state_number
state_number_byte Free = lit< tt
state_number_byte Frozen = lit< tt
state_number_byte Counting = lit< tt
