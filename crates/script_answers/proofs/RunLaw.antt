-- A line's command as the code runs it: the answer's buffer and the data are runs of one byte, and what is shown is by the kind and the
-- number answered. Assumes nothing.
use mathlib.Core.Path.{◌≡◌, refl, ap, ap₂, sym, ◌∙◌}
use mathlib.Core.Bool.{Bool, true, false, ◌&&◌, false≢true, true≢false}
use mathlib.Core.List.{List, [], ◌∷◌}
use Prim.Native.Nat.{ℕ, zero, suc, ◌≤◌, ◌%◌}
use native.Mathlib.Omega.{arith}
use borrow.Author.Tests.{eq-eqb, ne_eqb}
use lib.Dec.{eqb}
use lib.IntN.{ℤ, pos}
use lib.ListN.{length, get_or, take, drop, replicate}
use Rattle.std.specs.Prelude.{Result, Ok, Err, is_err}
use Rattle.octets.specs.Part.{part, repeated}
use Rattle.octets.specs.Number.{number_at}
use Rattle.octets.specs.Signed.{signed}
use Rattle.octets.proofs.RepeatedLaw.{repeated_length, repeated_part}
use Rattle.lockpage.specs.Geometry.{present}
use Rattle.lockpage.specs.Size.{block_size, entry_size}
use Rattle.lockpage.specs.State.{time_left_size}
use Rattle.lockpage.specs.declared.Update.TheVariants.{Write, Unfreeze, Increment}
use Rattle.machine.specs.declared.Kind.{Kind}
use Rattle.machine.specs.declared.Kind.TheVariants.{Read, Entry, Page, Change, Sync, Restart, NewSalt, Identify, Unknown}
use Rattle.machine.specs.Command.{Box, Outcome, command_of, outcome_of, kinds, kind_numbered}
use Rattle.machine.specs.declared.Refusal.{Refusal}
use Rattle.machine.specs.Refusal.{number_of}
use Rattle.machine.specs.Question.{content_length, proof_length}
use Rattle.machine.specs.Effect.{state_place}
use Rattle.machine.specs.Step.{step}
use Rattle.machine.proofs.KindLaw.{entry_kind}
use Rattle.machine.proofs.RefusalLaw.{some_number}
use Rattle.script_lines.specs.declared.Values.{Values}
use Rattle.script_answers.specs.declared.Shown.{Shown}
use Rattle.script_answers.specs.declared.ScriptBox.{ScriptBox}
use Rattle.script_answers.specs.Answer.{Ran, box_in, buffer, page_got, ran, shown, ran_of, ran_with, ran_line}

-- ---- kind 2 alone is an entry

is_entry : Kind → Bool
is_entry k = elim k [
  | Read ↦ false
  | Entry ↦ true
  | Page ↦ false
  | Change u ↦ false
  | Sync ↦ false
  | Restart ↦ false
  | NewSalt ↦ false
  | Identify ↦ false
  | Unknown ↦ false
]

NoEntry : List Kind → Type 0
NoEntry [] = Unit
NoEntry (k ∷ ks) = (is_entry k ≡ false) × NoEntry ks

no_entry : (ks : List Kind) (i : ℕ) → NoEntry ks → is_entry (get_or ks i Unknown) ≡ false
unfolding NoEntry is_entry
no_entry [] i h = refl
no_entry (k ∷ ks) zero h = h.0
no_entry (k ∷ ks) (suc i) h = no_entry ks i h.1

pub entry_number : (n value : ℕ) (k : Kind) → k ≡ kind_numbered n value → k ≡ Entry → n ≡ 2
unfolding kind_numbered NoEntry is_entry
entry_number zero value k e h = absurd (false≢true (ap is_entry (sym e ∙ h)))
entry_number (suc zero) value k e h = absurd (false≢true (ap is_entry (sym e ∙ h)))
entry_number (suc (suc zero)) value k e h = refl
entry_number (suc (suc (suc i))) value k e h =
    let others =
    no_entry (drop 3 (Unknown ∷ kinds value)) i (refl, (refl, (refl, (refl, (refl, (refl, (refl, (refl, tt)))))))) in
    absurd (false≢true (sym others ∙ ap is_entry (sym e ∙ h)))

pub other_number : (n value : ℕ) (k : Kind) → k ≡ kind_numbered n value → (k ≡ Entry → ⊥) → n ≡ 2 → ⊥
other_number n value k e other two = other (e ∙ entry_kind n value two)

-- ---- what is shown

abbrev shown_of : ℕ → ℕ → ℤ → Shown
shown_of number state left = record { number = number; state = state; left = left }

-- a is the answer after the command, and b the box
module _ (kind n : ℕ) (b : ScriptBox) (a : List ℕ) (o : Outcome) (e : outcome_of n b.memory b.disk a ≡ o) where
  abbrev entry : Shown
  entry = shown_of n (number_at a state_place 1) (signed (number_at a entry_size time_left_size))

  shown_by : (x : Bool) → (eqb kind 2 && eqb n 0) ≡ x
      → shown kind (outcome_of n b.memory b.disk a) ≡ elim x [ true ↦ entry | false ↦ shown_of n 0 (pos 0) ]
  unfolding shown
  shown_by x t = ap (λ (y : Bool). elim y [ true ↦ entry | false ↦ shown_of n 0 (pos 0) ]) t

  sent : (s : Shown) → s ≡ shown kind (outcome_of n b.memory b.disk a) → ran_of b s ≡ ran_with kind o
  sent s es = ap (λ (x : Shown). ran_of b x) es ∙ ap (λ (x : Outcome). ran_with kind x) e

  pub sent_other : (kind ≡ 2 → ⊥) → ran_of b (shown_of n 0 (pos 0)) ≡ ran_with kind o
  sent_other h = sent _ (sym (shown_by false (ap (λ (x : Bool). x && eqb n 0) (ne_eqb kind 2 h))))

  pub sent_refused : kind ≡ 2 → (n ≡ 0 → ⊥) → ran_of b (shown_of n 0 (pos 0)) ≡ ran_with kind o
  sent_refused k h = sent _ (sym (shown_by false (ap₂ (λ (x y : Bool). x && y) (eq-eqb kind 2 k) (ne_eqb n 0 h))))

  pub sent_entry : kind ≡ 2 → n ≡ 0 → (state : ℕ) (left : ℤ) → state ≡ number_at a state_place 1
      → left ≡ signed (number_at a entry_size time_left_size) → ran_of b (shown_of n state left) ≡ ran_with kind o
  sent_entry k z state left es el =
      sent _ (ap₂ (λ (x : ℕ) (y : ℤ). shown_of n x y) es el ∙ sym (shown_by true (ap₂ (λ (x y : Bool). x && y) (eq-eqb kind 2 k) (eq-eqb n 0 z))))

-- by the number that is found of the command's answer
pub numbered : (r : Result Unit Refusal) (n : ℕ) (m disk a : List ℕ) (o : Outcome) → outcome_of (number_of r) m disk a ≡ o → n ≡ number_of r
    → outcome_of n m disk a ≡ o
numbered r n m disk a o e en = ap (λ (x : ℕ). outcome_of x m disk a) en ∙ e

pub refused_number : (r : Result Unit Refusal) (n : ℕ) → n ≡ number_of r → is_err r ≡ true → n ≡ 0 → ⊥
refused_number (Ok u) n e t z = absurd (false≢true t)
refused_number (Err r) n e t z = some_number r (sym e ∙ z)

pub accepted_number : (r : Result Unit Refusal) (n : ℕ) → n ≡ number_of r → is_err r ≡ false → n ≡ 0
accepted_number (Ok u) n e t = e
accepted_number (Err r) n e t = absurd (true≢false t)

-- ---- what a kind brings

content_within : (k : Kind) → content_length present k ≤ block_size present
content_within Read = omega arith
content_within Entry = omega arith
content_within Page = omega arith
content_within (Change (Write lock)) = omega arith
content_within (Change Unfreeze) = omega arith
content_within (Change (Increment value)) = omega arith
content_within Sync = omega arith
content_within Restart = omega arith
content_within NewSalt = omega arith
content_within Identify = omega arith
content_within Unknown = omega arith

pub within : (k : Kind) (n : ℕ) → n ≡ content_length present k → n ≤ block_size present
within k n e = omega (arith, content_within k)

-- the first n of the out for the data
pub content_of_lem : (n b : ℕ) → n ≤ block_size present → take n (replicate (block_size present) b) ≡ repeated n b
unfolding repeated part
content_of_lem n b h = repeated_part (block_size present) b 0 n (omega arith)

pub content_size : (n b : ℕ) → n ≤ block_size present → n ≡ length (take n (replicate (block_size present) b))
content_size n b h = sym (ap length (content_of_lem n b h) ∙ repeated_length n b)

-- ---- the line

module _ (s : ScriptBox) (v : Values) (k : Kind) (n p : ℕ) (content : List ℕ) (ek : k ≡ kind_numbered v.kind v.value)
    (en : n ≡ content_length present k) (ep : p ≡ proof_length present k) (ec : content ≡ repeated n (v.value % 256)) where
  abbrev box : Box
  box = box_in s

  abbrev given : Box → List ℕ → List ℕ → Outcome
  given s x proof = step present s (command_of v.kind v.block v.time v.value x proof buffer)

  ran_by : (b : Bool) → eqb p 0 ≡ b
      → ran box v ≡ elim b [ true ↦ given box content [] | false ↦ given (page_got box).box content (page_got box).answer ]
  unfolding ran
  ran_by b t =
      ap₂ (λ (x : Bool) (l : List ℕ). elim x [ true ↦ given box l [] | false ↦ given (page_got box).box l (page_got box).answer ])
      (ap (λ (i : ℕ). eqb i 0) (sym (ep ∙ ap (λ (j : Kind). proof_length present j) ek)) ∙ t)
      (sym (ec ∙ ap (λ (i : ℕ). repeated i (v.value % 256)) (en ∙ ap (λ (j : Kind). content_length present j) ek)))

  pub ran_plain : p ≡ 0 → (r : Ran) → r ≡ ran_with v.kind (given box content []) → r ≡ ran_line box v
  ran_plain h r e = e ∙ ap (λ (x : Outcome). ran_with v.kind x) (sym (ran_by true (eq-eqb p 0 h)))

  pub ran_page : (p ≡ 0 → ⊥) → (t : Box) (page : List ℕ) → t ≡ (page_got box).box → page ≡ (page_got box).answer
      → (r : Ran) → r ≡ ran_with v.kind (given t content page) → r ≡ ran_line box v
  ran_page h t page es ea r e =
      e
      ∙ ap₂ (λ (x : Box) (y : List ℕ). ran_with v.kind (given x content y)) es ea
      ∙ ap (λ (x : Outcome). ran_with v.kind x) (sym (ran_by false (ne_eqb p 0 h)))
