-- Log blocks, chained one to the next, and what their records tell. Assumes nothing.
use mathlib.Core.Path.{◌≡◌, refl, ap, sym, subst, ◌∙◌}
use mathlib.Core.Bool.{true, false}
use mathlib.Core.List.{List, [], ◌∷◌, ◌++◌, append_assoc, append-nil}
use Rattle.std.specs.Prelude.{Option, Some}
use Prim.Native.Nat.{ℕ}
use lib.Dec.{eqb}
use Rattle.lockpage.specs.Geometry.{Geometry, Proper}
use Rattle.machine.specs.Command.{Box}
use Rattle.machine.specs.Step.{Accepted, step}
use Rattle.machine.proofs.StepLaw.{accepts}
use Rattle.versions_machine.specs.Versions.{Record, replaced_by}
use Rattle.versions_machine.specs.Log.{log_block}
use Rattle.versions_machine.specs.Plan.{writing, given}
use Rattle.versions_machine.specs.History.{Locked, locked_of, Link, records_of, first_of, NotIn, told, Holds, Chained}
use Rattle.versions_machine.proofs.HoldsLaw.{other_holds, write_other}

-- ---- records

pub told_append : (f : ℕ → Option ℕ) (xs ys : List Record) → told f (xs ++ ys) ≡ told (told f xs) ys
told_append f [] ys = refl
told_append f (x ∷ xs) ys = told_append (replaced_by f x.part x.block) xs ys

pub replaced_alike : (f g : ℕ → Option ℕ) (part b k : ℕ) → f k ≡ g k → replaced_by f part b k ≡ replaced_by g part b k
unfolding replaced_by
replaced_alike f g part b k e = ap (λ (x : Option ℕ). elim (eqb k part) [ true ↦ Some b | false ↦ x ]) e

pub records_end : (ls : List Link) (l : Link) → records_of (ls ++ (l ∷ [])) ≡ records_of ls ++ l.records
records_end [] l = append-nil l.records
records_end (m ∷ ls) l = ap (λ (x : List Record). m.records ++ x) (records_end ls l) ∙ sym (append_assoc m.records (records_of ls) l.records)

pub first_end : (ls : List Link) (l : Link) (end : ℕ) → first_of (ls ++ (l ∷ [])) end ≡ first_of ls l.block
first_end [] l end = refl
first_end (m ∷ ls) l end = refl

pub not_in_end : (b : ℕ) (ls : List Link) (l : Link) → NotIn b ls → (b ≡ l.block → ⊥) → NotIn b (ls ++ (l ∷ []))
not_in_end b [] l h n = (n, tt)
not_in_end b (m ∷ ls) l h n = (h.0, not_in_end b ls l h.1 n)

module _ {γ : Geometry} (σ : Proper γ) where
  -- ---- the chain

  -- what keeps every other block than o keeps it, where o is none of its blocks
  pub chain_but : (R : ℕ) (s t : Box) (o : ℕ) → ((b : ℕ) (w : Locked) → (b ≡ o → ⊥) → Holds γ s b w → Holds γ t b w) → (ls : List Link) (end : ℕ)
      → NotIn o ls → Chained γ R s ls end → Chained γ R t ls end
  chain_but R s t o f [] end n h = tt
  chain_but R s t o f (l ∷ ls) end n h =
      (f l.block (locked_of (log_block γ l.records (first_of ls end)) R l.time) (λ e. n.0 (sym e)) h.0, chain_but R s t o f ls end n.1 h.1)

  pub chain_all : (R : ℕ) (s t : Box) → ((b : ℕ) (w : Locked) → Holds γ s b w → Holds γ t b w) → (ls : List Link) (end : ℕ)
      → Chained γ R s ls end → Chained γ R t ls end
  chain_all R s t f [] end h = tt
  chain_all R s t f (l ∷ ls) end h = (f l.block (locked_of (log_block γ l.records (first_of ls end)) R l.time) h.0, chain_all R s t f ls end h.1)

  pub chain_end : (R : ℕ) (s : Box) (ls : List Link) (l : Link) (end : ℕ) → Chained γ R s ls l.block
      → Holds γ s l.block (locked_of (log_block γ l.records end) R l.time)
      → Chained γ R s (ls ++ (l ∷ [])) end
  chain_end R s [] l end h k = (k, tt)
  chain_end R s (m ∷ ls) l end h k = (
    subst (λ (n : ℕ). Holds γ s m.block (locked_of (log_block γ m.records n) R m.time)) (sym (first_end ls l end)) h.0,
    chain_end R s ls l end h.1 k,
  )

  -- a block that is written is none of them
  pub write_not_in : (R : ℕ) (lock : ℕ) (s : Box) (block now : ℕ) (content : List ℕ) → Accepted γ s (given γ s (writing block now lock content))
      → (ls : List Link) (end : ℕ)
      → Chained γ R s ls end → NotIn block ls
  write_not_in R lock s block now content a [] end h = tt
  write_not_in R lock s block now content a (l ∷ ls) end h = (
    λ e.
        write_other σ lock s block now content (accepts σ s (given γ s (writing block now lock content)) a) l.block
        (locked_of (log_block γ l.records (first_of ls end)) R l.time) h.0 (sym e),
    write_not_in R lock s block now content a ls end h.1,
  )

  pub write_chain : (R : ℕ) (lock : ℕ) (s : Box) (block now : ℕ) (content : List ℕ) → Accepted γ s (given γ s (writing block now lock content))
      → (ls : List Link) (end : ℕ)
      → Chained γ R s ls end → Chained γ R (step γ s (given γ s (writing block now lock content))).box ls end
  write_chain R lock s block now content a ls end h =
      let o = writing block now lock content in
      chain_but R s (step γ s (given γ s o)).box block (other_holds σ s o (accepts σ s (given γ s o) a)) ls end
      (write_not_in R lock s block now content a ls end h) h
