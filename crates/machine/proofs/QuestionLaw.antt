-- Laws of the questions: the first no, and when there is none. Assumes nothing.
use mathlib.Core.Path.{◌≡◌, refl, ap, sym, subst, ◌∙◌}
use mathlib.Core.Logic.{inl, inr, ⊎_elim}
use mathlib.Core.Bool.{Bool, true, false, ◌&&◌, ◌||◌, not, false≢true}
use mathlib.Mathlib.Data.Bool.Basic.{and_elim_left, and_elim_right, or_inl, or_inr}
use mathlib.Core.List.{List, [], ◌∷◌, ◌++◌}
use Prim.Native.Nat.{ℕ, ◌≤◌}
use native.Mathlib.Omega.{arith}
use borrow.Author.Tests.{leb-true, eq-eqb}
use lib.Dec.{eqb, leb}
use Rattle.lockpage.specs.Geometry.{Geometry, Proper}
use Rattle.lockpage.specs.declared.Update.{Update}
use Rattle.octets.proofs.EqualLaw.{equal_true}
use Rattle.lockpage.specs.State.{state}
use Rattle.lockpage.specs.Update.{allowed}
use Rattle.addressing.specs.Map.{group_of}
use Rattle.memory.specs.Memory.{groups}
use Rattle.machine.specs.declared.Kind.{Kind}
use Rattle.machine.specs.declared.Kind.TheVariants.{Read, Entry, Page, Change, Sync, Restart, NewSalt, Identify, Unknown}
use Rattle.machine.specs.Command.{Box, Command, kind_of, brought_page, brought_tag, brought_entry}
use Rattle.machine.specs.Tag.{tag}
use Rattle.machine.specs.Question.{Question, Put, NotPut, question1, question2, question3, question4, question5, question6, question7, question8}
use Rattle.machine.specs.Question.{question9, question10, question11, questions, questions_to, first_no, passes, refusal, AllYes, GetsYes}
use Rattle.machine.specs.Claims.{IsFirstNo, Passes, AnswersFirstNo}

-- ---- any list of questions

pub first_no_lem : (qs : List Question) → (first_no qs ≡ 0 → ⊥) → IsFirstNo (first_no qs) qs
unfolding first_no
first_no_lem [] h = absurd (h refl)
first_no_lem (NotPut ∷ qs) h =
    let rest = first_no_lem qs h in
    record {
      earlier = NotPut ∷ rest.earlier;
      later = rest.later;
      split = ap (λ (l : List Question). NotPut ∷ l) rest.split;
      before = (refl, rest.before);
    }
first_no_lem (Put n true ∷ qs) h =
    let rest = first_no_lem qs h in
    record {
      earlier = Put n true ∷ rest.earlier;
      later = rest.later;
      split = ap (λ (l : List Question). Put n true ∷ l) rest.split;
      before = (refl, rest.before);
    }
first_no_lem (Put n false ∷ qs) h = record { earlier = []; later = qs; split = refl; before = tt }

-- whether each has a number from 1 to n
unfoldable pub numbered_to : ℕ → List Question → Bool
numbered_to n [] = true
numbered_to n (NotPut ∷ qs) = numbered_to n qs
numbered_to n (Put k answer ∷ qs) = leb 1 k && (leb k n && numbered_to n qs)

pub yes_accepted : (qs : List Question) → AllYes qs → first_no qs ≡ 0
unfolding first_no
yes_accepted [] h = refl
yes_accepted (NotPut ∷ qs) h = yes_accepted qs h.1
yes_accepted (Put n true ∷ qs) h = yes_accepted qs h.1
yes_accepted (Put n false ∷ qs) h = absurd (false≢true h.0)

pub accepted_yes : (n : ℕ) (qs : List Question) → numbered_to n qs ≡ true → first_no qs ≡ 0 → AllYes qs
unfolding first_no numbered_to
accepted_yes n [] h e = tt
accepted_yes n (NotPut ∷ qs) h e = (refl, accepted_yes n qs h e)
accepted_yes n (Put k true ∷ qs) h e = (
  refl,
  accepted_yes n qs (and_elim_right (leb k n) (numbered_to n qs) (and_elim_right (leb 1 k) (leb k n && numbered_to n qs) h)) e,
)
accepted_yes n (Put k false ∷ qs) h e = absurd (omega (arith, leb-true 1 k (and_elim_left (leb 1 k) (leb k n && numbered_to n qs) h)))

-- those that have yes leave it to the rest
pub passes_on : (qs later : List Question) → AllYes qs → first_no (qs ++ later) ≡ first_no later
unfolding first_no
passes_on [] later h = refl
passes_on (NotPut ∷ qs) later h = passes_on qs later h.1
passes_on (Put k true ∷ qs) later h = passes_on qs later h.1
passes_on (Put k false ∷ qs) later h = absurd (false≢true h.0)

pub first_no_only : (n : ℕ) (qs : List Question) → IsFirstNo n qs → first_no qs ≡ n
unfolding first_no
first_no_only n qs f = ap first_no f.split ∙ passes_on f.earlier (Put n false ∷ f.later) f.before

-- so the number answered, where it is that of the first no
pub passes_if : (k n : ℕ) (qs : List Question) → numbered_to k qs ≡ true → n ≡ first_no qs → Passes n qs
passes_if k n qs h e = record { passes = λ y. e ∙ yes_accepted qs y; only = λ a. accepted_yes k qs h (sym e ∙ a) }

pub answers_first_no : (n : ℕ) (qs : List Question) → n ≡ first_no qs → AnswersFirstNo n qs
answers_first_no n qs e =
    record {
      first = λ f. subst (λ (k : ℕ). IsFirstNo k qs) (sym e) (first_no_lem qs (λ z. f (e ∙ z)));
      only = λ k f. e ∙ first_no_only k qs f;
    }

yes_front : (qs later : List Question) → AllYes (qs ++ later) → AllYes qs
yes_front [] later h = tt
yes_front (q ∷ qs) later h = (h.0, yes_front qs later h.1)

-- where not all of the first questions have yes, one of them ends the command
pub stops_within : (n : ℕ) (qs later : List Question) → numbered_to n qs ≡ true → (AllYes qs → ⊥)
    → (1 ≤ first_no (qs ++ later)) × (first_no (qs ++ later) ≤ n)
unfolding first_no numbered_to
stops_within n [] later h f = absurd (f tt)
stops_within n (NotPut ∷ qs) later h f = stops_within n qs later h (λ y. f (refl, y))
stops_within n (Put k true ∷ qs) later h f =
    stops_within n qs later (and_elim_right (leb k n) (numbered_to n qs) (and_elim_right (leb 1 k) (leb k n && numbered_to n qs) h))
    (λ y. f (refl, y))
stops_within n (Put k false ∷ qs) later h f = (
  leb-true 1 k (and_elim_left (leb 1 k) (leb k n && numbered_to n qs) h),
  leb-true k n (and_elim_left (leb k n) (numbered_to n qs) (and_elim_right (leb 1 k) (leb k n && numbered_to n qs) h)),
)

-- ---- asked one by one

-- a question has number n, if it is put
abbrev pub Numbered : ℕ → Question → Type 0
Numbered n (Put k answer) = k ≡ n
Numbered n NotPut = Unit

-- one whose answer is no ends it
pub says_no : (n : ℕ) (q : Question) (later : List Question) (r : Bool) → Numbered n q → r ≡ passes q → not r ≡ true
    → n ≡ first_no (q ∷ later)
unfolding first_no
says_no n NotPut later r h e negated = absurd (false≢true (ap not (sym e) ∙ negated))
says_no n (Put k true) later r h e negated = absurd (false≢true (ap not (sym e) ∙ negated))
says_no n (Put k false) later r h e negated = sym h

-- one whose answer is not leaves it to the rest
pub goes_on : (q : Question) (later : List Question) (r : Bool) → r ≡ passes q → not r ≡ false → first_no later ≡ first_no (q ∷ later)
unfolding first_no
goes_on NotPut later r e pass = refl
goes_on (Put k true) later r e pass = refl
goes_on (Put k false) later r e pass = absurd (false≢true (sym pass ∙ ap not e))

-- the first questions that end it do so whatever comes later
pub ends : (qs later : List Question) → (first_no qs ≡ 0 → ⊥) → first_no (qs ++ later) ≡ first_no qs
unfolding first_no
ends [] later h = absurd (h refl)
ends (NotPut ∷ qs) later h = ends qs later h
ends (Put k true ∷ qs) later h = ends qs later h
ends (Put k false ∷ qs) later h = refl

-- one that is not put makes no difference at the end
pub not_put_last : (qs : List Question) → first_no (qs ++ (NotPut ∷ [])) ≡ first_no qs
unfolding first_no
not_put_last [] = refl
not_put_last (NotPut ∷ qs) = not_put_last qs
not_put_last (Put k true ∷ qs) = not_put_last qs
not_put_last (Put k false ∷ qs) = refl

-- whether a question of number n is put
unfoldable pub asks : ℕ → List Question → Bool
asks n [] = false
asks n (NotPut ∷ qs) = asks n qs
asks n (Put k answer ∷ qs) = eqb k n || asks n qs

-- only such a one is answered
asked : (n : ℕ) (qs : List Question) → GetsYes n qs → asks n qs ≡ true
unfolding asks
asked n [] h = absurd h
asked n (NotPut ∷ qs) h = asked n qs h
asked n (Put k answer ∷ qs) h =
    ⊎_elim (λ e. or_inl (eqb k n) (asks n qs) (eq-eqb k n e)) (λ rest. or_inr (eqb k n) (asks n qs) (asked n qs rest)) h.1

-- γ is the box's geometry
module _ (γ : Geometry) where
  -- ---- the first of them, put to an update, and the others

  abbrev pub to_seventh : Update → Box → Command → List Question
  to_seventh u s c =
      question1 γ s.memory
      ∷ question2 γ s.memory s.disk
      ∷ question3 γ (Change u)
      ∷ question4 γ s.memory c.now
      ∷ question5 γ (Change u) (groups γ s.memory) c.block
      ∷ question6 γ (Change u) c.content c.proof c.answer
      ∷ question7 γ (Change u) s.memory (group_of γ c.block) c.proof
      ∷ []

  abbrev pub to_ninth : Update → Box → Command → List Question
  to_ninth u s c =
      to_seventh u s c
      ++ (question8 γ (Change u) s.memory (group_of γ c.block) ∷ question9 γ (Change u) c.now (brought_entry γ c) ∷ [])

  after_ninth : Update → Box → Command → List Question
  after_ninth u s c = question10 γ (Change u) c.now (brought_entry γ c) ∷ question11 γ (Change u) s.memory c.content ∷ []

  after_seventh : Update → Box → Command → List Question
  after_seventh u s c =
      question8 γ (Change u) s.memory (group_of γ c.block) ∷ question9 γ (Change u) c.now (brought_entry γ c) ∷ after_ninth u s c

-- γ is any proper geometry
module _ {γ : Geometry} (σ : Proper γ) where
  -- ---- the eleven

  pub all_numbered : (k : Kind) (s : Box) (c : Command) → numbered_to 11 (questions_to γ k s c) ≡ true
  unfolding numbered_to
  all_numbered Read s c = refl
  all_numbered Entry s c = refl
  all_numbered Page s c = refl
  all_numbered (Change u) s c = refl
  all_numbered Sync s c = refl
  all_numbered Restart s c = refl
  all_numbered NewSalt s c = refl
  all_numbered Identify s c = refl
  all_numbered Unknown s c = refl

  -- a command of kind k that no question refuses has yes to each
  pub all_yes : (k : Kind) (s : Box) (c : Command) → kind_of c ≡ k → refusal γ s c ≡ 0 → AllYes (questions_to γ k s c)
  unfolding refusal questions
  all_yes k s c e r =
      accepted_yes 11 (questions_to γ k s c) (all_numbered k s c)
      (ap (λ (x : Kind). first_no (questions_to γ x s c)) (sym e) ∙ r)

  -- the first two are put to every command
  pub refused_by_second : (s : Box) (c : Command) → (AllYes (question1 γ s.memory ∷ question2 γ s.memory s.disk ∷ []) → ⊥)
      → (1 ≤ refusal γ s c) × (refusal γ s c ≤ 2)
  unfolding refusal questions numbered_to
  refused_by_second s c f =
      let k = kind_of c in
      stops_within 2 (question1 γ s.memory ∷ question2 γ s.memory s.disk ∷ [])
      (question3 γ k
      ∷ question4 γ s.memory c.now
      ∷ question5 γ k (groups γ s.memory) c.block
      ∷ question6 γ k c.content c.proof c.answer
      ∷ question7 γ k s.memory (group_of γ c.block) c.proof
      ∷ question8 γ k s.memory (group_of γ c.block)
      ∷ question9 γ k c.now (brought_entry γ c)
      ∷ question10 γ k c.now (brought_entry γ c)
      ∷ question11 γ k s.memory c.content
      ∷ [])
      refl f

  -- an update that not all of them let pass is refused by then
  pub refused_by_seventh : (u : Update) (s : Box) (c : Command) → kind_of c ≡ Change u → (AllYes (to_seventh γ u s c) → ⊥)
      → (1 ≤ refusal γ s c) × (refusal γ s c ≤ 7)
  unfolding refusal questions numbered_to after_seventh after_ninth
  refused_by_seventh u s c e f =
      subst (λ (k : Kind). (1 ≤ first_no (questions_to γ k s c)) × (first_no (questions_to γ k s c) ≤ 7)) (sym e)
      (stops_within 7 (to_seventh γ u s c) (after_seventh γ u s c) refl f)

  pub refused_by_ninth : (u : Update) (s : Box) (c : Command) → kind_of c ≡ Change u → (AllYes (to_ninth γ u s c) → ⊥)
      → (1 ≤ refusal γ s c) × (refusal γ s c ≤ 9)
  unfolding refusal questions numbered_to after_ninth
  refused_by_ninth u s c e f =
      subst (λ (k : Kind). (1 ≤ first_no (questions_to γ k s c)) × (first_no (questions_to γ k s c) ≤ 9)) (sym e)
      (stops_within 9 (to_ninth γ u s c) (after_ninth γ u s c) refl f)

  -- one that they all let pass got yes to question 7
  pub got_seventh : (u : Update) (s : Box) (c : Command) → kind_of c ≡ Change u → AllYes (to_seventh γ u s c) → GetsYes 7 (questions γ s c)
  unfolding questions
  got_seventh u s c e h =
      subst (λ (k : Kind). GetsYes 7 (questions_to γ k s c)) (sym e) (
        h.0,
        inr (
          h.1.0,
          inr (
            h.1.1.0,
            inr
                (h.1.1.1.0, inr (h.1.1.1.1.0, inr (h.1.1.1.1.1.0, inr (h.1.1.1.1.1.1.0, inl refl)))),
          ),
        ),
      )

  pub all_seven : (u : Update) (s : Box) (c : Command) → AllYes (questions_to γ (Change u) s c) → AllYes (to_seventh γ u s c)
  unfolding after_seventh after_ninth
  all_seven u s c h = yes_front (to_seventh γ u s c) (after_seventh γ u s c) h

  pub nine_seven : (u : Update) (s : Box) (c : Command) → AllYes (to_ninth γ u s c) → AllYes (to_seventh γ u s c)
  nine_seven u s c h =
      yes_front (to_seventh γ u s c) (question8 γ (Change u) s.memory (group_of γ c.block) ∷ question9 γ (Change u) c.now (brought_entry γ c) ∷ []) h

  -- a kind that question 7 is not put to does not get yes to it
  pub no_seventh : (k : Kind) (s : Box) (c : Command) → asks 7 (questions_to γ k s c) ≡ false → kind_of c ≡ k → GetsYes 7 (questions γ s c) → ⊥
  unfolding questions
  no_seventh k s c n e h =
      false≢true (sym n ∙ asked 7 (questions_to γ k s c) (subst (λ (i : Kind). GetsYes 7 (questions_to γ i s c)) e h))

  -- what the last of them says
  pub seventh_yes : (u : Update) (s : Box) (c : Command) → AllYes (to_seventh γ u s c)
      → brought_tag γ c.proof ≡ tag γ s.memory (group_of γ c.block) (brought_page γ c.proof)
  seventh_yes u s c h =
      equal_true (brought_tag γ c.proof) (tag γ s.memory (group_of γ c.block) (brought_page γ c.proof)) h.1.1.1.1.1.1.0

  pub ninth_yes : (u : Update) (s : Box) (c : Command) → AllYes (to_ninth γ u s c) → allowed u (state c.now (brought_entry γ c)) ≡ true
  ninth_yes u s c h = h.1.1.1.1.1.1.1.1.0
