-- Laws of a query's list: tests over a list, the numbers listed, the distinct ones, and what is shown for each. Assumes nothing.
use mathlib.Core.Path.{◌≡◌, refl, ap, ap₂, sym, subst, ◌∙◌}
use mathlib.Core.Bool.{Bool, true, false, ◌&&◌, ◌||◌, So-prop, false≢true, or-eq-true_iff}
use mathlib.Core.Logic.Or
use mathlib.Core.Logic.{∥∥₁_elim, ∥∥₁_map}
use mathlib.Mathlib.Data.Bool.Basic.{and_intro, and_elim_left, and_elim_right, or_inl, or_inr, eq-false_of_not-eq-true}
use mathlib.Core.List.{List, [], ◌∷◌, ◌++◌, map, flat_map, any, all, all-eq-true, any-eq-true}
use mathlib.Core.List.{not-mem-nil, mem-cons_self, mem-cons_of_mem, eq-or-mem_of_mem-cons}
use Prim.Native.Nat.{ℕ, zero, suc, ◌+◌, ◌*◌, ◌≤◌, ◌<◌}
use native.Mathlib.Omega.{arith}
use borrow.Author.Tests.{eqb-true}
use lib.Dec.{eqb, lit<}
use lib.ListN.{length, take, drop, length-append, length-drop, take-append-drop}
use lib.Seq.{drop-drop}
use Rattle.octets.specs.Part.{AreBytes, part}
use Rattle.octets.proofs.BelowLaw.{below_none, below_cons, below_append}
use Rattle.octets.proofs.PartLaw.{part_first, part_right}
use Rattle.lockpage.specs.Geometry.{Geometry, Proper}
use Rattle.lockpage.specs.declared.Entry.{Entry as PageEntry}
use Rattle.lockpage.proofs.StateLaw.{time_left_bytes_length, time_left_bytes_are, state_number_byte}
use Rattle.machine.specs.Command.{Box}
use Rattle.machine.specs.Tag.{current_entry}
use Rattle.machine.specs.Query.{listed, distinct, shown_size, shown_state, shown_states}
use Rattle.machine.proofs.CaseLaw.{same_or_not, true_or_false}

-- ---- tests over a list: the library's all and any do not unfold, so their clauses are laws

same_truth : (a b : Bool) → (a ≡ true → b ≡ true) → (b ≡ true → a ≡ true) → a ≡ b
same_truth true b f g = sym (f refl)
same_truth false true f g = g refl
same_truth false false f g = refl

module _ {A : Type 0} (p : A → Bool) where
  pub all_none : all [] p ≡ true
  all_none = all-eq-true.1 (λ x m. absurd (not-mem-nil m))

  pub all_cons : (x : A) (l : List A) → all (x ∷ l) p ≡ (p x && all l p)
  all_cons x l =
      same_truth (all (x ∷ l) p) (p x && all l p)
      (λ e.
      let h = (all-eq-true {l = x ∷ l} {p = p}).0 e in
      and_intro (h x mem-cons_self) (all-eq-true.1 (λ y m. h y (mem-cons_of_mem x m))))
      (λ e.
      all-eq-true.1
      (λ y m.
      Or.elim (So-prop (p y)) (eq-or-mem_of_mem-cons m)
      (λ q. subst (λ (z : A). p z ≡ true) (sym q) (and_elim_left (p x) (all l p) e))
      (λ n. all-eq-true.0 (and_elim_right (p x) (all l p) e) y n)))

  pub any_none : any [] p ≡ false
  any_none = same_truth (any [] p) false (λ e. ∥∥₁_elim (any-eq-true.0 e) (So-prop false) (λ w. absurd (not-mem-nil w.1))) (λ e. absurd (false≢true e))

  pub any_cons : (x : A) (l : List A) → any (x ∷ l) p ≡ (p x || any l p)
  any_cons x l =
      same_truth (any (x ∷ l) p) (p x || any l p)
      (λ e.
      ∥∥₁_elim ((any-eq-true {l = x ∷ l} {p = p}).0 e) (So-prop (p x || any l p))
      (λ w.
      Or.elim (So-prop (p x || any l p)) (eq-or-mem_of_mem-cons w.1)
      (λ q. or_inl (p x) (any l p) (subst (λ (z : A). p z ≡ true) q w.2))
      (λ m. or_inr (p x) (any l p) (any-eq-true.1 ∣ (w.0, m, w.2) ∣₁))))
      (λ e.
      Or.elim (So-prop (any (x ∷ l) p)) ((or-eq-true_iff (p x) (any l p)).0 e)
      (λ h. any-eq-true.1 ∣ (x, mem-cons_self, h) ∣₁)
      (λ h. any-eq-true.1 (∥∥₁_map ((any-eq-true {l = l} {p = p}).0 h) (λ w. (w.0, mem-cons_of_mem x w.1, w.2)))))

-- ---- the numbers listed

module _ {A : Type 0} (f : ℕ → A) where
  pub listed_length : (i n : ℕ) → length (listed f i n) ≡ n
  unfolding listed
  listed_length i zero = refl
  listed_length i (suc n) = ap suc (listed_length (suc i) n)

  -- in two; k is computed
  pub listed_split : (i n m k : ℕ) → k ≡ n + m → listed f i k ≡ listed f i n ++ listed f (i + n) m
  unfolding listed
  listed_split i zero m k e =
      let here : i ≡ i + 0 = omega arith in
      let all : k ≡ m = omega arith in
      ap₂ (listed f) here all
  listed_split i (suc n) m zero e = absurd (omega arith)
  listed_split i (suc n) m (suc k) e =
      let on : suc i + n ≡ i + suc n = omega arith in
      ap (λ (l : List A). f i ∷ l) (listed_split (suc i) n m k (omega arith) ∙ ap (λ (j : ℕ). listed f (suc i) n ++ listed f j m) on)

  pub map_listed : {B : Type 0} (g : A → B) (i n : ℕ) → map g (listed f i n) ≡ listed (λ j. g (f j)) i n
  unfolding listed
  map_listed g i zero = refl
  map_listed {B} g i (suc n) = ap (λ (l : List B). g (f i) ∷ l) (map_listed g (suc i) n)

  module _ (p : A → Bool) where
    pub listed_all : (i n : ℕ) → all (listed f i n) p ≡ true → (j : ℕ) → i ≤ j → j < i + n → p (f j) ≡ true
    unfolding listed
    listed_all i zero h j a b = absurd (omega arith)
    listed_all i (suc n) h j a b =
        let parts : (p (f i) && all (listed f (suc i) n) p) ≡ true = sym (all_cons p (f i) (listed f (suc i) n)) ∙ h in
        same_or_not i j
        (λ e. ap (λ (k : ℕ). p (f k)) (sym e) ∙ and_elim_left (p (f i)) (all (listed f (suc i) n) p) parts)
        (λ e. listed_all (suc i) n (and_elim_right (p (f i)) (all (listed f (suc i) n) p) parts) j (omega arith) (omega arith))

    pub all_listed : (i n : ℕ) → ((j : ℕ) → i ≤ j → j < i + n → p (f j) ≡ true) → all (listed f i n) p ≡ true
    unfolding listed
    all_listed i zero h = all_none p
    all_listed i (suc n) h =
        all_cons p (f i) (listed f (suc i) n)
        ∙ and_intro (h i (omega arith) (omega arith)) (all_listed (suc i) n (λ j a b. h j (omega arith) (omega arith)))

    -- one that fails
    pub not_all_listed : (i n j : ℕ) → i ≤ j → j < i + n → p (f j) ≡ false → all (listed f i n) p ≡ false
    not_all_listed i n j a b e =
        eq-false_of_not-eq-true (λ h. false≢true (sym e ∙ listed_all i n h j a b))

    pub any_listed : (i n j : ℕ) → i ≤ j → j < i + n → p (f j) ≡ true → any (listed f i n) p ≡ true
    unfolding listed
    any_listed i zero j a b e = absurd (omega arith)
    any_listed i (suc n) j a b e =
        any_cons p (f i) (listed f (suc i) n)
        ∙ same_or_not i j
        (λ same. or_inl (p (f i)) (any (listed f (suc i) n) p) (ap (λ (k : ℕ). p (f k)) same ∙ e))
        (λ other. or_inr (p (f i)) (any (listed f (suc i) n) p) (any_listed (suc i) n j (omega arith) (omega arith) e))

    pub none_listed : (i n : ℕ) → ((j : ℕ) → i ≤ j → j < i + n → p (f j) ≡ false) → any (listed f i n) p ≡ false
    unfolding listed
    none_listed i zero h = any_none p
    none_listed i (suc n) h =
        any_cons p (f i) (listed f (suc i) n)
        ∙ ap₂ ◌||◌ (h i (omega arith) (omega arith)) (none_listed (suc i) n (λ j a b. h j (omega arith) (omega arith)))

-- ---- the distinct ones

module _ (g : ℕ) (gs : List ℕ) where
  pub distinct_repeat : any gs (eqb g) ≡ true → distinct (g ∷ gs) ≡ distinct gs
  unfolding distinct
  distinct_repeat h = rw (h, distinct)

  pub distinct_new : any gs (eqb g) ≡ false → distinct (g ∷ gs) ≡ g ∷ distinct gs
  unfolding distinct
  distinct_new h = rw (h, distinct)

-- they are those of the list, and no other
pub distinct_any : (g : ℕ) (gs : List ℕ) → any (distinct gs) (eqb g) ≡ any gs (eqb g)
unfolding distinct
distinct_any g [] = refl
distinct_any g (x ∷ gs) =
    true_or_false (any gs (eqb x))
    (λ e.
    ap (λ (l : List ℕ). any l (eqb g)) (distinct_repeat x gs e)
    ∙ distinct_any g gs
    ∙ same_truth (any gs (eqb g)) (any (x ∷ gs) (eqb g))
    (λ h. any_cons (eqb g) x gs ∙ or_inr (eqb g x) (any gs (eqb g)) h)
    (λ h.
    Or.elim (So-prop (any gs (eqb g))) ((or-eq-true_iff (eqb g x) (any gs (eqb g))).0 (sym (any_cons (eqb g) x gs) ∙ h))
    (λ i. ap (λ (k : ℕ). any gs (eqb k)) (eqb-true g x i) ∙ e)
    (λ i. i)))
    (λ e.
    ap (λ (l : List ℕ). any l (eqb g)) (distinct_new x gs e)
    ∙ any_cons (eqb g) x (distinct gs)
    ∙ ap (λ (b : Bool). eqb g x || b) (distinct_any g gs)
    ∙ sym (any_cons (eqb g) x gs))

pub distinct_few : (gs : List ℕ) → length (distinct gs) ≤ length gs
unfolding distinct
distinct_few [] = omega arith
distinct_few (x ∷ gs) =
    true_or_false (any gs (eqb x))
    (λ e. omega (arith, ap (λ (l : List ℕ). length l) (distinct_repeat x gs e), distinct_few gs))
    (λ e. omega (arith, ap (λ (l : List ℕ). length l) (distinct_new x gs e), distinct_few gs))

-- ---- what is shown

pub shown_state_length : (now : ℕ) (e : PageEntry) → length (shown_state now e) ≡ shown_size
unfolding shown_state
shown_state_length now e = ap suc (time_left_bytes_length _ e)

shown_state_are : (now : ℕ) (e : PageEntry) → AreBytes (shown_state now e)
unfolding shown_state
shown_state_are now e = below_cons 256 _ _ (state_number_byte _) (time_left_bytes_are _ e)

-- γ is any proper geometry
module _ {γ : Geometry} (σ : Proper γ) (s : Box) (now : ℕ) where
  -- what is shown for one block
  abbrev of : ℕ → List ℕ
  of a = shown_state now (current_entry γ s a)

  pub shown_states_length : (bs : List ℕ) → length (shown_states γ s now bs) ≡ shown_size * length bs
  unfolding shown_states flat_map
  shown_states_length [] = refl
  shown_states_length (a ∷ bs) =
      length-append (of a) (flat_map of bs) ∙ omega (arith, shown_state_length now (current_entry γ s a), shown_states_length bs)

  pub shown_states_are : (bs : List ℕ) → AreBytes (shown_states γ s now bs)
  unfolding shown_states flat_map
  shown_states_are [] = below_none 256 (lit< tt)
  shown_states_are (a ∷ bs) = below_append 256 (of a) (flat_map of bs) (shown_state_are now (current_entry γ s a)) (shown_states_are bs)

  module _ (f : ℕ → ℕ) where
    -- number k of the list has its own bytes
    pub shown_states_part : (i n k : ℕ) → k < n → part (shown_states γ s now (listed f i n)) (shown_size * k) shown_size ≡ of (f (i + k))
    unfolding listed shown_states flat_map
    shown_states_part i zero k h = absurd (omega arith)
    shown_states_part i (suc n) zero h =
        part_first (of (f i)) (flat_map of (listed f (suc i) n)) shown_size (shown_state_length now (current_entry γ s (f i)))
        ∙ ap (λ (j : ℕ). of (f j)) (omega arith)
    shown_states_part i (suc n) (suc k) h =
        let rest = flat_map of (listed f (suc i) n) in
        let start : shown_size * suc k ≡ length (of (f i)) + shown_size * k = omega (arith, shown_state_length now (current_entry γ s (f i))) in
        let next : suc i + k ≡ i + suc k = omega arith in
        ap (λ (j : ℕ). part (of (f i) ++ rest) j shown_size) start
        ∙ part_right (of (f i)) rest (shown_size * k) shown_size
        ∙ shown_states_part (suc i) n k (omega arith)
        ∙ ap (λ (j : ℕ). of (f j)) next

    -- and a list with these bytes for each number is what is shown
    shown_from : (i n : ℕ) (l : List ℕ) → length l ≡ shown_size * n
        → ((k : ℕ) → k < n → part l (shown_size * k) shown_size ≡ of (f (i + k))) → l ≡ shown_states γ s now (listed f i n)
    unfolding part listed shown_states flat_map
    shown_from i zero [] e h = refl
    shown_from i zero (x ∷ l) e h = absurd (omega arith)
    shown_from i (suc n) l e h =
        let first : take shown_size l ≡ of (f i) = h 0 (omega arith) ∙ ap (λ (j : ℕ). of (f j)) (omega arith) in
        let rest : (k : ℕ) → k < n → part (drop shown_size l) (shown_size * k) shown_size ≡ of (f (suc i + k)) =
        λ k b.
        let at : shown_size + shown_size * k ≡ shown_size * suc k = omega arith in
        let next : i + suc k ≡ suc i + k = omega arith in
        ap (take shown_size) (drop-drop (shown_size * k) shown_size l)
        ∙ ap (λ (j : ℕ). part l j shown_size) at
        ∙ h (suc k) (omega arith)
        ∙ ap (λ (j : ℕ). of (f j)) next in
        sym (take-append-drop shown_size l)
        ∙ ap₂ (λ (x y : List ℕ). x ++ y) first (shown_from (suc i) n (drop shown_size l) (omega (arith, length-drop shown_size l)) rest)

    pub shown_states_of : (n : ℕ) (l : List ℕ) → length l ≡ shown_size * n
        → ((k : ℕ) → k < n → part l (shown_size * k) shown_size ≡ of (f k)) → l ≡ shown_states γ s now (listed f 0 n)
    shown_states_of n l e h =
        shown_from 0 n l e (λ k b. let same : k ≡ 0 + k = omega arith in h k b ∙ ap (λ (j : ℕ). of (f j)) same)
