-- Laws of a line read byte by byte against its form: what is kept stands for the text that is read, and what is refused is malformed,
-- whatever follows. Assumes nothing.
use mathlib.Core.Path.{◌≡◌, refl, ap, ap₂, sym, subst, ◌∙◌}
use mathlib.Core.Bool.{Bool, true, false, ◌&&◌, ◌||◌, or-true, true≢false}
use mathlib.Mathlib.Data.Bool.Basic.{and_elim_left, and_elim_right}
use mathlib.Core.List.{List, [], ◌∷◌, ◌++◌, append-nil}
use Prim.Native.Nat.{ℕ, zero, suc, ◌+◌, ◌-◌, ◌*◌, ◌≤◌, ◌<◌}
use native.Mathlib.Omega.{arith}
use borrow.Author.Tests.{eqb-true, eqb-false, ne_eqb, ltb-true, ltb-false, leb-true, leb-false, lt-ltb, le-leb}
use lib.Dec.{eqb, ltb, leb}
use lib.ListN.{length}
use lib.Seq.{append_snoc}
use Rattle.std.specs.Prelude.{Option, Some, None}
use Rattle.decimal.specs.Decimal.{zero_digit, decimal, spelled, spelled_after}
use Rattle.decimal.proofs.DecimalLaw.{decimal_one, decimal_digit, spelled_decimal}
use Rattle.script_lines.specs.declared.Line.{Line}
use Rattle.script_lines.specs.declared.Values.{Values}
use Rattle.script_lines.specs.Syntax.{space, fields, most_value, is_value, parsed}
use Rattle.script_lines.specs.Reading.{blank, after_space, after_digit, after_byte, read_on, judged, verdict}
use Rattle.script_lines.proofs.CutLaw.{Without, cut_at, cut_field, cut_separator, cut_some}
use Rattle.script_lines.proofs.ReadingLaw.{wrong_stays}
use Rattle.script_lines.proofs.FieldLaw.{decimal_without, empty_no, other_no, above_no, leading_no}
use Rattle.script_lines.proofs.SyntaxLaw.{ended, ended_more, malformed_field, malformed_behind, malformed_many, four_right}

-- ---- what is kept of a line

-- the value behind the last space, if begun
abbrev begun_text : Bool → ℕ → List ℕ
begun_text true n = decimal n
begun_text false n = []

abbrev text_of : Line → List ℕ
text_of l = begun_text l.begun l.last

-- the values before it: the last `count` of three
abbrev Stands : List ℕ → ℕ → ℕ → ℕ → ℕ → Type 0
Stands [] count first second third = count ≡ 0
Stands (c ∷ []) count first second third = (count ≡ 1) × (third ≡ c)
Stands (b ∷ c ∷ []) count first second third = (count ≡ 2) × (second ≡ b) × (third ≡ c)
Stands (a ∷ b ∷ c ∷ []) count first second third = (count ≡ 3) × (first ≡ a) × (second ≡ b) × (third ≡ c)
Stands (a ∷ b ∷ c ∷ d ∷ vs) count first second third = ⊥

record Kept (vs : List ℕ) (l : Line) : Type 0 where
  stands : Stands vs l.count l.first l.second l.third
  first : l.first ≤ most_value
  second : l.second ≤ most_value
  third : l.third ≤ most_value
  last : l.last ≤ most_value
  fresh : l.begun ≡ false → l.last ≡ 0

stands_count : (vs : List ℕ) (n a b c : ℕ) → Stands vs n a b c → n ≡ length vs
stands_count [] n a b c s = s
stands_count (z ∷ []) n a b c s = s.0
stands_count (y ∷ z ∷ []) n a b c s = s.0
stands_count (x ∷ y ∷ z ∷ []) n a b c s = s.0
stands_count (w ∷ x ∷ y ∷ z ∷ vs) n a b c s = absurd s

stands_three : (vs : List ℕ) (n a b c : ℕ) → Stands vs n a b c → n ≡ 3 → vs ≡ a ∷ b ∷ c ∷ []
stands_three [] n a b c s e = absurd (omega arith)
stands_three (z ∷ []) n a b c s e = absurd (omega arith)
stands_three (y ∷ z ∷ []) n a b c s e = absurd (omega arith)
stands_three (x ∷ y ∷ z ∷ []) n a b c s e = cc
stands_three (w ∷ x ∷ y ∷ z ∷ vs) n a b c s e = absurd s

stands_more : (vs : List ℕ) (n a b c d : ℕ) → Stands vs n a b c → n < 3 → Stands (vs ++ (d ∷ [])) (n + 1) b c d
stands_more [] n a b c d s h = (omega arith, refl)
stands_more (z ∷ []) n a b c d s h = (omega arith, s.1, refl)
stands_more (y ∷ z ∷ []) n a b c d s h = (omega arith, s.1, s.2, refl)
stands_more (x ∷ y ∷ z ∷ []) n a b c d s h = absurd (omega arith)
stands_more (w ∷ x ∷ y ∷ z ∷ vs) n a b c d s h = absurd s

kept_count : (vs : List ℕ) (l : Line) → Kept vs l → l.count ≡ length vs
kept_count vs l k = stands_count vs l.count l.first l.second l.third k.stands

text_without : (t : Bool) (n : ℕ) → Without space (begun_text t n)
text_without true n = decimal_without n
text_without false n = tt

text_spelled : (t : Bool) (n : ℕ) → (t ≡ false → n ≡ 0) → spelled (begun_text t n) ≡ n
unfolding spelled_after
text_spelled true n h = spelled_decimal n
text_spelled false n h = sym (h refl)

-- ---- a step

data Step (vs : List ℕ) (l : Line) (b : ℕ) : Type 0 where
  goes : (vs' : List ℕ) (l' : Line) → after_byte l b ≡ Some l' → Kept vs' l'
      → ((y : List ℕ) → ended vs' (text_of l' ++ y) ≡ ended vs (text_of l ++ (b ∷ y))) → Step vs l b
  stops : after_byte l b ≡ None → ((y : List ℕ) → parsed (ended vs (text_of l ++ (b ∷ y))) ≡ None) → Step vs l b

abbrev spaced : Line → Line
spaced l = record { count = l.count + 1; first = l.second; second = l.third; third = l.last; begun = false; last = 0 }

spaced_text : (vs : List ℕ) (l : Line) → l.begun ≡ true → (y : List ℕ) → ended (vs ++ (l.last ∷ [])) y ≡ ended vs (text_of l ++ (space ∷ y))
spaced_text vs l e y = ended_more vs l.last y ∙ ap (λ (t : Bool). ended vs (begun_text t l.last ++ (space ∷ y))) (sym e)

space_step : (vs : List ℕ) (l : Line) → Kept vs l → Step vs l space
unfolding after_byte after_space
space_step vs l k = go l.begun refl (ltb l.count 3) refl
  where
    on : (t : Bool) → (l.begun && ltb l.count 3) ≡ t → after_byte l space ≡ elim t [ true ↦ Some (spaced l) | false ↦ None ]
    on t e = ap (λ (u : Bool). elim u [ true ↦ Some (spaced l) | false ↦ None ]) e

    go : (t : Bool) → l.begun ≡ t → (c : Bool) → ltb l.count 3 ≡ c → Step vs l space
    go true e true f =
        goes (vs ++ (l.last ∷ [])) (spaced l) (on true (ap₂ ◌&&◌ e f))
        (record {
          stands = stands_more vs l.count l.first l.second l.third l.last k.stands (ltb-true l.count 3 f);
          first = k.second;
          second = k.third;
          third = k.last;
          last = omega arith;
          fresh = λ z. refl;
        })
        (spaced_text vs l e)
    go true e false f =
        stops (on false (ap₂ ◌&&◌ e f))
        (λ y.
        ap (λ (t : Bool). parsed (ended vs (begun_text t l.last ++ (space ∷ y)))) e
        ∙ malformed_many vs (decimal l.last ++ (space ∷ y)) (decimal l.last ∷ fields y)
        (cut_at space ([] ∷ []) (decimal l.last) y (decimal_without l.last))
        (λ z. omega (arith, ltb-false l.count 3 f, kept_count vs l k, cut_some space y)))
    go false e c f =
        stops (on false (ap (λ (t : Bool). t && ltb l.count 3) e))
        (λ y.
        ap (λ (t : Bool). parsed (ended vs (begun_text t l.last ++ (space ∷ y)))) e
        ∙ malformed_field vs (space ∷ y) [] (fields y) (cut_separator space ([] ∷ []) y) empty_no)

abbrev grown : Line → ℕ → Line
grown l d =
    record { count = l.count; first = l.first; second = l.second; third = l.third; begun = true; last = l.last * 10 + d }

-- a digit behind the value begun, unless that is 0
grown_text : (t : Bool) (n b : ℕ) → zero_digit ≤ b → b < zero_digit + 10 → (t ≡ true → n ≡ 0 → ⊥) → (t ≡ false → n ≡ 0)
    → decimal (n * 10 + (b - zero_digit)) ≡ begun_text t n ++ (b ∷ [])
grown_text true n b h g some none =
    decimal_digit n (b - zero_digit) (one n (some refl)) (omega arith) ∙ ap (λ (x : ℕ). decimal n ++ (x ∷ [])) (omega arith)
  where
    one : (m : ℕ) → (m ≡ 0 → ⊥) → 1 ≤ m
    one zero e = absurd (e refl)
    one (suc m) e = omega arith
grown_text false n b h g some none =
    let z : n ≡ 0 = none refl in
    decimal_one (n * 10 + (b - zero_digit)) (omega arith) ∙ ap (λ (x : ℕ). x ∷ []) (omega arith)

module _ (vs : List ℕ) (l : Line) (b : ℕ) (k : Kept vs l) (other : b ≡ space → ⊥) where
  stopped : after_byte l b ≡ None → ((u : List ℕ) → is_value (text_of l ++ (b ∷ u)) ≡ false) → Step vs l b
  stopped e none = stops e (λ y. malformed_behind vs (text_of l) b y (text_without l.begun l.last) other none)

  digit_step : zero_digit ≤ b → b < zero_digit + 10 → Step vs l b
  unfolding after_byte after_digit
  digit_step low high = go l.begun refl (eqb l.last 0) refl (ltb most_value (l.last * 10 + (b - zero_digit))) refl
    where
      is : after_byte l b ≡ after_digit l (b - zero_digit)
      is =
          ap₂
          (λ (s t : Bool).
          elim s [ true ↦ after_space l | false ↦ elim t [ true ↦ after_digit l (b - zero_digit) | false ↦ None ] ])
          (ne_eqb b space other)
          (ap₂ ◌&&◌ (le-leb zero_digit b low) (lt-ltb (b - zero_digit) 10 (omega arith)))

      on : (t : Bool) → ((l.begun && eqb l.last 0) || ltb most_value (l.last * 10 + (b - zero_digit))) ≡ t
          → after_byte l b ≡ elim t [ true ↦ None | false ↦ Some (grown l (b - zero_digit)) ]
      on t e = is ∙ ap (λ (u : Bool). elim u [ true ↦ None | false ↦ Some (grown l (b - zero_digit)) ]) e

      going : ltb most_value (l.last * 10 + (b - zero_digit)) ≡ false → (l.begun && eqb l.last 0) ≡ false
          → (l.begun ≡ true → l.last ≡ 0 → ⊥) → Step vs l b
      going m z some =
          goes vs (grown l (b - zero_digit)) (on false (ap₂ ◌||◌ z m))
          (record {
            stands = k.stands;
            first = k.first;
            second = k.second;
            third = k.third;
            last = ltb-false most_value (l.last * 10 + (b - zero_digit)) m;
            fresh = λ e. absurd (true≢false e);
          })
          (λ y.
          ap (λ (x : List ℕ). ended vs (x ++ y)) (grown_text l.begun l.last b low high some k.fresh)
          ∙ ap (ended vs) (append_snoc (text_of l) b y))

      go : (t : Bool) → l.begun ≡ t → (z : Bool) → eqb l.last 0 ≡ z → (m : Bool) → ltb most_value (l.last * 10 + (b - zero_digit)) ≡ m
          → Step vs l b
      go t e z f true m =
          stopped (on true (ap (λ (x : Bool). (l.begun && eqb l.last 0) || x) m ∙ or-true (l.begun && eqb l.last 0)))
          (λ u.
          above_no (text_of l) b u
          (omega (arith, ltb-true most_value (l.last * 10 + (b - zero_digit)) m, text_spelled l.begun l.last k.fresh)))
      go true e true f false m =
          stopped (on true (ap₂ ◌||◌ (ap₂ ◌&&◌ e f) m))
          (λ u.
          ap₂ (λ (t : Bool) (n : ℕ). is_value (begun_text t n ++ (b ∷ u))) e (eqb-true l.last 0 f) ∙ leading_no b u)
      go true e false f false m = going m (ap₂ ◌&&◌ e f) (λ _ q. eqb-false l.last 0 f q)
      go false e z f false m = going m (ap (λ (t : Bool). t && eqb l.last 0) e) (λ q. absurd (true≢false (sym q ∙ e)))

  other_step : (zero_digit ≤ b → b < zero_digit + 10 → ⊥) → Step vs l b
  unfolding after_byte
  other_step n = stopped is (λ u. other_no (text_of l) b u n)
    where
      none : (t : Bool) → (leb zero_digit b && ltb (b - zero_digit) 10) ≡ t → t ≡ false
      none true e =
          absurd
          (n (leb-true zero_digit b (and_elim_left (leb zero_digit b) (ltb (b - zero_digit) 10) e))
          (omega (
            arith,
            ltb-true (b - zero_digit) 10 (and_elim_right (leb zero_digit b) (ltb (b - zero_digit) 10) e),
          )))
      none false e = refl

      is : after_byte l b ≡ None
      is =
          ap₂
          (λ (s t : Bool).
          elim s [ true ↦ after_space l | false ↦ elim t [ true ↦ after_digit l (b - zero_digit) | false ↦ None ] ])
          (ne_eqb b space other)
          (none (leb zero_digit b && ltb (b - zero_digit) 10) refl)

step : (vs : List ℕ) (l : Line) (b : ℕ) → Kept vs l → Step vs l b
step vs l b k = go (eqb b space) refl (leb zero_digit b) refl (ltb b (zero_digit + 10)) refl
  where
    go : (s : Bool) → eqb b space ≡ s → (t : Bool) → leb zero_digit b ≡ t → (u : Bool) → ltb b (zero_digit + 10) ≡ u → Step vs l b
    go true e t f u g = subst (λ (x : ℕ). Step vs l x) (sym (eqb-true b space e)) (space_step vs l k)
    go false e true f true g =
        digit_step vs l b k (eqb-false b space e) (leb-true zero_digit b f) (ltb-true b (zero_digit + 10) g)
    go false e true f false g = other_step vs l b k (eqb-false b space e) (λ low high. omega (arith, ltb-false b (zero_digit + 10) g))
    go false e false f u g = other_step vs l b k (eqb-false b space e) (λ low high. omega (arith, leb-false zero_digit b f))

-- ---- the end

line_end_lem : (vs : List ℕ) (l : Line) → Kept vs l → judged l ≡ parsed (ended vs (text_of l))
unfolding judged
line_end_lem vs l k = go l.begun refl (eqb l.count 3) refl
  where
    values : Option Values
    values = Some (record { kind = l.first; block = l.second; time = l.third; value = l.last })

    on : (t : Bool) → (l.begun && eqb l.count 3) ≡ t → judged l ≡ elim t [ true ↦ values | false ↦ None ]
    on t e = ap (λ (u : Bool). elim u [ true ↦ values | false ↦ None ]) e

    ends : (t : Bool) → l.begun ≡ t → parsed (ended vs (begun_text t l.last)) ≡ parsed (ended vs (text_of l))
    ends t e = ap (λ (u : Bool). parsed (ended vs (begun_text u l.last))) (sym e)

    go : (t : Bool) → l.begun ≡ t → (c : Bool) → eqb l.count 3 ≡ c → judged l ≡ parsed (ended vs (text_of l))
    go true e true f =
        let three = stands_three vs l.count l.first l.second l.third k.stands (eqb-true l.count 3 f) in
        on true (ap₂ ◌&&◌ e f)
        ∙ sym (four_right l.first l.second l.third l.last k.first k.second k.third k.last)
        ∙ ap (λ (x : List ℕ). parsed (ended x (decimal l.last))) (sym three)
        ∙ ends true e
    go true e false f =
        on false (ap₂ ◌&&◌ e f)
        ∙ sym
        (malformed_many vs (decimal l.last) (decimal l.last ∷ []) (cut_field space (decimal l.last) (decimal_without l.last))
        (λ z. eqb-false l.count 3 f (omega (arith, kept_count vs l k))))
        ∙ ends true e
    go false e c f =
        on false (ap (λ (t : Bool). t && eqb l.count 3) e)
        ∙ sym (malformed_field vs [] [] [] (cut_field space [] tt) empty_no)
        ∙ ends false e

-- ---- the whole line

line_on : (r vs : List ℕ) (l : Line) → Kept vs l → verdict (read_on (Some l) r) ≡ parsed (ended vs (text_of l ++ r))
unfolding read_on
line_on [] vs l k = line_end_lem vs l k ∙ ap (λ (x : List ℕ). parsed (ended vs x)) (sym (append-nil (text_of l)))
line_on (b ∷ r) vs l k = go (λ vs' l' k'. line_on r vs' l' k') (step vs l b k)
  where
    go : ((vs' : List ℕ) (l' : Line) → Kept vs' l' → verdict (read_on (Some l') r) ≡ parsed (ended vs' (text_of l' ++ r))) → Step vs l b
        → verdict (read_on (after_byte l b) r) ≡ parsed (ended vs (text_of l ++ (b ∷ r)))
    go more (goes vs' l' e k' same) = ap (λ (n : Option Line). verdict (read_on n r)) e ∙ more vs' l' k' ∙ ap parsed (same r)
    go more (stops e none) = ap (λ (n : Option Line). verdict (read_on n r)) e ∙ ap verdict (wrong_stays r) ∙ sym (none r)

pub line_verdict : (line : List ℕ) → verdict (read_on (Some blank) line) ≡ parsed line
line_verdict line =
    line_on line [] blank
    (record { stands = refl; first = omega arith; second = omega arith; third = omega arith; last = omega arith; fresh = λ e. refl })
