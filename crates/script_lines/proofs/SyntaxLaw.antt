-- Laws of the form of a line: what is malformed, and the line of four values. Assumes nothing.
use mathlib.Core.Path.{◌≡◌, refl, ap, ap₂, sym, ◌∙◌, subst}
use mathlib.Core.Bool.{Bool, true, false, ◌&&◌, and-false, true≢false}
use mathlib.Mathlib.Data.Bool.Basic.{and_elim_left, and_elim_right}
use mathlib.Core.List.{List, [], ◌∷◌, ◌++◌, all}
use Prim.Native.Nat.{ℕ, ◌+◌, ◌≤◌}
use native.Mathlib.Omega.{arith}
use borrow.Author.Tests.{eqb-true, ne_eqb}
use lib.Dec.{eqb}
use lib.ListN.{length, get_or}
use Rattle.std.specs.Prelude.{Option, Some, None}
use Rattle.decimal.specs.Decimal.{decimal, spelled}
use Rattle.decimal.proofs.DecimalLaw.{spelled_decimal}
use Rattle.script_lines.specs.declared.Values.{Values}
use Rattle.script_lines.specs.Syntax.{space, fields, most_value, is_value, is_line, parsed}
use Rattle.script_lines.specs.Claims.{line_of, ValuesFit}
use Rattle.script_lines.proofs.CutLaw.{Without, cut_at, cut_field, cut_further, joined, joined_cut}
use Rattle.script_lines.proofs.FieldLaw.{decimal_without, value_yes, value_true, not_true_false, all_none, all_head, all_tail, all_more}

-- ---- a line by its fields

abbrev values_at : List (List ℕ) → Values
values_at fs =
    record { kind = spelled (get_or fs 0 []); block = spelled (get_or fs 1 []); time = spelled (get_or fs 2 []); value = spelled (get_or fs 3 []) }

abbrev of_test : Bool → List (List ℕ) → Option Values
of_test t fs = elim t [ true ↦ Some (values_at fs) | false ↦ None ]

abbrev is_form : List (List ℕ) → Bool
is_form fs = eqb (length fs) 4 && all fs is_value

abbrev of_fields : List (List ℕ) → Option Values
of_fields fs = of_test (is_form fs) fs

parsed_fields : (line : List ℕ) (fs : List (List ℕ)) → fields line ≡ fs → parsed line ≡ of_fields fs
unfolding parsed is_line
parsed_fields line fs e = ap of_fields e

malformed : (fs : List (List ℕ)) → is_form fs ≡ false → of_fields fs ≡ None
malformed fs e = ap (λ (t : Bool). of_test t fs) e

malformed_count : (fs : List (List ℕ)) → (length fs ≡ 4 → ⊥) → of_fields fs ≡ None
malformed_count fs n = malformed fs (ap (λ (t : Bool). t && all fs is_value) (ne_eqb (length fs) 4 n))

-- ---- values, each with a space behind it, in front of a text

abbrev pub ended : List ℕ → List ℕ → List ℕ
ended [] y = y
ended (v ∷ vs) y = decimal v ++ (space ∷ ended vs y)

abbrev ahead : List ℕ → List (List ℕ) → List (List ℕ)
ahead [] fs = fs
ahead (v ∷ vs) fs = decimal v ∷ ahead vs fs

pub ended_more : (vs : List ℕ) (v : ℕ) (y : List ℕ) → ended (vs ++ (v ∷ [])) y ≡ ended vs (decimal v ++ (space ∷ y))
ended_more [] v y = refl
ended_more (w ∷ vs) v y = ap (λ (t : List ℕ). decimal w ++ (space ∷ t)) (ended_more vs v y)

fields_ended : (vs y : List ℕ) → fields (ended vs y) ≡ ahead vs (fields y)
fields_ended [] y = refl
fields_ended (v ∷ vs) y =
    cut_at space ([] ∷ []) (decimal v) (ended vs y) (decimal_without v) ∙ ap (λ (fs : List (List ℕ)). decimal v ∷ fs) (fields_ended vs y)

ahead_length : (vs : List ℕ) (fs : List (List ℕ)) → length (ahead vs fs) ≡ length vs + length fs
ahead_length [] fs = omega arith
ahead_length (v ∷ vs) fs = omega (arith, ahead_length vs fs)

-- behind them a field that is no value
ahead_value : (vs : List ℕ) (f : List ℕ) (fs : List (List ℕ)) → all (ahead vs (f ∷ fs)) is_value ≡ true → is_value f ≡ true
ahead_value [] f fs e = all_head f fs e
ahead_value (v ∷ vs) f fs e = ahead_value vs f fs (all_tail (decimal v) (ahead vs (f ∷ fs)) e)

pub malformed_field : (vs y f : List ℕ) (fs : List (List ℕ)) → fields y ≡ f ∷ fs → is_value f ≡ false → parsed (ended vs y) ≡ None
malformed_field vs y f fs e n =
    parsed_fields (ended vs y) (ahead vs (f ∷ fs)) (fields_ended vs y ∙ ap (ahead vs) e)
    ∙ malformed (ahead vs (f ∷ fs)) (ap (λ (t : Bool). eqb (length (ahead vs (f ∷ fs))) 4 && t) none ∙ and-false (eqb (length (ahead vs (f ∷ fs))) 4))
  where
    none : all (ahead vs (f ∷ fs)) is_value ≡ false
    none =
        not_true_false (all (ahead vs (f ∷ fs)) is_value)
        (λ a. true≢false (sym (ahead_value vs f fs a) ∙ n))

-- where that field goes on, whatever follows
pub malformed_behind : (vs x : List ℕ) (b : ℕ) (y : List ℕ) → Without space x → (b ≡ space → ⊥) → ((u : List ℕ) → is_value (x ++ (b ∷ u)) ≡ false)
    → parsed (ended vs (x ++ (b ∷ y))) ≡ None
malformed_behind vs x b y w n none =
    let f = cut_further space ([] ∷ []) x b y w n in
    malformed_field vs (x ++ (b ∷ y)) (x ++ (b ∷ f.piece)) f.pieces f.same (none f.piece)

-- or another number of fields than four
pub malformed_many : (vs y : List ℕ) (fs : List (List ℕ)) → fields y ≡ fs → (length vs + length fs ≡ 4 → ⊥) → parsed (ended vs y) ≡ None
malformed_many vs y fs e n =
    parsed_fields (ended vs y) (ahead vs fs) (fields_ended vs y ∙ ap (ahead vs) e)
    ∙ malformed_count (ahead vs fs) (λ c. n (omega (arith, ahead_length vs fs)))

-- ---- the line of four values

pub four_right : (a b c d : ℕ) → a ≤ most_value → b ≤ most_value → c ≤ most_value → d ≤ most_value
    → parsed (ended (a ∷ b ∷ c ∷ []) (decimal d)) ≡ Some (record { kind = a; block = b; time = c; value = d })
four_right a b c d ha hb hc hd =
    parsed_fields (ended (a ∷ b ∷ c ∷ []) (decimal d)) fs
    (fields_ended (a ∷ b ∷ c ∷ []) (decimal d) ∙ ap (ahead (a ∷ b ∷ c ∷ [])) (cut_field space (decimal d) (decimal_without d)))
    ∙ ap (λ (t : Bool). of_test t fs) values
    ∙ rw (spelled_decimal a, spelled_decimal b, spelled_decimal c, spelled_decimal d)
  where
    fs : List (List ℕ)
    fs = decimal a ∷ decimal b ∷ decimal c ∷ decimal d ∷ []

    values : all fs is_value ≡ true
    values =
        all_more _ _ (value_yes a ha) (all_more _ _ (value_yes b hb) (all_more _ _ (value_yes c hc) (all_more _ _ (value_yes d hd) all_none)))

pub line_spelled : (v : Values) → ValuesFit v → parsed (line_of v) ≡ Some v
line_spelled v w = four_right v.kind v.block v.time v.value w.kind w.block w.time w.value

right_test : (t : Bool) (fs : List (List ℕ)) (v : Values) → of_test t fs ≡ Some v → (t ≡ true) × (values_at fs ≡ v)
right_test true fs v e = (refl, cc)
right_test false fs v e = let z : ◌≡◌ {A = ℕ} 0 1 = cc in absurd (omega arith)

-- four fields that are values are the decimals of what they spell
joined_values : (fs : List (List ℕ)) → length fs ≡ 4 → all fs is_value ≡ true → (joined space fs ≡ line_of (values_at fs)) × ValuesFit (values_at fs)
joined_values [] n e = absurd (omega arith)
joined_values (a ∷ []) n e = absurd (omega arith)
joined_values (a ∷ b ∷ []) n e = absurd (omega arith)
joined_values (a ∷ b ∷ c ∷ []) n e = absurd (omega arith)
joined_values (a ∷ b ∷ c ∷ d ∷ f ∷ fs) n e = absurd (omega arith)
joined_values (a ∷ b ∷ c ∷ d ∷ []) n e =
    let va = value_true a (all_head a (b ∷ c ∷ d ∷ []) e) in
    let eb = all_tail a (b ∷ c ∷ d ∷ []) e in
    let vb = value_true b (all_head b (c ∷ d ∷ []) eb) in
    let ec = all_tail b (c ∷ d ∷ []) eb in
    let vc = value_true c (all_head c (d ∷ []) ec) in
    let vd = value_true d (all_head d [] (all_tail c (d ∷ []) ec)) in (
      ap₂ (λ (x y : List ℕ). x ++ (space ∷ y)) va.same
          (ap₂ (λ (x y : List ℕ). x ++ (space ∷ y)) vb.same (ap₂ (λ (x y : List ℕ). x ++ (space ∷ y)) vc.same vd.same)),
      record { kind = va.within; block = vb.within; time = vc.within; value = vd.within },
    )

pub line_only : (line : List ℕ) (v : Values) → parsed line ≡ Some v → (line ≡ line_of v) × ValuesFit v
line_only line v e =
    let fs = fields line in
    let r = right_test (is_form fs) fs v (sym (parsed_fields line fs refl) ∙ e) in
    let four =
    joined_values fs (eqb-true (length fs) 4 (and_elim_left (eqb (length fs) 4) (all fs is_value) r.0))
    (and_elim_right (eqb (length fs) 4) (all fs is_value) r.0)
    in
    (sym (joined_cut space line) ∙ four.0 ∙ ap line_of r.1, subst ValuesFit r.1 four.1)
