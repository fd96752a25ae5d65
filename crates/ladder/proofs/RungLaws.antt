-- Running the rungs: one rung's turns, and the loop over them.
-- Assumes nothing.
use Prim.Native.Nat.{ℕ, suc, ◌+◌, ◌-◌, ◌≤◌, ◌<◌}
use mathlib.Core.Path.{◌≡◌, refl, sym, ap, ◌∙◌, subst}
use mathlib.Core.List.{List, [], ◌∷◌, ◌++◌, append_assoc}
use native.Mathlib.Omega.{arith}
use mir.Val.{bool_byte}
use lib.ListN.{length, drop, set, length-append, length-drop, length-set}
use lib.Seq.{drop-drop, drop-append_seam}
use Rattle.base.specs.Lists.{All, each}
use Rattle.rules.specs.Kind
use Rattle.rules.specs.Record.{number, two_bytes}
use Rattle.rules.specs.Formula.{value}
use Rattle.rules.specs.Sheet.{Rung}
use Rattle.rules.specs.WriteSheet.{write_formula, write_rung}
use Rattle.records.specs.Found.{number_at}
use Rattle.formulas.proofs.ReadBack.{two_bytes_lem}
use Rattle.ladder.specs.declared.Evaluated.{Evaluated}
use Rattle.ladder.specs.Values.{on, bit_of}
use Rattle.ladder.specs.Evaluate.{bounds_for, FormulaAt, EvaluatedAs, Evaluates}
use Rattle.ladder.specs.Scan.{closed_rung, run_places, Runnable, RungAt, RunsRung, RungsAt, RanRungs, RunsRungs}
use Rattle.ladder.proofs.StackLaws.{byte_is}

-- bytes past the front
pub drop_front : (s : List ℕ) (p : ℕ) (x y : List ℕ) → drop p s ≡ x ++ y → drop (p + length x) s ≡ y
drop_front s p x y e = sym (drop-drop (length x) p s) ∙ ap (drop (length x)) e ∙ drop-append_seam x y

module _ (s : List ℕ) (p : ℕ) (inputs k w : List ℕ) where
  -- a rung's formula stands first, and RUNG closes it
  pub formula_first : RungAt s p (bounds_for inputs k w) → FormulaAt s p (bounds_for inputs k w)
  unfolding write_rung
  formula_first h = record {
    formula = h.rung.formula;
    rest = (Kind.RUNG ∷ two_bytes h.rung.coil) ++ h.rest;
    bytes = h.bytes ∙ append_assoc (write_formula h.rung.formula) (Kind.RUNG ∷ two_bytes h.rung.coil) h.rest;
    closes = refl;
    fits = h.runnable.fits;
  }

  module _ (w' : List ℕ) (e : Evaluated) (v : Evaluates s p inputs k w w' e) (m c : ℕ) (n : m ≡ number_at s e.at 1) (o : c ≡ m) where
    module _ (h : RungAt s p (bounds_for inputs k w)) where
      is : EvaluatedAs h.rung.formula p inputs k w w' e
      unfolding formula_first
      is = v (formula_first h)

      after : drop e.at s ≡ (Kind.RUNG ∷ two_bytes h.rung.coil) ++ h.rest
      unfolding formula_first
      after = ap (λ (x : ℕ). drop x s) is.ends ∙ drop_front s p (write_formula h.rung.formula) ((Kind.RUNG ∷ two_bytes h.rung.coil) ++ h.rest) (formula_first h).bytes

      pub coil_is : c ≡ h.rung.coil
      coil_is = o ∙ n ∙ ap (λ (x : List ℕ). number x 1) after ∙ two_bytes_lem h.rung.coil

      pub coil_there : c < length k
      coil_there = rw coil_is h.runnable.named

      pub end_inside : e.at + 3 ≤ length s
      end_inside =
          let l : length s - e.at ≡ suc (suc (suc (length h.rest))) = sym (length-drop e.at s) ∙ ap length after in
          omega arith

      pub end_fits : length s < 18446744073709551616 → e.at + 3 < 18446744073709551616
      end_fits l = let b = end_inside in omega arith

    pub ran_rung : (b : ℕ) → b ≡ bool_byte e.on → RunsRung s p inputs k (set k c b) w w' (e.at + 3)
    unfolding closed_rung write_rung
    ran_rung b q h =
        let i = is h in
        let m : length (write_formula h.rung.formula ++ (Kind.RUNG ∷ two_bytes h.rung.coil)) ≡ length (write_formula h.rung.formula) + 3 = length-append (write_formula h.rung.formula) (Kind.RUNG ∷ two_bytes h.rung.coil) in
        let z = i.ends in
        record { ends = omega arith; coils = rw (coil_is h, q, byte_is e.on, i.is); long = i.long }

pub ruleset run_rung_cases = (formula_first, coil_there, end_fits, ran_rung)

pub closed_length : (inputs k : List ℕ) (r : Rung) → length (closed_rung inputs k r) ≡ length k
unfolding closed_rung
closed_length inputs k r = length-set k r.coil (bit_of (value (on inputs) (on k) r.formula))

-- the rungs that are left, and running them gives what running all gives
pub record Running (s : List ℕ) (from n : ℕ) (inputs k₀ w₀ : List ℕ) (h : RungsAt s from n (bounds_for inputs k₀ w₀)) (k w : List ℕ) (at i : ℕ) : Type 0 where
  pub left : List Rung
  pub bytes : drop at s ≡ each write_rung left ++ h.rest
  pub count : i + length left ≡ n
  pub placed : at + length (each write_rung left) ≡ from + length (each write_rung h.rungs)
  pub runnable : All (Runnable (bounds_for inputs k₀ w₀)) left
  pub runs : run_places inputs k left ≡ run_places inputs k₀ h.rungs
  pub long_coils : length k ≡ length k₀
  pub long_stack : length w ≡ length w₀

abbrev pub Rounds : List ℕ → ℕ → ℕ → List ℕ → List ℕ → List ℕ → List ℕ → List ℕ → ℕ → ℕ → Type 0
Rounds s from n inputs k₀ w₀ k w at i = (h : RungsAt s from n (bounds_for inputs k₀ w₀)) → Running s from n inputs k₀ w₀ h k w at i

module _ (s : List ℕ) (from n : ℕ) (inputs k₀ w₀ : List ℕ) where
  pub first_round : Rounds s from n inputs k₀ w₀ k₀ w₀ from 0
  first_round h = record {
    left = h.rungs;
    bytes = h.bytes;
    count = let c = h.count in omega arith;
    placed = refl;
    runnable = h.runnable;
    runs = refl;
    long_coils = refl;
    long_stack = refl;
  }

  module _ (k w : List ℕ) (at i : ℕ) (t : Rounds s from n inputs k₀ w₀ k w at i) where
    pub all_run : n ≤ i → RunsRungs s from n inputs k₀ k w₀ w at
    unfolding run_places
    all_run l h = go (t h).left refl
      where
        go : (x : List Rung) → (t h).left ≡ x → RanRungs h.rungs from inputs k₀ k w₀ w at
        go [] q =
            let z : length (each write_rung (t h).left) ≡ 0 = rw q in
            let y = (t h).placed in
            record {
              ends = omega arith;
              coils = subst (λ (x : List Rung). run_places inputs k x ≡ run_places inputs k₀ h.rungs) q (t h).runs;
              long = (t h).long_stack;
            }
        go (r ∷ rs) q =
            let z : length (t h).left ≡ suc (length rs) = rw q in
            let y = (t h).count in
            absurd (omega arith)

    module _ (l : i < n) (h : RungsAt s from n (bounds_for inputs k₀ w₀)) where
      -- there is a rung left
      pub record Here : Type 0 where
        pub r : Rung
        pub rs : List Rung
        pub is : (t h).left ≡ r ∷ rs

      here : Here
      here = go (t h).left refl
        where
          go : (x : List Rung) → (t h).left ≡ x → Here
          go [] q =
              let z : length (t h).left ≡ 0 = rw q in
              let y = (t h).count in
              absurd (omega arith)
          go (r ∷ rs) q = record { r = r; rs = rs; is = q }

      ahead : (x : Here) → drop at s ≡ write_rung x.r ++ (each write_rung x.rs ++ h.rest)
      ahead x = (t h).bytes ∙ ap (λ (y : List Rung). each write_rung y ++ h.rest) x.is ∙ append_assoc (write_rung x.r) (each write_rung x.rs) h.rest

      can : (x : Here) → Runnable (bounds_for inputs k₀ w₀) x.r × All (Runnable (bounds_for inputs k₀ w₀)) x.rs
      can x = subst (λ (y : List Rung). All (Runnable (bounds_for inputs k₀ w₀)) y) x.is (t h).runnable

      pub rung_here : RungAt s at (bounds_for inputs k w)
      rung_here =
          let x = here in
          record {
            rung = x.r;
            rest = each write_rung x.rs ++ h.rest;
            bytes = ahead x;
            runnable = rw ((t h).long_coils, (t h).long_stack) (can x).0;
          }

      round : (k' w' : List ℕ) (at' : ℕ) → RunsRung s at inputs k k' w w' at' → Running s from n inputs k₀ w₀ h k' w' at' (i + 1)
      unfolding rung_here run_places
      round k' w' at' f =
          let x = here in
          let g = f rung_here in
          let a : length (each write_rung (t h).left) ≡ length (write_rung x.r) + length (each write_rung x.rs) = ap (λ (y : List Rung). length (each write_rung y)) x.is ∙ length-append (write_rung x.r) (each write_rung x.rs) in
          let b : length (t h).left ≡ suc (length x.rs) = ap length x.is in
          let run : run_places inputs k (x.r ∷ x.rs) ≡ run_places inputs k₀ h.rungs = subst (λ (y : List Rung). run_places inputs k y ≡ run_places inputs k₀ h.rungs) x.is (t h).runs in
          record {
            left = x.rs;
            bytes = ap (λ (y : ℕ). drop y s) g.ends ∙ drop_front s at (write_rung x.r) (each write_rung x.rs ++ h.rest) (ahead x);
            count = let c = (t h).count in omega arith;
            placed = let c = (t h).placed in let d = g.ends in omega arith;
            runnable = (can x).1;
            runs = rw g.coils run;
            long_coils = ap length g.coils ∙ closed_length inputs k x.r ∙ (t h).long_coils;
            long_stack = g.long ∙ (t h).long_stack;
          }

    pub next_round : i < n → (k' w' : List ℕ) (at' : ℕ) → RunsRung s at inputs k k' w w' at' → Rounds s from n inputs k₀ w₀ k' w' at' (i + 1)
    next_round l k' w' at' f h = round l h k' w' at' f

    module _ (h : RungsAt s from n (bounds_for inputs k₀ w₀)) where
      pub still_coils : length k ≡ length k₀
      still_coils = (t h).long_coils

      pub still_stack : length w ≡ length w₀
      still_stack = (t h).long_stack

pub ruleset run_rungs_cases = (first_round, all_run, rung_here, next_round, still_coils, still_stack)
