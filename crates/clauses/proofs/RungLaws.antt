-- The loop over a sheet's rungs: the rungs that are left write, from here, what all of them write from the start.
-- Assumes nothing.
use Prim.Native.Nat.{ℕ, ◌+◌, ◌-◌, ◌*◌, ◌≤◌, ◌<◌}
use mathlib.Core.Path.{◌≡◌, refl, sym, ap, ◌∙◌, fun_ext}
use mathlib.Core.Bool.{Bool, true, false}
use mathlib.Core.List.{List, [], ◌∷◌, ◌++◌, append_assoc}
use native.Mathlib.Omega.{arith}
use lib.ListN.{length, get_or, drop, set, length-append, length-drop, length-set}
use lib.Seq.{drop-drop, drop_at, get_or-set_same, get_or-set_other}
use lib.Dec.{eqb}
use borrow.Author.Tests.{eqb-true, eqb-false}
use mir.Val.{Fits}
use mir.Syntax.{w64}
use Rattle.base.specs.Pick.{pick}
use Rattle.base.specs.Lists.{All, each}
use Rattle.rules.specs.Kind
use Rattle.rules.specs.Record.{two_bytes, number}
use Rattle.rules.specs.Formula.{Formula, Formula.leaf, Formula.inverse, Formula.both, Formula.either, size}
use Rattle.rules.specs.Sheet.{Rung, with}
use Rattle.rules.specs.ReadFormula.{Bounds}
use Rattle.rules.specs.WriteSheet.{write_formula, write_rung, sizes}
use Rattle.rules.specs.Clauses.{Vars, Clause, top, closing, defining, rung_clauses, after_rungs}
use Rattle.records.specs.Found.{number_at}
use Rattle.formulas.proofs.ReadBack.{two_bytes_lem}
use Rattle.clauses.specs.declared.Wrote.{Wrote}
use Rattle.clauses.specs.Emits.{emits}
use Rattle.clauses.specs.Stack.{vars_of}
use Rattle.clauses.specs.Formed.{Formed, FormulaAt, Written, FormulaWritten}
use Rattle.clauses.specs.Runged.{CoilAt, Runged, RungsAt, Closed, RungsWritten}
use Rattle.clauses.proofs.EmitLaws.{emits_append}
use Rattle.clauses.proofs.FlatLaws.{few_clauses}
use Rattle.clauses.proofs.UniqueLaws.{same_formula}

-- a rung's bytes, its formula's first
rung_bytes : (r : Rung) (rs : List Rung) (rest : List ℕ)
    → each write_rung (r ∷ rs) ++ rest ≡ write_formula r.formula ++ ((Kind.RUNG ∷ two_bytes r.coil) ++ (each write_rung rs ++ rest))
unfolding write_rung
rung_bytes r rs rest = simp append_assoc

same_rungs : (rs rs' : List Rung) (rest rest' : List ℕ) → length rs ≡ length rs' → each write_rung rs ++ rest ≡ each write_rung rs' ++ rest'
    → (rs ≡ rs') × (rest ≡ rest')
same_rungs [] [] rest rest' l h = (refl, h)
same_rungs [] (r ∷ rs) rest rest' l h = absurd (omega arith)
same_rungs (r ∷ rs) [] rest rest' l h = absurd (omega arith)
same_rungs (r ∷ rs) (r' ∷ rs') rest rest' l h =
    let a : write_formula r.formula ++ ((Kind.RUNG ∷ two_bytes r.coil) ++ (each write_rung rs ++ rest))
    ≡ write_formula r'.formula ++ ((Kind.RUNG ∷ two_bytes r'.coil) ++ (each write_rung rs' ++ rest')) =
    sym (rung_bytes r rs rest) ∙ h ∙ rung_bytes r' rs' rest' in
    let f = same_formula r.formula r'.formula _ _ refl refl a in
    let c : r.coil ≡ r'.coil = sym (two_bytes_lem r.coil) ∙ ap (λ (x : List ℕ). number x 1) f.1 ∙ two_bytes_lem r'.coil in
    let q = same_rungs rs rs' rest rest' (omega arith) (ap (drop 3) f.1) in
    (λ i. record { coil = c i; formula = f.0 i } ∷ q.0 i, q.1)

-- a coil's variable set in the map
vars_set : (map : List ℕ) (base c v : ℕ) → c < length map
    → vars_of (set map c v) base ≡ record { input = λ j. base + j; coil = with (λ j. get_or map j 0) c v }
unfolding with
vars_set map base c v h = λ i. record { input = λ j. base + j; coil = fun_ext at_each i }
  where
    at_each : (j : ℕ) → get_or (set map c v) j 0 ≡ pick (eqb j c) v (get_or map j 0)
    at_each j = go (eqb j c) refl
      where
        go : (b : Bool) → eqb j c ≡ b → get_or (set map c v) j 0 ≡ pick b v (get_or map j 0)
        go true e = let z : j ≡ c = eqb-true j c e in rw z (get_or-set_same map c v 0 h)
        go false e = get_or-set_other map c j v 0 (eqb-false j c e)

small_set : (map : List ℕ) (c v : ℕ) → c < length map → v < 32768 → ((j : ℕ) → get_or map j 0 < 32768) → (j : ℕ) → get_or (set map c v) j 0 < 32768
small_set map c v h l f j = go (eqb j c) refl
  where
    go : (b : Bool) → eqb j c ≡ b → get_or (set map c v) j 0 < 32768
    go true e = let z : j ≡ c = eqb-true j c e in rw (z, get_or-set_same map c v 0 h) l
    go false e = rw (get_or-set_other map c j v 0 (eqb-false j c e)) (f j)

pub some_size : (f : Formula) → 1 ≤ size f
unfolding size
some_size (leaf x) = omega arith
some_size (inverse f) = omega arith
some_size (both f g) = omega arith
some_size (either f g) = omega arith

-- rs are left
pub record Running (s : List ℕ) (at rungs : ℕ) (map₀ : List ℕ) (base g : ℕ) (stack₀ out₀ : List ℕ) (n : ℕ) (map stack out : List ℕ) (place next count i : ℕ) : Type 0 where
  pub bounds : Bounds
  pub all : List Rung
  pub rest : List ℕ
  pub runged : Runged s at rungs map₀ base g stack₀ n bounds all rest
  pub rs : List Rung
  pub long_map : length map ≡ length map₀
  pub long : length stack ≡ length stack₀
  pub long_out : length out ≡ length out₀
  pub left : length rs + i ≡ rungs
  pub bytes : drop place s ≡ each write_rung rs ++ rest
  pub fits : All (λ (r : Rung). Rattle.rules.specs.WriteSheet.Fits bounds r.formula) rs
  pub named : All (λ (r : Rung). r.coil < bounds.coils) rs
  pub small : (j : ℕ) → get_or map j 0 < 32768
  pub few : count + 3 * sizes rs ≤ n + 3 * sizes all
  pub place_is : place + length (each write_rung rs) ≡ at + length (each write_rung all)
  pub next_is : next + sizes rs ≡ g + sizes all
  pub count_is : count + length (rung_clauses (vars_of map base) next rs) ≡ n + length (rung_clauses (vars_of map₀ base) g all)
  pub out_is : emits out count (rung_clauses (vars_of map base) next rs) ≡ emits out₀ n (rung_clauses (vars_of map₀ base) g all)
  pub map_is : after_rungs (vars_of map base) next rs ≡ after_rungs (vars_of map₀ base) g all

pub runs : (s : List ℕ) (at rungs : ℕ) (map : List ℕ) (base g : ℕ) (stack out : List ℕ) (n : ℕ) → RungsAt s at rungs map base g stack n
    → Running s at rungs map base g stack out n map stack out at g n 0
runs s at rungs map base g stack out n q = record {
  bounds = q.bounds;
  all = q.rungs_are;
  rest = q.rest;
  runged = q.runged;
  rs = q.rungs_are;
  long_map = refl;
  long = refl;
  long_out = refl;
  left = omega (arith, q.runged.counted);
  bytes = q.runged.bytes;
  fits = q.runged.fits;
  named = q.runged.named;
  small = q.runged.mapped.small;
  few = omega arith;
  place_is = refl;
  next_is = refl;
  count_is = refl;
  out_is = refl;
  map_is = refl;
}

module _ (s : List ℕ) (at rungs : ℕ) (map₀ : List ℕ) (base g : ℕ) (stack₀ out₀ : List ℕ) (n : ℕ) (map stack out : List ℕ) (place next count i : ℕ)
    (w : Running s at rungs map₀ base g stack₀ out₀ n map stack out place next count i) where
  vs : Vars
  vs = vars_of map base

  -- x is the first that is left
  module _ (x : Rung) (rs : List Rung) (is : w.rs ≡ x ∷ rs) where
    -- the bytes after its formula
    tail : List ℕ
    tail = (Kind.RUNG ∷ two_bytes x.coil) ++ (each write_rung rs ++ w.rest)

    formed : Formed s place map base next stack count w.bounds x.formula tail
    unfolding tail sizes
    formed =
        let m = w.runged.mapped in
        let a : drop place s ≡ each write_rung (x ∷ rs) ++ w.rest = rw is at w.bytes in
        let b : next + (size x.formula + sizes rs) ≡ g + sizes w.all = rw is at w.next_is in
        let c : count + 3 * (size x.formula + sizes rs) ≤ n + 3 * sizes w.all = rw is at w.few in
        let f : All (λ (r : Rung). Rattle.rules.specs.WriteSheet.Fits w.bounds r.formula) (x ∷ rs) = rw is at w.fits in
        record {
          bytes = a ∙ rung_bytes x rs w.rest;
          closes = refl;
          fits = f.0;
          mapped = record { inputs_fit = m.inputs_fit; coils_fit = omega (arith, m.coils_fit, w.long_map); deep = omega (arith, m.deep, w.long); small = w.small };
          numbered = omega (arith, w.runged.numbered);
          few = omega (arith, w.runged.few);
        }

    -- and its formula's clauses were written
    module _ (out' : List ℕ) (r : Wrote)
        (d : Written place next count (length (write_formula x.formula)) (size x.formula) (defining (vars_of map base) next x.formula) out out' r) where
      there : drop r.at s ≡ tail
      there =
          rw (d.at_is, ← drop-drop (length (write_formula x.formula)) place s, formed.bytes)
          (drop_at (write_formula x.formula) tail (length (write_formula x.formula)) refl)

      coil_is : number_at s r.at 1 ≡ x.coil
      unfolding tail
      coil_is = rw there (two_bytes_lem x.coil)

      coil_in : x.coil < length map
      coil_in =
          let a : All (λ (r : Rung). r.coil < w.bounds.coils) (x ∷ rs) = rw is at w.named in
          omega (arith, a.0, w.runged.mapped.coils_fit, w.long_map)

      end_in : r.at + 3 ≤ length s
      unfolding tail
      end_in = let a = sym (length-drop r.at s) ∙ ap length there in omega arith

      step_on : (stack' : List ℕ) → length stack' ≡ length stack → length out' ≡ length out
          → Running s at rungs map₀ base g stack₀ out₀ n (set map x.coil (r.g - 1)) stack' out' (r.at + 3) r.g r.n (i + 1)
      unfolding sizes rung_clauses after_rungs tail write_rung vs
      step_on stack' ls lo =
          let t : ℕ = top next x.formula in
          let e : r.g - 1 ≡ t = ap (λ (z : ℕ). z - 1) d.g_is in
          let us : vars_of (set map x.coil (r.g - 1)) base ≡ closing vs next x = rw e (vars_set map base x.coil t coil_in) in
          let b : next + (size x.formula + sizes rs) ≡ g + sizes w.all = rw is at w.next_is in
          let c : count + 3 * (size x.formula + sizes rs) ≤ n + 3 * sizes w.all = rw is at w.few in
          let f : All (λ (r : Rung). Rattle.rules.specs.WriteSheet.Fits w.bounds r.formula) (x ∷ rs) = rw is at w.fits in
          let a : All (λ (r : Rung). r.coil < w.bounds.coils) (x ∷ rs) = rw is at w.named in
          let l : place + length (each write_rung (x ∷ rs)) ≡ at + length (each write_rung w.all) = rw is at w.place_is in
          let k : length (x ∷ rs) + i ≡ rungs = rw is at w.left in
          let ds : List Clause = defining vs next x.formula in
          let es : List Clause = rung_clauses (closing vs next x) (next + size x.formula) rs in
          let q : rung_clauses (vars_of (set map x.coil (r.g - 1)) base) r.g rs ≡ es = (λ i. rung_clauses (us i) (d.g_is i) rs) in
          let u : count + length (ds ++ es) ≡ n + length (rung_clauses (vars_of map₀ base) g w.all) = rw is at w.count_is in
          let v : emits out count (ds ++ es) ≡ emits out₀ n (rung_clauses (vars_of map₀ base) g w.all) = rw is at w.out_is in
          record {
            bounds = w.bounds;
            all = w.all;
            rest = w.rest;
            runged = w.runged;
            rs = rs;
            long_map = length-set map x.coil (r.g - 1) ∙ w.long_map;
            long = ls ∙ w.long;
            long_out = lo ∙ w.long_out;
            left = omega arith;
            bytes = rw (← drop-drop 3 r.at s, there);
            fits = f.1;
            named = a.1;
            small = small_set map x.coil (r.g - 1) coil_in (omega (arith, d.g_is, formed.numbered)) w.small;
            few = omega (arith, d.n_is, few_clauses vs next x.formula);
            place_is = omega (arith, simp length-append at l, d.at_is);
            next_is = omega (arith, d.g_is);
            count_is = ap (λ (z : List Clause). r.n + length z) q ∙ omega (arith, simp length-append at u, d.n_is);
            out_is = (λ i. emits (d.out_is i) (d.n_is i) (q i)) ∙ sym (emits_append out count ds es) ∙ v;
            map_is = (λ i. after_rungs (us i) (d.g_is i) rs) ∙ (rw is at w.map_is);
          }

  rest_none : rungs ≤ i → w.rs ≡ []
  rest_none h = go w.rs refl
    where
      go : (xs : List Rung) → w.rs ≡ xs → w.rs ≡ []
      go [] e = e
      go (x ∷ xs) e = let k : length (x ∷ xs) + i ≡ rungs = rw e at w.left in absurd (omega arith)

  record First : Type 0 where
    x : Rung
    rs : List Rung
    is : w.rs ≡ x ∷ rs

  first : i < rungs → First
  first h = go w.rs refl
    where
      go : (xs : List Rung) → w.rs ≡ xs → First
      go [] e = let k : 0 + i ≡ rungs = rw e at w.left in absurd (omega arith)
      go (x ∷ xs) e = record { x = x; rs = xs; is = e }

  pub rung_formula : i < rungs → FormulaAt s place map base next stack count
  rung_formula h =
      let f = first h in
      record { bounds = w.bounds; formula = f.x.formula; rest = tail f.x f.rs f.is; formed = formed f.x f.rs f.is }

  module _ (h : i < rungs) (out' : List ℕ) (r : Wrote) (d : FormulaWritten s place map base next stack out count out' r) where
    f : First
    f = first h

    wrote : Written place next count (length (write_formula f.x.formula)) (size f.x.formula) (defining (vars_of map base) next f.x.formula) out out' r
    wrote = d.of w.bounds f.x.formula (tail f.x f.rs f.is) (formed f.x f.rs f.is)

    pub has_top : 1 ≤ r.g
    has_top = omega (arith, wrote.g_is, some_size f.x.formula)

    pub end_fits : length s < 18446744073709551616 → Fits w64 (r.at + 3)
    end_fits l = record { fits = omega (arith, end_in f.x f.rs f.is out' r wrote) }

    same_coil : number_at s r.at 1 ≡ f.x.coil
    same_coil = coil_is f.x f.rs f.is out' r wrote

    pub coil_mapped : CoilAt s r.at map
    coil_mapped = record { within = rw same_coil (coil_in f.x f.rs f.is out' r wrote) }

    pub runs_on : (map' stack' : List ℕ) → map' ≡ set map (number_at s r.at 1) (r.g - 1) → length stack' ≡ length stack → length out' ≡ length out
        → Running s at rungs map₀ base g stack₀ out₀ n map' stack' out' (r.at + 3) r.g r.n (i + 1)
    runs_on map' stack' e ls lo = rw (e, same_coil) (step_on f.x f.rs f.is out' r wrote stack' ls lo)

  pub runs_out : rungs ≤ i → RungsWritten s at rungs map₀ base g stack₀ out₀ n map out (record { at = place; g = next; n = count })
  unfolding rung_clauses after_rungs sizes emits
  runs_out h = record { of = λ b rs rest q. done b rs rest q }
    where
      x : w.rs ≡ []
      x = rest_none h

      done : (b : Bounds) (rs : List Rung) (rest : List ℕ) → Runged s at rungs map₀ base g stack₀ n b rs rest
          → Closed at map₀ base g n rs out₀ map out (record { at = place; g = next; n = count })
      done b rs rest q =
          let z : w.all ≡ rs = (same_rungs w.all rs w.rest rest (w.runged.counted ∙ sym q.counted) (sym w.runged.bytes ∙ q.bytes)).0 in
          let i : place + 0 ≡ at + length (each write_rung w.all) = rw x at w.place_is in
          let j : next + 0 ≡ g + sizes w.all = rw x at w.next_is in
          let k : count + 0 ≡ n + length (rung_clauses (vars_of map₀ base) g w.all) = rw x at w.count_is in
          let l : out ≡ emits out₀ n (rung_clauses (vars_of map₀ base) g w.all) = rw x at w.out_is in
          let m : vars_of map base ≡ after_rungs (vars_of map₀ base) g w.all = rw x at w.map_is in
          rw (← z) (record {
            written = record { at_is = omega arith; g_is = omega arith; n_is = omega arith; out_is = l };
            after = m;
            small = w.small;
          })

pub ruleset rung_cases = (runs, rung_formula, has_top, end_fits, coil_mapped, runs_on, runs_out)
