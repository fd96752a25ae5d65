-- Two joins make the union of two clauses; its size is judged, and where it fits it is kept. Then the pivot is looked for.
-- Assumes nothing.
use Prim.Native.Nat.{ℕ, ◌+◌, ◌*◌, ◌≤◌, ◌<◌}
use mathlib.Core.Path.{◌≡◌, refl, sym, ◌∙◌}
use mathlib.Core.Bool.{Bool, true, false, and-false}
use mathlib.Core.List.{List, []}
use native.Mathlib.Omega.{arith}
use lib.ListN.{length, drop, set}
use lib.Seq.{get_or-set_same, drop-set-lt}
use lib.Dec.{eqb}
use borrow.Author.Tests.{lt-ltb}
use Rattle.rules.specs.declared.Limits.{Limits}
use Rattle.rules.specs.Record.{one_of}
use Rattle.refutation.specs.Memory.{Outside}
use Rattle.refutation.specs.declared.codes.Spot.{Spot}
use Rattle.refutation.specs.Making.{codes, joined, Built, Grown, Both, union, United, Made.over, Made.late, Made.made, Making, pivots, Tried, Tried.missing, Tried.tried}
use Rattle.std.specs.Prelude.{Result, Ok, Err}
use Rattle.rules.specs.declared.refusals.Fault.{Fault}
use Rattle.rules.specs.declared.refusals.Fault.TheVariants.{NoPivot, Width, Steps}
use Rattle.refutation.proofs.PartLaws.{part_front, outside_same, outside_then, outside_wide, outside_set}

none_yet : (w : List ℕ) (a width : ℕ) → Built w a width 0 []
none_yet w a width = record { counted = omega arith; kept = λ h. refl }

pub unite_end : (w : List ℕ) (a width : ℕ) (x y : Spot) (p : ℕ) → Both w a width x y p
    → (w₁ : List ℕ) (k : ℕ) → Grown w a width 0 (joined p (codes w x)) w₁ k
    → (w₂ : List ℕ) (r : ℕ) → Grown w₁ a width k (joined (p + 1) (codes w₁ y)) w₂ r
    → United w a width (union (codes w x) (codes w y) p) w₂ r
unfolding union
unite_end w a width x y p o w₁ k g w₂ r h =
    let f : codes w₁ y ≡ codes w y = part_front w w₁ a y.start y.count g.outside.front o.second in
    record {
      built = rw f at (h.built (joined p (codes w x) []) (g.built [] (none_yet w a width)));
      outside = outside_then a (a + width) w w₁ w₂ g.outside h.outside;
    }

module _ (l : Limits) (w : List ℕ) (at m : ℕ) (xs w₂ : List ℕ) (r : ℕ) (u : United w (at + 1) l.width xs w₂ r) where
  around : Outside at (at + (l.width + 1)) w w₂
  around = outside_wide (at + 1) (at + 1 + l.width) at (at + (l.width + 1)) w w₂ u.outside (omega arith) (omega arith)

  pub too_wide : l.width < r → Making l m w at xs w₂ (Err Width)
  too_wide h = record { made = over (omega (arith, u.built.counted)); outside = around }

  pub too_late : r ≤ l.width → l.steps ≤ m → Making l m w at xs w₂ (Err Steps)
  too_late h j = record { made = late (omega (arith, u.built.counted)) j; outside = around }

  pub kept_so : at + (l.width + 1) ≤ length w → length w₂ ≡ length w → r ≤ l.width → m < l.steps → Making l m w at xs (set w₂ at r) (Ok (eqb r 0))
  kept_so g e h j =
      let z : length xs ≡ r = omega (arith, u.built.counted) in
      let f : drop (at + 1) (set w₂ at r) ≡ drop (at + 1) w₂ = drop-set-lt (at + 1) w₂ at r (omega arith) in
      record {
        made = made {b = eqb r 0} (omega arith) j (get_or-set_same w₂ at r 0 (omega arith) ∙ sym z) (rw (z, f) (u.built.kept h)) (rw z);
        outside = outside_then at (at + (l.width + 1)) w w₂ (set w₂ at r) around
            (outside_set at (at + (l.width + 1)) w₂ at r (omega arith) (omega arith));
      }

pub ruleset resolve_cases = (too_wide, too_late, kept_so)

module _ (l : Limits) (w : List ℕ) (at m : ℕ) (first second : Spot) (v : ℕ) where
  pub no_pivot : v ≡ 0 → Tried l m w at (codes w first) (codes w second) v w (Err NoPivot)
  unfolding pivots
  no_pivot e = missing (rw e) (outside_same at (at + (l.width + 1)) w)

  module _ (y : ℕ) (q : y ≡ v) (a : Bool) (e : a ≡ one_of (codes w first) (2 * y)) where
    pub not_plain : a ≡ false → Tried l m w at (codes w first) (codes w second) v w (Err NoPivot)
    unfolding pivots
    not_plain z =
        let f : one_of (codes w first) (2 * v) ≡ false = rw q at (sym e ∙ z) in
        missing (rw (f, and-false)) (outside_same at (at + (l.width + 1)) w)

    module _ (b : Bool) (f : b ≡ one_of (codes w second) (2 * y + 1)) where
      pub not_negated : b ≡ false → Tried l m w at (codes w first) (codes w second) v w (Err NoPivot)
      unfolding pivots
      not_negated z =
          let g : one_of (codes w second) (2 * v + 1) ≡ false = rw q at (sym f ∙ z) in
          missing (rw (g, and-false, and-false)) (outside_same at (at + (l.width + 1)) w)

      pub resolved : a ≡ true → b ≡ true → (v ≡ 0 → ⊥) → (w' : List ℕ) (r : Result Bool Fault)
          → Making l m w at (union (codes w first) (codes w second) (2 * y)) w' r → Tried l m w at (codes w first) (codes w second) v w' r
      unfolding pivots
      resolved z z' h w' r g =
          let j : 0 < v = omega arith in
          let c : one_of (codes w first) (2 * v) ≡ true = rw q at (sym e ∙ z) in
          let d : one_of (codes w second) (2 * v + 1) ≡ true = rw q at (sym f ∙ z') in
          tried (rw (lt-ltb 0 v j, c, d)) (rw q at g)

pub ruleset pivoted_cases = (no_pivot, not_plain, not_negated, resolved)
