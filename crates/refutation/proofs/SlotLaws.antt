-- Slots lie one after the other, and there is room for one more than the steps that are allowed.
-- Assumes nothing.
use Prim.Native.Nat.{ℕ, suc, ◌+◌, ◌*◌, ◌-◌, ◌≤◌, ◌<◌}
use mathlib.Core.Path.{◌≡◌, refl, ap, ◌∙◌}
use mathlib.Core.List.{List}
use native.Mathlib.Nat.{mul-le-mul_right, mul_comm, mul-suc}
use native.Mathlib.Omega.{arith}
use lib.ListN.{length, get_or}
use Rattle.rules.specs.declared.Limits.{Limits}
use Rattle.refutation.specs.Memory.{slot_at, Room, Fit}
use Rattle.refutation.specs.Making.{Slotted, Placed, Placed.in_base, Placed.in_slot, Placed.zeroth, Placed.past, Pair}
use Rattle.std.specs.Prelude.{Some, None}
use Rattle.refutation.specs.declared.codes.Spot.{Spot}

scaled : (s j k : ℕ) → j < k → j * s + s ≤ k * s
scaled s j k h =
    let e : suc j * s ≡ j * s + s = mul_comm (suc j) s ∙ mul-suc s j ∙ ap (λ (x : ℕ). x + s) (mul_comm s j) in
    let f : suc j * s ≤ k * s = mul-le-mul_right s h in
    omega arith

pub slot_before : (l : Limits) (from j k : ℕ) → j < k → slot_at l from j + (l.width + 1) ≤ slot_at l from k
slot_before l from j k h = let e = scaled (l.width + 1) j k h in omega arith

pub slots_rise : (l : Limits) (from j k : ℕ) → j ≤ k → slot_at l from j ≤ slot_at l from k
slots_rise l from j k h = let e = mul-le-mul_right (l.width + 1) h in omega arith

pub slot_next : (l : Limits) (from j : ℕ) → slot_at l from (j + 1) ≡ slot_at l from j + (l.width + 1)
slot_next l from j =
    let s : ℕ = l.width + 1 in
    let e : (j + 1) * s ≡ j * s + s = mul_comm (j + 1) s ∙ rw (native.Mathlib.Numerals.add-one j) (mul-suc s j) ∙ ap (λ (x : ℕ). x + s) (mul_comm s j) in
    omega arith

pub slot_room : (l : Limits) (w : List ℕ) (n from j : ℕ) → Room l w n from → j ≤ l.steps → slot_at l from j + (l.width + 1) ≤ length w
slot_room l w n from j r h = let e = slot_before l from j (l.steps + 1) (omega arith) in omega (arith, r.room)

pub slotted : (l : Limits) (w : List ℕ) (n from j : ℕ) → Room l w n from → j ≤ l.steps → Slotted l w from j (slot_at l from j)
slotted l w n from j r h = record { starts = refl; fits = slot_room l w n from j r h }

module _ (l : Limits) (w : List ℕ) (n from m i : ℕ) where
  pub spot_none : i ≡ 0 → Placed l w n from m i None
  spot_none e = zeroth e

  module _ (e : i ≡ 0 → ⊥) where
    pub spot_base : i - 1 < n → Placed l w n from m i (Some (record { start = 3 * (i - 1); count = 3 }))
    spot_base h = in_base (omega arith) h refl refl

    pub spot_past : n ≤ i - 1 → m ≤ i - 1 - n → Placed l w n from m i None
    spot_past h k = past (omega arith)

    pub spot_slot : (at count : ℕ) → n ≤ i - 1 → i - 1 - n < m → Slotted l w from (i - 1 - n) at → count ≡ get_or w at 0 → Placed l w n from m i (Some (record { start = at + 1; count = count }))
    spot_slot at count h k f g =
        in_slot (omega arith) h k (ap (λ (x : ℕ). x + 1) f.starts) (g ∙ ap (λ (x : ℕ). get_or w x 0) f.starts)

pub ruleset locate_cases = (spot_none, spot_base, spot_past, spot_slot)

-- a clause's places lie below the slot of the next one
placed_before : {l : Limits} {w : List ℕ} {n from m i : ℕ} {x : Spot} → Fit l w n from m → Placed l w n from m i (Some x)
    → x.start + x.count ≤ slot_at l from m
placed_before f (in_base a b c d) = omega (arith, f.space.below)
placed_before {l} {w} {n} {from} {m} {i} f (in_slot a b c d e) =
    let x = slot_before l from (i - 1 - n) m c in
    let y = f.small (i - 1 - n) c in
    omega arith

pub pair_of : (l : Limits) (w : List ℕ) (n from m i j at : ℕ) (x y : Spot) → Fit l w n from m → Slotted l w from m at
    → Placed l w n from m i (Some x) → Placed l w n from m j (Some y) → Pair l w at x y
pair_of l w n from m i j at x y f o p q = record {
  first = omega (arith, placed_before f p, o.starts);
  second = omega (arith, placed_before f q, o.starts);
  fits = o.fits;
  narrow = f.space.narrow;
}
