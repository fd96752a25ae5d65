-- What the code found at an offset, as what a reader's state makes of the bytes from there on.
-- Assumes nothing.
use Prim.Native.Nat.{ℕ, suc, ◌+◌, ◌≤◌, ◌<◌}
use mathlib.Core.Path.{◌≡◌, refl, sym, ap, ◌∙◌}
use mathlib.Core.Bool.{Bool, true, false}
use mathlib.Core.List.{List, [], ◌∷◌}
use native.Mathlib.Omega.{arith}
use lib.ListN.{length, get_or, drop, length-drop}
use lib.Seq.{drop-drop}
use lib.Dec.{leb, eqb}
use borrow.Author.Tests.{leb-true}
use Rattle.std.specs.Prelude.{Ok}
use Rattle.base.specs.Pick.{pick}
use Rattle.rules.specs.Record.{Front.unknown, Front.cut, Front.whole, body_length, front, record_length}
use Rattle.rules.specs.Walk.{past}
use Rattle.records.specs.Kinds.{byte_of}
use Rattle.records.specs.Found.{FoundAt}
use Rattle.records.specs.declared.Record.{Record}

clash : {A : Type 0} → ◌≡◌ {A = ℕ} 0 1 → A
clash z = absurd (omega arith)

-- a whole record's kind is the first byte
pub whole_kind : (bs : List ℕ) (k : ℕ) → front bs ≡ whole k → k ≡ get_or bs 0 0
unfolding front
whole_kind [] k e = clash (cc)
whole_kind (x ∷ bs) k e = go (eqb (body_length x) 255) (leb (body_length x) (length bs)) e
  where
    go : (a b : Bool) → pick a unknown (pick b (whole x) (cut x)) ≡ whole k → k ≡ x
    go true b g = clash (cc)
    go false true g = cc
    go false false g = clash (cc)

pub whole_ends : (s : List ℕ) (p : ℕ) (x : Record) → FoundAt s p (Ok x) → x.next ≡ p + record_length (get_or (drop p s) 0 0)
whole_ends s p x e = e.ends ∙ ap (λ (k : ℕ). p + record_length k) (whole_kind (drop p s) (byte_of x.kind) (sym e.is))

-- the bytes past a whole record at a place are those from the next place on, and that lies within the bytes
pub record Passes (s : List ℕ) (p next : ℕ) : Type 0 where
  pub after : p < next
  pub within : next ≤ length s
  pub bytes : past (drop p s) ≡ drop next s
  pub places : p + record_length (get_or (drop p s) 0 0) ≡ next

front_fits : (bs : List ℕ) (k : ℕ) → front bs ≡ whole k → record_length k ≤ length bs
unfolding front record_length
front_fits [] k e = clash (cc)
front_fits (x ∷ bs) k e = go (eqb (body_length x) 255) (leb (body_length x) (length bs)) refl e
  where
    go : (a b : Bool) → leb (body_length x) (length bs) ≡ b → pick a unknown (pick b (whole x) (cut x)) ≡ whole k → 1 + body_length k ≤ suc (length bs)
    go true b l g = clash (cc)
    go false false l g = clash (cc)
    go false true l g =
        let z : x ≡ k = cc in
        let m = leb-true (body_length x) (length bs) l in
        rw (← z) (omega arith)

some_length : (k : ℕ) → 1 ≤ record_length k
unfolding record_length
some_length k = omega arith

pub passes : (s : List ℕ) (p : ℕ) (x : Record) → FoundAt s p (Ok x) → Passes s p x.next
unfolding past
passes s p x e =
    let f = front_fits (drop p s) (byte_of x.kind) (sym e.is) in
    let l = length-drop p s in
    let n = whole_ends s p x e in
    let o = some_length (byte_of x.kind) in
    let i : x.next ≡ p + record_length (byte_of x.kind) = e.ends in
    record {
      after = omega arith;
      within = omega arith;
      bytes = drop-drop (record_length (get_or (drop p s) 0 0)) p s ∙ ap (λ (k : ℕ). drop k s) (sym n);
      places = sym n;
    }
