-- STEP's exits: 18, and what becomes of the codes where both clauses are there.
-- Assumes nothing.
use Prim.Native.Nat.{ℕ, ◌+◌, ◌*◌, ◌≤◌}
use mathlib.Core.Path.{◌≡◌, sym, ap, ◌∙◌}
use mathlib.Core.Bool.{Bool, true, false, ◌&&◌, and-false}
use mathlib.Core.List.{List}
use lib.ListN.{length, get_or}
use lib.Dec.{ltb, leb, eqb}
use borrow.Author.Tests.{le-leb, lt-leb, lt-ltb, le-ltb}
use Rattle.base.specs.Pick.{pick}
use Rattle.rules.specs.declared.Limits.{Limits}
use Rattle.rules.specs.Certificate.{Step}
use Rattle.rules.specs.Clauses
use Rattle.rules.specs.Resolution.{resolvent, is_there, nth, derive, Derived.clause, Derived.fault}
use Rattle.refutation.specs.Memory.{part, Means, Slot, slot_at, Held, Fit, Outside}
use Rattle.refutation.specs.Making.{codes, Slotted, Placed, union, Made, Made.over, Made.late, Made.made, pivots, Tried, Tried.missing, Tried.tried}
use Rattle.refutation.specs.Steps.{Follows.refuses, Follows.derives, FitNext, Stepped}
use Rattle.std.specs.Prelude.{Some, None, Result, Err}
use Rattle.rules.specs.declared.refusals.Fault.{Fault}
use Rattle.rules.specs.declared.refusals.Fault.TheVariants.{NoClause}
use Rattle.refutation.specs.declared.codes.Spot.{Spot}
use Rattle.refutation.proofs.PartLaws.{outside_same}
use Rattle.refutation.proofs.SlotLaws.{slot_next}
use Rattle.refutation.proofs.HeldLaws.{located, not_there, held_more, fit_more}
use Rattle.refutation.proofs.ClauseLaws.{union_means, union_size, pivots_mean, once_resolvent, empty_length}

-- the rule, where the codes bs and ds stand for its two clauses
module _ (l : Limits) (m : ℕ) (q : Step) (bs ds : List ℕ) (cs : List Clauses.Clause) (u : is_there cs q.first ≡ true) (f : Means bs (nth cs q.first))
    (v : is_there cs q.second ≡ true) (g : Means ds (nth cs q.second)) where
  pub lacks : pivots bs ds q.pivot ≡ false → derive l cs m q ≡ fault 19
  unfolding derive
  lacks h = let y = pivots_mean bs ds (nth cs q.first) (nth cs q.second) q.pivot f g ∙ h in rw (derive, u, v, y)

  pub judged : pivots bs ds q.pivot ≡ true
      → derive l cs m q
      ≡ pick (ltb l.width (length (union bs ds (2 * q.pivot)))) (fault 20)
      (pick (leb l.steps m) (fault 21) (clause (resolvent q.pivot (nth cs q.first) (nth cs q.second))))
  unfolding derive
  judged h =
      let y = pivots_mean bs ds (nth cs q.first) (nth cs q.second) q.pivot f g ∙ h in
      let z = union_size bs ds (nth cs q.first) (nth cs q.second) q.pivot f g in
      rw (derive, u, v, y, z)

module _ (l : Limits) (w : List ℕ) (n from m : ℕ) (q : Step) where
  no_clause : ((cs : List Clauses.Clause) → Held l w n from m cs → (is_there cs q.first && is_there cs q.second) ≡ false) → Stepped l w n from m q w (Err NoClause)
  unfolding derive FitNext
  no_clause f = record {
    follows = λ cs h. let e = f cs h in refuses (rw (derive, e));
    fit = tt;
    outside = outside_same (slot_at l from m) (slot_at l from (m + 1)) w;
  }

  pub no_first : Placed l w n from m q.first None → Stepped l w n from m q w (Err NoClause)
  no_first p = no_clause (λ cs h. rw (not_there cs h p))

  pub no_second : Placed l w n from m q.second None → Stepped l w n from m q w (Err NoClause)
  no_second p = no_clause (λ cs h. rw (not_there cs h p, and-false))

  -- both clauses are there, and the slot of the next one is at place a
  module _ (f : Fit l w n from m) (a : ℕ) (o : Slotted l w from m a) (first second : Spot) (p : Placed l w n from m q.first (Some first))
      (p' : Placed l w n from m q.second (Some second)) (w' : List ℕ) (long : length w' ≡ length w) where
    abbrev bs : List ℕ
    bs = codes w first

    abbrev ds : List ℕ
    ds = codes w second

    around : Outside a (a + (l.width + 1)) w w' → Outside (slot_at l from m) (slot_at l from (m + 1)) w w'
    around g =
        let x : a ≡ slot_at l from m = o.starts in
        let y : slot_at l from (m + 1) ≡ a + (l.width + 1) = slot_next l from m ∙ ap (λ (i : ℕ). i + (l.width + 1)) (sym x) in
        rw (y, ← x) g

    lacking : (cs : List Clauses.Clause) → Held l w n from m cs → pivots bs ds q.pivot ≡ false → derive l cs m q ≡ fault 19
    lacking cs h v =
        let b = located cs h p in
        let d = located cs h p' in
        lacks l m q bs ds cs b.there b.means d.there d.means v

    judging : (cs : List Clauses.Clause) → Held l w n from m cs → pivots bs ds q.pivot ≡ true
        → derive l cs m q
        ≡ pick (ltb l.width (length (union bs ds (2 * q.pivot)))) (fault 20)
        (pick (leb l.steps m) (fault 21) (clause (resolvent q.pivot (nth cs q.first) (nth cs q.second))))
    judging cs h v =
        let b = located cs h p in
        let d = located cs h p' in
        judged l m q bs ds cs b.there b.means d.there d.means v

    -- the slot holds the resolvent
    held : (cs : List Clauses.Clause) → Held l w n from m cs → get_or w' a 0 ≡ length (union bs ds (2 * q.pivot))
        → part w' (a + 1) (length (union bs ds (2 * q.pivot))) ≡ union bs ds (2 * q.pivot)
        → Slot w' (slot_at l from m) (resolvent q.pivot (nth cs q.first) (nth cs q.second))
    held cs h x y =
        let b = (located cs h p).means in
        let d = (located cs h p').means in
        rw (← o.starts)
        (record {
          size = x ∙ union_size bs ds (nth cs q.first) (nth cs q.second) q.pivot b d;
          set = once_resolvent q.pivot (nth cs q.first) (nth cs q.second);
          literals = rw (x, y) (union_means bs ds (nth cs q.first) (nth cs q.second) q.pivot b d);
        })

    step_made : {r : Result Bool Fault} → pivots bs ds q.pivot ≡ true → Outside a (a + (l.width + 1)) w w'
        → Made l m w' a (union bs ds (2 * q.pivot)) r → Stepped l w n from m q w' r
    unfolding FitNext
    step_made v g (over x) = record {
      follows = λ cs h. refuses (judging cs h v ∙ rw (lt-ltb _ _ x));
      fit = tt;
      outside = around g;
    }
    step_made v g (late x y) = record {
      follows = λ cs h. refuses (judging cs h v ∙ rw (le-ltb _ _ x, le-leb _ _ y));
      fit = tt;
      outside = around g;
    }
    step_made v g (made x y size lits b) =
        let front = (around g).front in
        let here : get_or w' (slot_at l from m) 0 ≤ l.width = rw (← o.starts, size) x in
        record {
          follows = λ cs h.
              let e : Clauses.Clause = resolvent q.pivot (nth cs q.first) (nth cs q.second) in
              let i = union_size bs ds (nth cs q.first) (nth cs q.second) q.pivot (located cs h p).means (located cs h p').means in
              derives e (judging cs h v ∙ rw (le-ltb _ _ x, lt-leb _ _ y)) (b ∙ ap (λ (j : ℕ). eqb j 0) i ∙ sym (empty_length e))
              (held_more l w w' n from m f front cs e h (held cs h size lits));
          fit = fit_more l w w' n from m f front long y here;
          outside = around g;
        }

    step_tried : {r : Result Bool Fault} → Tried l m w a bs ds q.pivot w' r → Stepped l w n from m q w' r
    unfolding FitNext
    step_tried (missing v g) = record {
      follows = λ cs h. refuses (lacking cs h v);
      fit = tt;
      outside = around g;
    }
    step_tried (tried v g) = step_made v g.outside g.made

  pub stepped : Fit l w n from m → (a : ℕ) → Slotted l w from m a → (x y : Spot) → Placed l w n from m q.first (Some x) → Placed l w n from m q.second (Some y)
      → (w' : List ℕ) → length w' ≡ length w → (d : Result Bool Fault) → Tried l m w a (codes w x) (codes w y) q.pivot w' d
      → Stepped l w n from m q w' d
  stepped f a o x y p p' w' long d g = step_tried f a o x y p p' w' long g
