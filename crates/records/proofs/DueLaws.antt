-- The record that is due at an offset, by what stands there and whether its kind is allowed.
-- Assumes nothing.
use Prim.Native.Nat.{ℕ}
use mathlib.Core.Path.{◌≡◌, refl, sym, ap, ◌∙◌}
use mathlib.Core.Bool.{Bool, true, false}
use mathlib.Core.List.{List}
use native.Mathlib.Omega.{arith}
use lib.ListN.{drop}
use Rattle.std.specs.Prelude.{Result, Ok, Err}
use Rattle.base.specs.Pick.{pick}
use Rattle.rules.specs.Record.{Front, Front.nothing, Front.unknown, Front.cut, Front.whole, front, one_of}
use Rattle.rules.specs.Walk.{Move, Move.no, Reader, move_at}
use Rattle.rules.specs.Fault.{number_of}
use Rattle.rules.specs.declared.refusals.Fault.{Fault}
use Rattle.records.specs.Kinds.{byte_of}
use Rattle.records.specs.Found.{FoundAt, Due, Due.comes, Due.refused, due, due_of, DueAt, DueBy}
use Rattle.records.specs.declared.kind.Kind.{Kind}
use Rattle.records.specs.declared.Record.{Record}
use Rattle.records.specs.declared.Common.{Common}
use Rattle.records.specs.declared.NoRecord.TheVariants.{Nothing, Unknown, Cut}

module _ (allows : Kind → Bool → Type 0) (s : List ℕ) (p : ℕ) (c : Common) where
  abbrev Means : List ℕ → Type 0
  Means ks = (k : Kind) (b : Bool) → allows k b → b ≡ one_of ks (byte_of k)

  pub due_nothing : FoundAt s p (Err Nothing) → DueBy allows s p c (Err c.ends)
  unfolding due
  due_nothing f = record { by = λ (ks : List ℕ) (a : Means ks). record { is = rw (← f.is); ends = tt } }

  pub due_unknown : FoundAt s p (Err Unknown) → DueBy allows s p c (Err c.strange)
  unfolding due
  due_unknown f = record { by = λ (ks : List ℕ) (a : Means ks). record { is = rw (← f.is); ends = tt } }

  module _ (k : Kind) (f : FoundAt s p (Err (Cut k))) where
    pub due_cut : allows k true → DueBy allows s p c (Err c.ends)
    unfolding due
    due_cut h = record { by = λ (ks : List ℕ) (a : Means ks). record { is = rw (← f.is, ← a k true h); ends = tt } }

    pub due_cut_strange : allows k false → DueBy allows s p c (Err c.strange)
    unfolding due
    due_cut_strange h = record { by = λ (ks : List ℕ) (a : Means ks). record { is = rw (← f.is, ← a k false h); ends = tt } }

  module _ (x : Record) (f : FoundAt s p (Ok x)) where
    pub due_whole : allows x.kind true → DueBy allows s p c (Ok x)
    unfolding due
    due_whole h = record { by = λ (ks : List ℕ) (a : Means ks). record { is = rw (← f.is, ← a x.kind true h); ends = f.ends } }

    pub due_strange : allows x.kind false → DueBy allows s p c (Err c.strange)
    unfolding due
    due_strange h = record { by = λ (ks : List ℕ) (a : Means ks). record { is = rw (← f.is, ← a x.kind false h); ends = tt } }

pub ruleset due_cases = (due_nothing, due_unknown, due_cut, due_cut_strange, due_whole, due_strange)

clash : {A : Type 0} → ◌≡◌ {A = ℕ} 0 1 → A
clash z = absurd (omega arith)

-- a record that is due has an allowed kind and is whole
comes_kind : (ks : List ℕ) (e x k : ℕ) (f : Front) → comes k ≡ due ks e x f → (f ≡ whole k) × (one_of ks k ≡ true)
unfolding due
comes_kind ks e x k nothing h = clash (cc)
comes_kind ks e x k unknown h = clash (cc)
comes_kind ks e x k (cut j) h = go (one_of ks j) h
  where
    go : {A : Type 0} (b : Bool) → comes k ≡ pick b (refused e) (refused x) → A
    go true g = clash (cc)
    go false g = clash (cc)
comes_kind ks e x k (whole j) h = go (one_of ks j) refl h
  where
    go : (b : Bool) → one_of ks j ≡ b → comes k ≡ pick b (comes j) (refused x) → (whole j ≡ whole k) × (one_of ks k ≡ true)
    go true i g = let z : j ≡ k = cc in (ap whole z, rw (← z) i)
    go false i g = clash (cc)

pub record Allowed (ks s : List ℕ) (p : ℕ) (x : Record) : Type 0 where
  pub found : FoundAt s p (Ok x)
  pub kind : one_of ks (byte_of x.kind) ≡ true

pub due_allowed : (ks s : List ℕ) (p : ℕ) (c : Common) (x : Record) → DueAt ks s p c (Ok x) → Allowed ks s p x
due_allowed ks s p c x d =
    let w = comes_kind ks (number_of c.ends) (number_of c.strange) (byte_of x.kind) (front (drop p s)) d.is in
    record { found = record { is = sym w.0; ends = d.ends }; kind = w.1 }

-- what a reader's state makes of what is due
unfoldable pub after_due : {S M X : Type 0} → Reader S M X → S → List ℕ → Due → Move S M X
after_due r t bs (comes k) = r.move t k bs
after_due r t bs (refused n) = no n

module _ {S M X : Type 0} (r : Reader S M X) (t : S) (bs : List ℕ) where
  by_front : (f : Front) → front bs ≡ f → move_at r t bs ≡ after_due r t bs (due (r.allowed t) r.ends r.strange f)
  unfolding move_at due after_due
  by_front nothing e = rw (e, move_at)
  by_front unknown e = rw (e, move_at)
  by_front (cut k) e = rw (e, move_at) (go (one_of (r.allowed t) k))
    where
      go : (b : Bool) → pick b (no r.ends) (no r.strange) ≡ after_due r t bs (pick b (refused r.ends) (refused r.strange))
      go true = refl
      go false = refl
  by_front (whole k) e = rw (e, move_at) (go (one_of (r.allowed t) k))
    where
      go : (b : Bool) → pick b (r.move t k bs) (no r.strange) ≡ after_due r t bs (pick b (comes k) (refused r.strange))
      go true = refl
      go false = refl

module _ {S M X : Type 0} (r : Reader S M X) (t : S) (s : List ℕ) (p : ℕ) (c : Common) where
  moves : (q : Result Record Fault) → r.ends ≡ number_of c.ends → r.strange ≡ number_of c.strange → DueAt (r.allowed t) s p c q
      → move_at r t (drop p s) ≡ after_due r t (drop p s) (due_of q)
  moves q a b d =
      by_front r t (drop p s) (front (drop p s)) refl
      ∙ ap (after_due r t (drop p s)) (rw (a, b) (sym d.is))

  pub move_refused : (f : Fault) → r.ends ≡ number_of c.ends → r.strange ≡ number_of c.strange → DueAt (r.allowed t) s p c (Err f)
      → move_at r t (drop p s) ≡ no (number_of f)
  unfolding after_due
  move_refused f a b d = moves (Err f) a b d

  pub move_due : (x : Record) → r.ends ≡ number_of c.ends → r.strange ≡ number_of c.strange → DueAt (r.allowed t) s p c (Ok x)
      → move_at r t (drop p s) ≡ r.move t (byte_of x.kind) (drop p s)
  unfolding after_due
  move_due x a b d = moves (Ok x) a b d
