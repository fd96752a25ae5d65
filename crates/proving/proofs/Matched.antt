-- Clauses up to the order of their literals: the rule and the runs of steps do not see the difference.
-- Assumes nothing.
use Prim.Native.Nat.{ℕ, zero, suc, ◌-◌}
use mathlib.Core.Path.{◌≡◌, refl, ap}
use mathlib.Core.List.{List, [], ◌∷◌, ◌++◌}
use lib.ListN.{length, get_or}
use Rattle.rules.specs.Certificate.{Step}
use Rattle.rules.specs.Clauses.{Clause}
use Rattle.rules.specs.Resolution.{Nth, ByRule, Run.ready, Run.next, latest}
use Rattle.proving.specs.Grounds.{Alike, Matching, RunsAlike}
use Rattle.proving.proofs.Literals.{resolves_over}

pub matching_self : (cs : List Clause) → Matching cs cs
matching_self [] = tt
matching_self (c ∷ cs) = (λ x. refl, matching_self cs)

pub matching_length : (cs ds : List Clause) → Matching cs ds → length cs ≡ length ds
matching_length [] [] m = refl
matching_length [] (d ∷ ds) m = absurd m
matching_length (c ∷ cs) [] m = absurd m
matching_length (c ∷ cs) (d ∷ ds) m = ap suc (matching_length cs ds m.1)

pub matching_at : (cs ds : List Clause) → Matching cs ds → (k : ℕ) → Alike (get_or cs k []) (get_or ds k [])
matching_at [] [] m k = λ x. refl
matching_at [] (d ∷ ds) m k = absurd m
matching_at (c ∷ cs) [] m k = absurd m
matching_at (c ∷ cs) (d ∷ ds) m zero = m.0
matching_at (c ∷ cs) (d ∷ ds) m (suc k) = matching_at cs ds m.1 k

pub matching_snoc : (cs ds : List Clause) (c d : Clause) → Matching cs ds → Alike c d → Matching (cs ++ (c ∷ [])) (ds ++ (d ∷ []))
matching_snoc [] [] c d m h = (h, tt)
matching_snoc [] (b ∷ ds) c d m h = absurd m
matching_snoc (a ∷ cs) [] c d m h = absurd m
matching_snoc (a ∷ cs) (b ∷ ds) c d m h = (m.0, matching_snoc cs ds c d m.1 h)

pub matching_latest : (cs ds : List Clause) (c d : Clause) → Matching cs ds → Alike c d → Alike (latest cs c) (latest ds d)
unfolding latest
matching_latest [] [] c d m h = h
matching_latest [] (b ∷ ds) c d m h = absurd m
matching_latest (a ∷ cs) [] c d m h = absurd m
matching_latest (a ∷ cs) (b ∷ ds) c d m h = matching_latest cs ds a b m.1 m.0

pub latest_snoc : (cs : List Clause) (e c : Clause) → latest (cs ++ (e ∷ [])) c ≡ e
unfolding latest
latest_snoc [] e c = refl
latest_snoc (d ∷ cs) e c = latest_snoc cs e d

matching_nth : (cs ds : List Clause) → Matching cs ds → (n : ℕ) (c : Clause) → Nth cs n c → Nth ds n (get_or ds (n - 1) [])
matching_nth cs ds m n c h = record { from_one = h.from_one; there = rw (matching_length cs ds m) at h.there; is = refl }

pub matching_rule : (cs ds : List Clause) → Matching cs ds → (q : Step) (e : Clause) → ByRule cs q e → ByRule ds q e
matching_rule cs ds m q e r = record {
  c = get_or ds (q.first - 1) [];
  d = get_or ds (q.second - 1) [];
  first = matching_nth cs ds m q.first r.c r.first;
  second = matching_nth cs ds m q.second r.d r.second;
  resolves = resolves_over q.pivot r.c r.d e (get_or ds (q.first - 1) []) (get_or ds (q.second - 1) []) first_like second_like r.resolves;
}
  where
    first_like : Alike r.c (get_or ds (q.first - 1) [])
    first_like = rw r.first.is at (matching_at cs ds m (q.first - 1))

    second_like : Alike r.d (get_or ds (q.second - 1) [])
    second_like = rw r.second.is at (matching_at cs ds m (q.second - 1))

pub matching_run : RunsAlike
matching_run l cs ds qs out m ready = (ds, ready, m)
matching_run l cs ds qs out m (next {q = q} {qs = rs} {e = e} r w s) =
    let t = matching_run l (cs ++ (e ∷ [])) (ds ++ (e ∷ [])) rs out (matching_snoc cs ds e e m (λ x. refl)) s in
    (t.0, next (matching_rule cs ds m q e r) w t.1, t.2)
