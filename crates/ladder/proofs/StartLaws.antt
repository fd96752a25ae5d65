-- The start values: the loop over the STARTs, and that places hold what the rules say.
-- Assumes nothing.
use Prim.Native.Nat.{ℕ, suc, ◌+◌, ◌-◌, ◌≤◌, ◌<◌}
use mathlib.Core.Path.{◌≡◌, refl, sym, ap, ◌∙◌, subst, fun_ext}
use mathlib.Core.Bool.{Bool, true, false}
use mathlib.Core.List.{List, [], ◌∷◌, ◌++◌, append_assoc, map}
use native.Mathlib.Omega.{arith}
use mir.Val.{bool_byte}
use lib.ListN.{length, get_or, drop, set, length-append, length-drop, length-set}
use lib.Dec.{eqb}
use borrow.Author.Tests.{eqb-true, ne_eqb}
use Rattle.base.specs.Pick.{pick}
use Rattle.base.specs.Lists.{All, each}
use Rattle.rules.specs.Record.{number}
use Rattle.rules.specs.Sheet.{Start, with, start_of}
use Rattle.rules.specs.WriteSheet.{write_start, RisesFrom}
use Rattle.records.specs.Found.{number_at, byte_at}
use Rattle.formulas.proofs.ReadBack.{two_bytes_lem}
use Rattle.ladder.specs.Values.{on, bit_of}
use Rattle.ladder.specs.Starts.{start_places, StartsAt, Initialises}
use Rattle.ladder.proofs.StackLaws.{byte_is}
use Rattle.ladder.proofs.RungLaws.{drop_front}
use Rattle.ladder.proofs.ScanLaws.{on_set}

-- the STARTs that are left
pub record Starting (s : List ℕ) (from n : ℕ) (w₀ : List ℕ) (h : StartsAt s from n (length w₀)) (w : List ℕ) (at i : ℕ) : Type 0 where
  pub left : List Start
  pub bytes : drop at s ≡ each write_start left ++ h.rest
  pub count : i + length left ≡ n
  pub named : All (λ (x : Start). x.coil < length w₀) left
  pub stores : start_places w left ≡ start_places w₀ h.starts
  pub long : length w ≡ length w₀

abbrev pub Begun : List ℕ → ℕ → ℕ → List ℕ → List ℕ → ℕ → ℕ → Type 0
Begun s from n w₀ w at i = (h : StartsAt s from n (length w₀)) → Starting s from n w₀ h w at i

bit_back : (b : Bool) → eqb (pick b 1 0) 1 ≡ b
bit_back true = refl
bit_back false = refl

module _ (s : List ℕ) (from n : ℕ) (w₀ : List ℕ) where
  pub first_start : Begun s from n w₀ w₀ from 0
  first_start h = record { left = h.starts; bytes = h.bytes; count = let c = h.count in omega arith; named = h.named; stores = refl; long = refl }

  module _ (w : List ℕ) (at i : ℕ) (t : Begun s from n w₀ w at i) where
    pub all_started : n ≤ i → Initialises s from n w₀ w
    unfolding start_places
    all_started l h = go (t h).left refl
      where
        go : (x : List Start) → (t h).left ≡ x → w ≡ start_places w₀ h.starts
        go [] q = subst (λ (x : List Start). start_places w x ≡ start_places w₀ h.starts) q (t h).stores
        go (y ∷ ys) q =
            let z : length (t h).left ≡ suc (length ys) = rw q in
            let c = (t h).count in
            absurd (omega arith)

    module _ (l : i < n) where
      module _ (h : StartsAt s from n (length w₀)) where
        pub record Here : Type 0 where
          pub x : Start
          pub xs : List Start
          pub is : (t h).left ≡ x ∷ xs

        here : Here
        here = go (t h).left refl
          where
            go : (x : List Start) → (t h).left ≡ x → Here
            go [] q =
                let z : length (t h).left ≡ 0 = rw q in
                let c = (t h).count in
                absurd (omega arith)
            go (y ∷ ys) q = record { x = y; xs = ys; is = q }

        ahead : (y : Here) → drop at s ≡ write_start y.x ++ (each write_start y.xs ++ h.rest)
        ahead y = (t h).bytes ∙ ap (λ (z : List Start). each write_start z ++ h.rest) y.is ∙ append_assoc (write_start y.x) (each write_start y.xs) h.rest

        names : (y : Here) → (y.x.coil < length w₀) × All (λ (x : Start). x.coil < length w₀) y.xs
        names y = subst (λ (z : List Start). All (λ (x : Start). x.coil < length w₀) z) y.is (t h).named

        coil_is : (c : ℕ) → c ≡ number_at s at 1 → c ≡ here.x.coil
        unfolding write_start
        coil_is c q = q ∙ ap (λ (z : List ℕ). number z 1) (ahead here) ∙ two_bytes_lem here.x.coil

        value_is : (v : ℕ) → v ≡ byte_at s at 3 → eqb v 1 ≡ here.x.on
        unfolding write_start
        value_is v q = ap (λ (z : ℕ). eqb z 1) (q ∙ ap (λ (z : List ℕ). get_or z 3 0) (ahead here)) ∙ bit_back here.x.on

        pub start_there : (m c : ℕ) → m ≡ number_at s at 1 → c ≡ m → c < length w
        start_there m c q o = let e = coil_is c (o ∙ q) in let k = (names here).0 in let m = (t h).long in omega arith

        four_bytes : (x : Start) → length (write_start x) ≡ 4
        unfolding write_start
        four_bytes x = refl

        pub start_inside : at + 4 ≤ length s
        start_inside =
            let e : length s - at ≡ length (write_start here.x) + length (each write_start here.xs ++ h.rest) = sym (length-drop at s) ∙ ap length (ahead here) ∙ length-append (write_start here.x) _ in
            let f = four_bytes here.x in
            omega arith

        pub start_fits : length s < 18446744073709551616 → at + 4 < 18446744073709551616
        start_fits b = let e = start_inside in omega arith

        round : (c v b : ℕ) → c ≡ number_at s at 1 → v ≡ byte_at s at 3 → b ≡ bit_of (eqb v 1) → Starting s from n w₀ h (set w c b) (at + 4) (i + 1)
        unfolding start_places
        round c v b qc qv qb =
            let y = here in
            let put : start_places w (y.x ∷ y.xs) ≡ start_places w₀ h.starts = subst (λ (z : List Start). start_places w z ≡ start_places w₀ h.starts) y.is (t h).stores in
            let k : length (t h).left ≡ suc (length y.xs) = ap length y.is in
            record {
              left = y.xs;
              bytes = ap (λ (z : ℕ). drop (at + z) s) (sym (four_bytes y.x)) ∙ drop_front s at (write_start y.x) (each write_start y.xs ++ h.rest) (ahead y);
              count = let c = (t h).count in omega arith;
              named = (names y).1;
              stores = rw (coil_is c qc, qb, value_is v qv) put;
              long = length-set w c b ∙ (t h).long;
            }

      pub next_start : (m c v b : ℕ) → m ≡ number_at s at 1 → c ≡ m → v ≡ byte_at s at 3 → b ≡ bool_byte (eqb v 1) → Begun s from n w₀ (set w c b) (at + 4) (i + 1)
      next_start m c v b qm qc qv qb h = round h c v b (qc ∙ qm) qv (qb ∙ byte_is (eqb v 1))

    pub still_started : StartsAt s from n (length w₀) → length w ≡ length w₀
    still_started h = (t h).long

pub ruleset initialise_cases = (first_start, all_started, start_there, start_fits, next_start, still_started)

-- the start values over other values
over : (ℕ → Bool) → List Start → ℕ → Bool
over k [] c = k c
over k (x ∷ xs) c = pick (eqb c x.coil) x.on (over k xs c)

over_low : (k : ℕ → Bool) (xs : List Start) (m c : ℕ) → RisesFrom m (map (λ (x : Start). x.coil) xs) → c < m → over k xs c ≡ k c
unfolding over RisesFrom
over_low k [] m c r l = refl
over_low k (x ∷ xs) m c r l =
    let a = r.0 in
    rw (ne_eqb c x.coil (λ e. omega arith)) (over_low k xs (x.coil + 1) c r.1 (omega arith))

over_at : (k j : ℕ → Bool) (xs : List Start) (c : ℕ) → k c ≡ j c → over k xs c ≡ over j xs c
unfolding over
over_at k j [] c e = e
over_at k j (x ∷ xs) c e = ap (λ (b : Bool). pick (eqb c x.coil) x.on b) (over_at k j xs c e)

stored : (w : List ℕ) (xs : List Start) (m : ℕ) → RisesFrom m (map (λ (x : Start). x.coil) xs) → All (λ (x : Start). x.coil < length w) xs
    → on (start_places w xs) ≡ over (on w) xs
unfolding over start_places RisesFrom with
stored w [] m r a = refl
stored w (x ∷ xs) m r a =
    stored (set w x.coil (bit_of x.on)) xs (x.coil + 1) r.1 (more xs a.1)
    ∙ ap (λ (k : ℕ → Bool). over k xs) (on_set w x.coil x.on a.0)
    ∙ fun_ext (λ c. go c (eqb c x.coil) refl)
  where
    more : (ys : List Start) → All (λ (y : Start). y.coil < length w) ys → All (λ (y : Start). y.coil < length (set w x.coil (bit_of x.on))) ys
    more [] b = tt
    more (y ∷ ys) b = (rw length-set b.0, more ys b.1)

    go : (c : ℕ) (t : Bool) → eqb c x.coil ≡ t → over (with (on w) x.coil x.on) xs c ≡ pick (eqb c x.coil) x.on (over (on w) xs c)
    go c true e =
        let q : c ≡ x.coil = eqb-true c x.coil e in
        over_low (with (on w) x.coil x.on) xs (x.coil + 1) c r.1 (omega arith) ∙ rw e
    go c false e = over_at (with (on w) x.coil x.on) (on w) xs c (rw e) ∙ rw e

over_off : (xs : List Start) → over (λ (c : ℕ). false) xs ≡ start_of xs
unfolding over start_of
over_off [] = refl
over_off (x ∷ xs) = fun_ext (λ c. ap (λ (k : ℕ → Bool). pick (eqb c x.coil) x.on (k c)) (over_off xs))

-- from places that are all off, the start values are those of the rules
pub starts_are : (w : List ℕ) (xs : List Start) → on w ≡ (λ (c : ℕ). false) → RisesFrom 0 (map (λ (x : Start). x.coil) xs)
    → All (λ (x : Start). x.coil < length w) xs → on (start_places w xs) ≡ start_of xs
starts_are w xs z r a = stored w xs 0 r a ∙ ap (λ (k : ℕ → Bool). over k xs) z ∙ over_off xs
