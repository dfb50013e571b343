-- The tab of an id: what is found is live and has that id, and what is live is found. With the layout laws these know how an id is
-- made. Assumes nothing.
use Rattle.std.proofs.Math.Path.{◌≡◌, refl, sym, subst}
use Rattle.std.proofs.Common.{ap, ap₂, ◌∙◌, arith}
use Rattle.std.proofs.Math.Bool.{Bool, true, false, cond}
use Rattle.std.specs.Prelude.{◌&&◌, ◌≢◌, Some, None}
use Prim.Native.Nat.{ℕ, ◌+◌, ◌*◌, ◌≤◌}
use Rattle.std.proofs.Math.Dec.{eqb}
use borrow.Author.Tests.{eq-eqb, ne_eqb, eqb-true, eqb-false}
use Rattle.terms.specs.Laws.Bools.{and_left, and_right, and_both, fails}
use Rattle.terms.specs.Base.{Range}
use Rattle.fields.specs.Base.{lowest}
use Rattle.fields.specs.Rule.View.{View, serial}
use Rattle.fields.specs.Rule.Layout.{form, most_opens, tab_id, seat_of_id, serial_of_id}
use Rattle.fields.specs.Rule.Word.{live}
use Rattle.fields.specs.Rule.Find.{placed, slot_of, place_in, tab_of}
use Rattle.fields.specs.declared.place.Place.{Place}
use Rattle.fields.specs.Laws.Lowest.{lowest_at, lowest_is}
use Rattle.fields.specs.Laws.Sound.{Sound}

module _ (v : View) where
  pub record LiveAt (i s k : ℕ) : Type 0 where
    pub slot : Range 1 10 k
    pub there : live v s k ≡ true
    pub seat_is : s ≡ seat_of_id i
    pub serial_is : v (serial s k) ≡ serial_of_id i

  slot_of_lem : (s n : ℕ) → slot_of v s n ≢ 0
      → (Range 1 10 (slot_of v s n)) × (live v s (slot_of v s n) ≡ true) × (v (serial s (slot_of v s n)) ≡ n)
  unfolding slot_of
  slot_of_lem s n h =
      let f : ℕ → Bool = λ k. live v s k && eqb (v (serial s k)) n in
      let w = lowest_at 10 f h in
      let k = lowest 10 f in (
        w.range,
        and_left (live v s k) (eqb (v (serial s k)) n) w.passes,
        eqb-true (v (serial s k)) n (and_right (live v s k) (eqb (v (serial s k)) n) w.passes),
      )

  place_at : (x y s k : ℕ) → place_in x y ≡ Some (placed s k) → (y ≢ 0) × (x ≡ s) × (y ≡ k)
  unfolding place_in
  place_at x y s k = go (eqb y 0) refl
    where
      go : (b : Bool) → eqb y 0 ≡ b → cond b None (Some (placed x y)) ≡ Some (placed s k) → (y ≢ 0) × (x ≡ s) × (y ≡ k)
      go true e h = let z : ◌≡◌ {A = ℕ} 0 1 = cc in absurd (omega arith)
      go false e h =
          let p : placed x y ≡ placed s k = cc in
          (eqb-false y 0 e, ap (λ (q : Place). q.seat) p, ap (λ (q : Place). q.slot) p)

  pub tab_of_lem : (i s k : ℕ) → tab_of v i ≡ Some (placed s k) → LiveAt i s k
  unfolding tab_of
  tab_of_lem i s k e =
      let a = place_at (seat_of_id i) (slot_of v (seat_of_id i) (serial_of_id i)) s k e in
      let b = slot_of_lem (seat_of_id i) (serial_of_id i) a.0 in
      found s k a.1 a.2 b.0 b.1 b.2
    where
      found : (s k : ℕ) → seat_of_id i ≡ s → slot_of v (seat_of_id i) (serial_of_id i) ≡ k
          → Range 1 10 (slot_of v (seat_of_id i) (serial_of_id i))
          → live v (seat_of_id i) (slot_of v (seat_of_id i) (serial_of_id i)) ≡ true
          → v (serial (seat_of_id i) (slot_of v (seat_of_id i) (serial_of_id i))) ≡ serial_of_id i → LiveAt i s k
      found s k p q r l n =
          record {
            slot = subst (Range 1 10) q r;
            there = sym (ap₂ (live v) p q) ∙ l;
            seat_is = sym p;
            serial_is = sym (ap₂ (λ (a b : ℕ). v (serial a b)) p q) ∙ n;
          }

-- ---- ids

pub id_seat : (s n : ℕ) → n ≤ most_opens → seat_of_id (tab_id s n) ≡ s
unfolding seat_of_id tab_id most_opens form
id_seat s n h = omega arith

pub id_serial : (s n : ℕ) → n ≤ most_opens → serial_of_id (tab_id s n) ≡ n
unfolding serial_of_id tab_id most_opens form
id_serial s n h = omega arith

pub id_is : (s n : ℕ) → tab_id s n ≡ s * 65536 + n
unfolding tab_id
id_is s n = refl

pub id_one : (s n m : ℕ) → tab_id s n ≡ tab_id s m → n ≡ m
unfolding tab_id
id_one s n m e = omega arith

pub id_whole : (i : ℕ) → tab_id (seat_of_id i) (serial_of_id i) ≡ i
unfolding tab_id seat_of_id serial_of_id
id_whole i = omega arith

-- a live tab is found by its id, and by no other slot's
pub tab_found : (v : View) (s k : ℕ) → Sound most_opens v → Range 1 8 s → Range 1 10 k → live v s k ≡ true
    → tab_of v (tab_id s (v (serial s k))) ≡ Some (placed s k)
unfolding tab_of place_in slot_of
tab_found v s k w r q l =
    let n = v (serial s k) in
    let f : ℕ → Bool = λ j. live v s j && eqb (v (serial s j)) n in
    let a = w.serials_fit s k r q in
    let b = w.opens_fit s r in
    let e : lowest 10 f ≡ k
    = lowest_is 10 f k
    (record {
      range = q;
      passes = and_both (live v s k) (eqb n n) l (eq-eqb n n refl);
      below = λ i x y.
          fails (f i) (λ t.
          w.serials_apart s i k r x y q.high l
          (eqb-true (v (serial s i)) n (and_right (live v s i) (eqb (v (serial s i)) n) t)));
    }) in
    let z = q.low in
    rw (id_seat s n (omega arith), id_serial s n (omega arith), e, ne_eqb k 0 (λ x. omega arith))
