-- Every reply to a seat is orderly. Assumes nothing.
use Rattle.std.specs.Prelude.{not, ◌≢◌, ℕ, ◌-◌, ◌≤◌, length, eqb}
use mathlib.Core.List.{List, [], ◌∷◌, ◌++◌}
use Rattle.std.proofs.Common.{arith, length-append}
use borrow.Author.Tests.{eqb-false, not-false}
use Rattle.terms.specs.Base.{within}
use Rattle.terms.specs.Names.{folded, sound_book}
use Rattle.terms.specs.Laws.Bools.{cases}
use Rattle.terms.specs.Laws.Fold.{length_folded}
use Rattle.fields.specs.Table.{tenant, view, live, row}
use Rattle.fields.specs.Laws.Asked.{let_seat}
use Rattle.fields.specs.Laws.Find.{name_short}
use Rattle.fields.specs.Promises.{open_sound, pick_sound, close_sound}
use Rattle.rules.specs.Rule.Frame.{Frame, be}
use Rattle.rules.specs.Rule.Action.{bar, go, key, start_tab}
use Rattle.rules.specs.Rule.Desk.{Desk, desk, desk_at, changed, open_tab, select_tab, close_tab}
use Rattle.rules.specs.Rule.Seat.{only, acceptable, open_actions, open_rule, select_rule, close_actions, close_rule}
use Rattle.rules.specs.Rule.Seat.{pass_rule, plain, key_rule}
use Rattle.rules.specs.Held.{size}
use Rattle.rules.proofs.Laws.Cases.{either}
use Rattle.rules.proofs.Laws.Frame.{length_be}
use Rattle.rules.proofs.Laws.Open.{acceptable_suffix, openable}
use Rattle.rules.proofs.Laws.Orderly.{OrderlyAt, no_reply, ok_reply, ok_stay}

-- ---- actions

-- how many, and how many bytes
pub record Modest (n m : ℕ) (l : List Frame) : Type 0 where
  pub few : length l ≤ n
  pub short : size l ≤ m

pub open_modest : (d : Desk) (i : ℕ) (x : List ℕ) → length x ≤ 64 → Modest 4 4106 (open_actions d i x)
unfolding open_actions only
open_modest d i x h =
    let f = length_folded x in
    let b = length_be 1 d.owner in
    let p = length-append (be 1 d.owner) (folded x) in
    either (λ (l : List Frame). Modest 4 4106 (l ++ (start_tab i ∷ go i (folded x) ∷ bar d.seat (folded x) ∷ [])))
    (d.new x) _ _
    (λ _. record { few = omega arith; short = omega arith }) (λ _. record { few = omega arith; short = omega arith })

pub close_modest : (d : Desk) (k : ℕ) → Modest 4 4106 (close_actions d k)
unfolding close_actions only
close_modest d k =
    cases (d.last_tab k) (λ e. rw e (record { few = omega arith; short = omega arith }))
    (λ e. rw e (record { few = omega arith; short = omega arith }))

-- ---- rules

module _ (t : List ℕ) (s : ℕ) (l : view t (tenant s) ≢ 0) where
  pub open_orderly : (b x : List ℕ) → OrderlyAt t s (open_rule (desk_at t s) b x)
  unfolding open_rule changed desk
  open_orderly b x =
      let d = desk_at t s in
      either (OrderlyAt t s) (not (sound_book b)) _ _ (λ _. no_reply t s 6 (omega arith))
      (λ _. either (OrderlyAt t s) (not (acceptable b x)) _ _ (λ _. no_reply t s 7 (omega arith))
      (λ a. either (OrderlyAt t s) (eqb d.tab_count 10) _ _ (λ _. no_reply t s 8 (omega arith))
      (λ n. either (OrderlyAt t s) d.spent _ _ (λ _. no_reply t s 9 (omega arith))
      (λ m.
      let ok = not-false (acceptable b x) a in
      let q = (acceptable_suffix b x ok).size.high in
      ok_reply t s _ (open_tab x) (open_modest d _ x q).few (open_modest d _ x q).short
      (λ e. open_sound t s x (openable t b x s e l ok n m))))))

  select_orderly : (k : ℕ) → OrderlyAt t s (select_rule (desk_at t s) k)
  unfolding select_rule desk changed
  select_orderly k =
      let n = name_short (view t) (view t (row s k)) in
      either (OrderlyAt t s) (live (view t) s k) _ _
      (λ h. ok_reply t s _ (select_tab k) (omega arith) (omega arith) (λ e. pick_sound t s k (record { sound = e; there = h })))
      (λ _. ok_stay t s [] (omega arith) (omega arith))

  close_orderly : OrderlyAt t s (close_rule (desk_at t s))
  unfolding close_rule desk changed
  close_orderly =
      let d = desk_at t s in
      let z = close_modest d d.chosen in
      either (OrderlyAt t s) (eqb d.chosen 0) _ _ (λ _. ok_stay t s [] (omega arith) (omega arith))
      (λ h.
      ok_reply t s _ close_tab z.few z.short
      (λ e. close_sound t s (record { sound = e; seat = let_seat t s l; picked = eqb-false d.chosen 0 h })))

  pub pass_orderly : (a : ℕ → Frame) → ((i : ℕ) → length (a i).payload ≤ 4096) → OrderlyAt t s (pass_rule (desk_at t s) a)
  unfolding pass_rule
  pass_orderly a h =
      let d = desk_at t s in
      let n = h (d.id d.chosen) in
      either (OrderlyAt t s) (eqb d.chosen 0) _ _ (λ _. ok_stay t s [] (omega arith) (omega arith))
      (λ _. ok_stay t s _ (omega arith) (omega arith))

  pub key_orderly : (k : ℕ) → OrderlyAt t s (key_rule (desk_at t s) k)
  unfolding key_rule
  key_orderly k =
      either (OrderlyAt t s) (within 14 23 k) _ _ (λ _. select_orderly (k - 13))
      (λ _. either (OrderlyAt t s) (eqb k 25) _ _ (λ _. close_orderly)
      (λ _. either (OrderlyAt t s) (plain k) _ _ (λ _. pass_orderly (λ i. key i k) (λ i. let n = length_be 1 k in omega arith))
      (λ _. no_reply t s 5 (omega arith))))
