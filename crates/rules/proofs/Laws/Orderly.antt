-- What holds of every outcome: a small number, few actions that fit the room, nothing done at a refusal, a sound table kept.
-- Assumes nothing.
use Rattle.std.specs.Prelude.{◌≡◌, refl, true, ◌≢◌, List, [], ℕ, ◌≤◌, length}
use Rattle.std.proofs.Common.{arith}
use Rattle.fields.specs.Table.{sound_table}
use Rattle.rules.specs.Rule.Frame.{Frame, frames}
use Rattle.rules.specs.Rule.Desk.{Change, stay, changed, Reply, refuse, reply}
use Rattle.rules.specs.Rule.Step.{Outcome, refused, made}
use Rattle.rules.specs.Held.{size}
use Rattle.rules.proofs.Laws.Frame.{length_frames}

pub record Orderly (t : List ℕ) (x : Outcome) : Type 0 where
  pub small : x.number ≤ 10
  pub few : length x.actions ≤ 4
  pub fits : length (frames x.actions) ≤ 4106
  pub refusal : x.number ≢ 0 → (x.actions ≡ []) × (x.table ≡ t)
  pub sound : sound_table t ≡ true → sound_table x.table ≡ true

-- the reply of a rule, made at seat s
abbrev pub OrderlyAt : List ℕ → ℕ → Reply → Type 0
OrderlyAt t s r = Orderly t (made t s r)

module _ (t : List ℕ) where
  pub no : (n : ℕ) → n ≤ 10 → Orderly t (refused n t)
  unfolding refused frames
  no n h = record { small = h; few = omega arith; fits = omega arith; refusal = λ _. (refl, refl); sound = λ e. e }

  pub no_reply : (s n : ℕ) → n ≤ 10 → OrderlyAt t s (refuse n)
  unfolding refuse made changed frames
  no_reply s n h = record { small = h; few = omega arith; fits = omega arith; refusal = λ _. (refl, refl); sound = λ e. e }

  pub ok_reply : (s : ℕ) (l : List Frame) (c : Change) → length l ≤ 4 → size l ≤ 4106
      → (sound_table t ≡ true → sound_table (changed t s c) ≡ true)
      → OrderlyAt t s (reply l c)
  unfolding reply made
  ok_reply s l c n m k =
      let z = length_frames l in
      record { small = omega arith; few = n; fits = omega arith; refusal = λ f. absurd (f refl); sound = k }

  -- actions alone
  pub ok_stay : (s : ℕ) (l : List Frame) → length l ≤ 4 → size l ≤ 4106 → OrderlyAt t s (reply l stay)
  unfolding changed
  ok_stay s l n m = ok_reply s l stay n m (λ e. e)
