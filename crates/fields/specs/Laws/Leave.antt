-- After a close the seat and its tab row are in form, whether a process row is cleared besides or not. Assumes nothing.
use Rattle.std.specs.Prelude.{◌≡◌, true, false, ◌≢◌, ℕ}
use Rattle.std.proofs.Common.{sym, ◌∙◌, inr, arith}
use Rattle.std.proofs.lemmas.Bool.{false≢true}
use Rattle.terms.specs.Base.{Range}
use Rattle.fields.specs.Base.{sum, bits}
use Rattle.fields.specs.Rule.View.{View, tenant, selected, opens, slots}
use Rattle.fields.specs.Rule.Word.{live}
use Rattle.fields.specs.Rule.Update.{unhanging}
use Rattle.fields.specs.Change.{changes}
use Rattle.fields.specs.Laws.Sum.{sum_at}
use Rattle.fields.specs.Laws.Bits.{bits_more}
use Rattle.fields.specs.Laws.Sound.{EmptyTab, Sound, live_not, zero_free}
use Rattle.fields.specs.Laws.Seats.{Changed, Formed, live=}
use Rattle.fields.specs.Laws.Still.{SeatsStill, changed_before}
use Rattle.fields.specs.Laws.Close.{Unhung, unhung_fields}

-- a live tab sits in a seat that is let
pub let_of : (most : ℕ) (v : View) (s k : ℕ) → Sound most v → Range 1 8 s → Range 1 10 k → live v s k ≡ true → v (tenant s) ≢ 0
let_of most v s k w r q l z = live_not v s k l ((w.not_let s r z).tabs0 k q).serial0

module _ (most : ℕ) (v u : View) (s k p : ℕ) (w : Sound most v) (seat : Range 1 8 s) (slot : Range 1 10 k)
    (there : live v s k ≡ true)
    (still : SeatsStill (changes v (unhanging v s k p)) u) where
  abbrev taken : View
  taken = changes v (unhanging v s k p)

  was : Unhung v taken s k p
  was = unhung_fields v s k p

  pub close_changed : Changed v u s k
  close_changed = changed_before v taken u s k was.rest still

  gone : EmptyTab u s k
  gone =
      record {
        serial0 = still.serial= s k ∙ was.gone.serial0;
        row0 = still.row= s k ∙ was.gone.row0;
        waiting0 = still.waiting= s k ∙ was.gone.waiting0;
      }

  pub close_free : live u s k ≡ false
  close_free = zero_free u s k gone.serial0

  selected_now : u (selected s) ≡ 0
  selected_now = still.selected= s ∙ was.selected!

  opens_now : u (opens s) ≡ v (opens s)
  opens_now = still.opens= s ∙ was.opens!

  map_now : u (slots s) ≡ bits 10 (λ j. live u s j)
  map_now =
      let a = bits_more 10 (λ j. live u s j) (λ j. live v s j) k slot close_free there
      (λ j r h. live= v u s k close_changed s j (inr h)) in
      let b = w.map_agrees s seat in
      let d = still.slots= s in
      let e = was.slots! in
      omega arith

  pub close_formed : Formed most v u s k
  close_formed =
      record {
        seat = seat;
        slot = slot;
        is_let = let_of most v s k w seat slot there;
        grows = let a = opens_now in omega arith;
        at_most = let a = opens_now in let b = w.opens_fit s seat in omega arith;
        picked = let a = selected_now in omega arith;
        picked_live = λ h. absurd (h selected_now);
        map_is = map_now;
        wait = let a = gone.waiting0 in omega arith;
        empty = λ e. gone;
        fits = let a = gone.serial0 in omega arith;
        new = λ e. absurd (false≢true (sym close_free ∙ e));
      }

  pub opens_sum_same : sum 8 (λ r. u (opens r)) ≡ sum 8 (λ r. v (opens r))
  opens_sum_same =
      let a = sum_at 8 (λ r. u (opens r)) (λ r. v (opens r)) s seat (λ r q h. close_changed.opens= r h) in
      let b = opens_now in
      omega arith
