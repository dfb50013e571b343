-- The freight forwarder's history, step by step: the desks that have not opened a tab yet, and the tabs that stand. What comes of
-- desk 1's tab is in ForwarderTab. Assumes nothing.
use Rattle.std.specs.Prelude.{ℕ, ◌+◌, ◌≤◌, ◌≡◌, Bool, true, false, ◌&&◌, ◌||◌, ◌≢◌, List, [], ◌∷◌, ◌++◌, eqb, length}
use Rattle.std.proofs.Math.Path.{refl, sym, ap₂}
use Rattle.std.proofs.Common.{ap, subst, ◌∙◌, inl, ⊎_elim, arith, ne_eqb}
use Rattle.std.proofs.lemmas.Bool.{false≢true}
use Rattle.terms.specs.Names.{folded, orders, letting_of, tenant_of}
use Rattle.terms.specs.Text as Text
use Rattle.terms.specs.Forwarder.{forwarder, forwarder_sound, Typed}
use Rattle.terms.specs.Laws.Bools.{fails, or_fails}
use Rattle.terms.specs.Base.{Range}
use Rattle.fields.specs.Base.{one}
use Rattle.fields.specs.Table.{tenant, opens, most_opens, table_bytes, view, live, live_tabs, Openable, fresh, opened, waits}
use Rattle.fields.specs.declared.mark.Mark.{Mark}
use Rattle.fields.specs.Laws.Sound.{zero_free}
use Rattle.fields.specs.Laws.Fresh.{fresh_tenant, fresh_fields}
use Rattle.fields.specs.Laws.First.{first_left, first_slot}
use Rattle.fields.specs.Laws.Can.{first_serial}
use Rattle.rules.specs.Rule.Call.{Call, step, actions, is_frame, among, times}
use Rattle.rules.specs.Rule.History.{History, started, stepped}
use Rattle.rules.specs.Sheet.{Frame, Outcome, framed, bytes, frames, over, answer, room_needed, step_of, start_of, Started}
use Rattle.rules.specs.Rule.Desk.{Desk, desk_at, new_id, suffix_at}
use Rattle.rules.specs.Rule.Action.{bar, go, start_tab}
use Rattle.rules.specs.Rule.Seat.{only, open_actions}
use Rattle.rules.proofs.Laws.Cases.{either}
use Rattle.rules.proofs.Laws.Open.{openable}
use Rattle.rules.proofs.Laws.Happens.{did}
use Rattle.rules.proofs.Laws.Forward.{start_does, acceptable_of, open_frame}
use Rattle.rules.proofs.Laws.Start.{start_reads}
use Rattle.rules.proofs.Time.Induct.{history_sound}
use Rattle.rules.proofs.Time.Rows.{opened_heads}
use Rattle.rules.proofs.Time.Same.{stays_live}
use Rattle.rules.proofs.Time.Tabs.{Stays, New, opened_new, opened_tab, opened_waits, opened_keeps}

-- ---- a history that has come to a table

-- the kinds of action that an open gives: start process, start tab, go, bar
unfoldable pub opening : ℕ → ℕ → Bool
opening p g = eqb 5 p && eqb 3 g || eqb 5 p && eqb 1 g || eqb 2 p && eqb 1 g || eqb 1 p && eqb 1 g

-- after the calls cs the table is t, and of every other kind the actions l were given
pub record Reached (cs : List Call) (t : List ℕ) (l : List Frame) : Type 0 where
  pub history : History forwarder cs t
  pub given : (p i g : ℕ) → opening p g ≡ false → times p i g cs ≡ among p i g l

-- a start, of any table
pub begun : (lent : List ℕ) → length lent ≡ table_bytes → Reached [] (fresh forwarder) []
unfolding times among
begun lent h =
    let d = start_does lent forwarder h forwarder_sound in
    let w : Started (start_of lent forwarder) (fresh forwarder) (answer (start_of lent forwarder))
    = record { says = refl; table = sym (ap (λ (x : Outcome). x.table) d) } in
    record {
      history = started lent forwarder w (start_reads lent forwarder w ∙ ap (λ (x : Outcome). x.number) d);
      given = λ p i g h. refl;
    }

-- a step with an event, in any room
abbrev pub call : List ℕ → List ℕ → List ℕ → List ℕ → Call
call room t e u =
    step t forwarder e (length room) (answer (step_of (length room) t forwarder e)) (step_of (length room) t forwarder e).actions u

module _ {cs : List Call} {t u : List ℕ} {l a : List Frame} (room e : List ℕ) (r : Reached cs t l)
    (q : step_of (length room) t forwarder e ≡ did a u) where
  pub next : {m : List Frame} → ((p i g : ℕ) → opening p g ≡ false → among p i g a + among p i g l ≡ among p i g m)
      → Reached (call room t e u ∷ cs) u m
  unfolding times actions
  next f =
      let x = step_of (length room) t forwarder e in
      record {
        history = stepped r.history forwarder e {o = room} {u = u} {o' = over room 0 (frames x.actions)} {r = answer x}
            (record { says = refl; table = sym (ap (λ (x : Outcome). x.table) q); room = refl });
        given = λ p i g h.
            ap₂ (λ (n m : ℕ). n + m) (ap (λ (x : Outcome). among p i g x.actions) q) (r.given p i g h) ∙ f p i g h;
      }

-- actions that are counted
pub among_both : (a l : List Frame) (p i g : ℕ) → among p i g a + among p i g l ≡ among p i g (a ++ l)
unfolding among
among_both [] l p i g = omega arith
among_both (b ∷ a) l p i g = let h = among_both a l p i g in omega arith

-- those of an open are of those kinds
open_among : (d : Desk) (n : ℕ) (x : List ℕ) (p i g : ℕ) → opening p g ≡ false → among p i g (open_actions d n x) ≡ 0
unfolding opening open_actions only among is_frame one
open_among d n x p i g h =
    let a = eqb 5 p && eqb 3 g in
    let b = eqb 5 p && eqb 1 g in
    let c = eqb 2 p && eqb 1 g in
    let f = or_fails (a || b || c) (eqb 1 p && eqb 1 g) h in
    let k = or_fails (a || b) c f.0 in
    let j = or_fails a b k.0 in
    either (λ (l : List Frame). among p i g (l ++ (start_tab n ∷ go n (folded x) ∷ bar d.seat (folded x) ∷ [])) ≡ 0) (d.new x) _ _
    (λ _. rw (j.0, j.1, k.1, f.1)) (λ _. rw (j.1, k.1, f.1))

-- ---- desks and tabs

-- a desk that is let and has opened no tab yet
pub record Idle (t : List ℕ) (s : ℕ) : Type 0 where
  pub is_let : view t (tenant s) ≢ 0
  pub opens0 : view t (opens s) ≡ 0
  pub none : (k : ℕ) → live (view t) s k ≡ false

-- a desk's first tab, on a.com
pub record Stands (t : List ℕ) (s : ℕ) : Type 0 where
  pub there : live (view t) s 1 ≡ true
  pub suffix= : suffix_at t s 1 ≡ Text.bytes "a.com"

pub fresh_idle : (s : ℕ) → Range 1 8 s → tenant_of (letting_of s (orders forwarder)) ≡ 7 → Idle (fresh forwarder) s
fresh_idle s r e =
    let f = fresh_fields forwarder forwarder_sound in
    let q = fresh_tenant forwarder forwarder_sound s r in
    record {
      is_let = λ z. omega arith;
      opens0 = f.opens0 s;
      none = λ k. zero_free (view (fresh forwarder)) s k (f.tab0 s k).serial0;
    }

pub stays_stands : (t u : List ℕ) (s : ℕ) → Stays t u s 1 → Stands t s → Stands u s
stays_stands t u s w h = record { there = stays_live t u s 1 w; suffix= = w.suffix= ∙ h.suffix= }

-- ---- the first open of an idle desk

pub record FirstOpen (room : List ℕ) (cs : List Call) (t : List ℕ) (s : ℕ) (x : List ℕ) : Type 0 where
  pub takes : Openable t s x
  pub reach : Reached (call room t (bytes (framed 1 s 3 x)) (opened t s x) ∷ cs) (opened t s x) []
  pub new : New t (opened t s x) s 1 x
  pub stands : Stands (opened t s x) s
  pub keeps : (q : ℕ) → Stands t q → Stands (opened t s x) q
  pub waits= : (q : ℕ) → q ≢ s → (m : Mark) → waits (view (opened t s x)) q 1 m ≡ waits (view t) q 1 m
  pub idle : (q : ℕ) → q ≢ s → Idle t q → Idle (opened t s x) q

module _ (t : List ℕ) (s : ℕ) (x : List ℕ) (w : Openable t s x) where
  opens_keeps : (q : ℕ) → Stands t q → Stands (opened t s x) q
  opens_keeps q h = stays_stands t (opened t s x) q (opened_keeps t s x w q 1 h.there) h

  opens_idle : (q : ℕ) → q ≢ s → Idle t q → Idle (opened t s x) q
  opens_idle q n h =
      let a = opened_heads t s x w in
      record {
        is_let = λ z. h.is_let (sym (a.tenant= q) ∙ z);
        opens0 = a.opens= q n ∙ h.opens0;
        none = λ k.
            fails (live (view (opened t s x)) q k)
            (λ l.
            ⊎_elim (λ e. n e.0) (λ (y : Stays t (opened t s x) q k). false≢true (sym (h.none k) ∙ y.was))
            (opened_tab t s x w q k l));
      }

pub first_open : {cs : List Call} (room t : List ℕ) (s : ℕ) (x : List ℕ) → room_needed ≤ length room → Reached cs t [] → Idle t s
    → Typed x (Text.bytes "a.com") → FirstOpen room cs t s x
first_open room t s x enough r d y =
    let n = first_left (view t) s d.none in
    let z = d.opens0 in
    let m = first_serial in
    let a = acceptable_of forwarder x y.suffix= in
    let w : Openable t s x
    = openable t forwarder x s (history_sound r.history) d.is_let a (ne_eqb (live_tabs (view t) s) 10 (λ q. omega arith))
    (ne_eqb (view t (opens s)) most_opens (λ q. omega arith)) in
    let new : New t (opened t s x) s 1 x
    = subst (λ (k : ℕ). New t (opened t s x) s k x) (first_slot (view t) s d.none) (opened_new t s x w) in
    record {
      takes = w;
      reach = next room (bytes (framed 1 s 3 x)) r (open_frame (length room) t forwarder s x enough w a)
          (λ p i g h. omega (arith, open_among (desk_at t s) (new_id (view t) s) x p i g h));
      new = new;
      stands = record { there = new.there; suffix= = new.suffix= ∙ y.folds };
      keeps = opens_keeps t s x w;
      waits= = λ q n m. (opened_waits t s x w q 1 (inl n)).waits= m;
      idle = opens_idle t s x w;
    }
