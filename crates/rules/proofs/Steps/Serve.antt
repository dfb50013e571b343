-- How what src/serve.rt and `decide` call comes to the rule of an event. Assumes nothing.
use Rattle.std.specs.Prelude.{ℕ, ◌+◌, ◌-◌, ◌≤◌, ◌<◌, ◌≡◌, Bool, true, false, not, ◌≢◌, length, take, drop, eqb, Option, Some, None, Result, Err}
use Rattle.std.proofs.Math.Path.{sym}
use Rattle.std.proofs.Common.{ap, subst, ◌∙◌, arith, eq-eqb, ne_eqb}
use mathlib.Core.List.{List}
use Rattle.std.proofs.lemmas.Bool.{eqb-false, not-true, not-false}
use Rattle.fields.specs.Table.{view, tenant, placed, tab_of, process_of}
use Rattle.fields.specs.Laws.Tab.{tab_of_lem}
use Rattle.fields.specs.declared.place.Place.{Place}
use Rattle.rules.specs.Rule.Frame.{framed}
use Rattle.rules.specs.Rule.Event.{part}
use Rattle.rules.specs.Rule.Desk.{desk_at}
use Rattle.rules.specs.Rule.Seat.{open_rule, pass_rule, key_rule, seat_rule}
use Rattle.rules.specs.Rule.Tab.{display_rule, socket_rule, url_rule, store_rule, retrieve_rule, tab_rule, result_rule}
use Rattle.rules.specs.Rule.Tab.{document_rule}
use Rattle.rules.specs.Rule.Step.{at_tab, event_rule}
use Rattle.rules.specs.Held.{Replied, Decided, Able, Ready, ReadyTab, PartIn, StoreIn, TabIn}
use Rattle.rules.proofs.Laws.Frame.{length_part}
use Rattle.rules.proofs.Steps.Decide.{decided_refused, decided_replied}
use Rattle.rules.specs.declared.verdict.Done.{Done}
use Rattle.rules.specs.declared.verdict.Refusal.{Refusal}
use Rattle.rules.specs.declared.verdict.Refusal.TheVariants.{NoSender, NotAwaited}
use Rattle.rules.specs.declared.event.Part.{Part}
use Rattle.rules.specs.declared.event.Delivery.{Delivery}
use Rattle.rules.specs.declared.event.SeatMessage.{SeatMessage}
use Rattle.rules.specs.declared.event.SeatMessage.TheVariants.{Key, Mouse, Open}
use Rattle.rules.specs.declared.event.TabMessage.{TabMessage}
use Rattle.rules.specs.declared.event.TabMessage.TheVariants.{Display, Socket, Url, Store, Retrieve}
use Rattle.rules.specs.declared.event.Event.{Event}
use Rattle.rules.specs.declared.event.Event.TheVariants.{Seat, Tab, Process, Network}

-- ---- parts of an event

pub part_is : (e : List ℕ) (p : Part) → take ((p.at + p.len) - p.at) (drop p.at e) ≡ part e p
unfolding part
part_is e p = let h : (p.at + p.len) - p.at ≡ p.len = omega arith in ap (λ (k : ℕ). take k (drop p.at e)) h

pub part_small : {x : List ℕ} (e : List ℕ) (p : Part) → x ≡ part e p → PartIn e p → length x ≤ 4096
part_small e p f h = let l = length_part e p in let k = ap length f in omega (arith, l, k, h.1)

pub host_small : {x : List ℕ} (e : List ℕ) (port : ℕ) (p : Part) → x ≡ part e p → TabIn e (Socket port p) → 2 + length x ≤ 4096
host_small e port p f h = let l = length_part e p in let k = ap length f in omega (arith, l, k, h.1)

pub store_small : {x z : List ℕ} (e : List ℕ) (d c : Part) → x ≡ part e d → z ≡ part e c → StoreIn e d c
    → (1 + length x + length z ≤ 4096) × (length x < 256)
store_small e d c f g h =
    let l = length_part e d in
    let m = length_part e c in
    let k = ap length f in
    let n = ap length g in
    (omega (arith, l, m, k, n, h.both), omega (arith, l, k, h.short))

-- ---- what a seat sends

module _ {t o t' o' : List ℕ} {s : ℕ} {g : Result Done Refusal} (b e : List ℕ) where
  pub seat_key : {m : SeatMessage} (k : ℕ) → m ≡ Key k → Replied t s (key_rule (desk_at t s) k) o t' o' g
      → Replied t s (seat_rule (desk_at t s) b e m) o t' o' g
  unfolding seat_rule
  seat_key k h w = rw h w

  pub seat_mouse : {m : SeatMessage} {x : List ℕ} (p : Part) → m ≡ Mouse p → x ≡ part e p
      → Replied t s (pass_rule (desk_at t s) (λ (i : ℕ). framed 2 i 4 x)) o t' o' g
      → Replied t s (seat_rule (desk_at t s) b e m) o t' o' g
  unfolding seat_rule
  seat_mouse p h f w =
      rw h (subst (λ (y : List ℕ). Replied t s (pass_rule (desk_at t s) (λ (i : ℕ). framed 2 i 4 y)) o t' o' g) f w)

  pub seat_open : {m : SeatMessage} {x : List ℕ} (p : Part) → m ≡ Open p → x ≡ part e p
      → Replied t s (open_rule (desk_at t s) b x) o t' o' g → Replied t s (seat_rule (desk_at t s) b e m) o t' o' g
  unfolding seat_rule
  seat_open p h f w = rw h (subst (λ (y : List ℕ). Replied t s (open_rule (desk_at t s) b y) o t' o' g) f w)

-- ---- what a tab sends

module _ {t o t' o' : List ℕ} {s : ℕ} {g : Result Done Refusal} (b e : List ℕ) (k : ℕ) where
  pub tab_display : {m : TabMessage} {x : List ℕ} (p : Part) → m ≡ Display p → x ≡ part e p
      → Replied t s (display_rule (desk_at t s) k x) o t' o' g → Replied t s (tab_rule (desk_at t s) b e k m) o t' o' g
  unfolding tab_rule
  tab_display p h f w = rw h (subst (λ (y : List ℕ). Replied t s (display_rule (desk_at t s) k y) o t' o' g) f w)

  pub tab_socket : {m : TabMessage} {x : List ℕ} (port : ℕ) (p : Part) → m ≡ Socket port p → x ≡ part e p
      → Replied t s (socket_rule (desk_at t s) k port x) o t' o' g → Replied t s (tab_rule (desk_at t s) b e k m) o t' o' g
  unfolding tab_rule
  tab_socket port p h f w = rw h (subst (λ (y : List ℕ). Replied t s (socket_rule (desk_at t s) k port y) o t' o' g) f w)

  pub tab_url : {m : TabMessage} {x : List ℕ} (p : Part) → m ≡ Url p → x ≡ part e p
      → Replied t s (url_rule (desk_at t s) k x) o t' o' g → Replied t s (tab_rule (desk_at t s) b e k m) o t' o' g
  unfolding tab_rule
  tab_url p h f w = rw h (subst (λ (y : List ℕ). Replied t s (url_rule (desk_at t s) k y) o t' o' g) f w)

  pub tab_store : {m : TabMessage} {x z : List ℕ} (d c : Part) → m ≡ Store d c → x ≡ part e d → z ≡ part e c
      → Replied t s (store_rule (desk_at t s) k x z) o t' o' g → Replied t s (tab_rule (desk_at t s) b e k m) o t' o' g
  unfolding tab_rule
  tab_store {z = z} d c h f q w =
      rw h
      (subst (λ (y : List ℕ). Replied t s (store_rule (desk_at t s) k (part e d) y) o t' o' g) q
      (subst (λ (y : List ℕ). Replied t s (store_rule (desk_at t s) k y z) o t' o' g) f w))

  pub tab_retrieve : {m : TabMessage} {x : List ℕ} (p : Part) → m ≡ Retrieve p → x ≡ part e p
      → Replied t s (retrieve_rule (desk_at t s) k x) o t' o' g → Replied t s (tab_rule (desk_at t s) b e k m) o t' o' g
  unfolding tab_rule
  tab_retrieve p h f w = rw h (subst (λ (y : List ℕ). Replied t s (retrieve_rule (desk_at t s) k y) o t' o' g) f w)

-- ---- an event

pub seat_there : {t o : List ℕ} {r : Bool} (s : ℕ) → Able t o → r ≡ not (eqb (view t (tenant s)) 0) → r ≡ true → Ready t o s
seat_there {t} s w e h =
    record {
      sound = w.sound;
      roomy = w.roomy;
      is_let = eqb-false (view t (tenant s)) 0 (not-true (eqb (view t (tenant s)) 0) (sym e ∙ h));
    }

pub tab_there : {t o : List ℕ} {s k : ℕ} {place : Option Place} (i : ℕ) → Able t o → place ≡ tab_of (view t) i → place ≡ Some (placed s k)
    → ReadyTab t o s k
tab_there {t} {o} {s} {k} i w e h =
    record { sound = w.sound; roomy = w.roomy; there = (tab_of_lem (view t) i s k (sym e ∙ h)).there }

module _ {t o : List ℕ} (b e : List ℕ) where
  pub seat_unlet : {r : Bool} (s : ℕ) (m : SeatMessage) → r ≡ not (eqb (view t (tenant s)) 0) → r ≡ false
      → Decided (event_rule t b e (Seat s m)) o t o (Err NoSender)
  unfolding event_rule
  seat_unlet s m f h = decided_refused NoSender (rw (not-false (eqb (view t (tenant s)) 0) (sym f ∙ h)))

  pub tab_dead : {place : Option Place} (i : ℕ) (m : TabMessage) → place ≡ tab_of (view t) i → place ≡ None
      → Decided (event_rule t b e (Tab i m)) o t o (Err NoSender)
  unfolding event_rule at_tab
  tab_dead i m f h = decided_refused NoSender (rw (sym f ∙ h))

  pub process_dead : {p : ℕ} (n : ℕ) (d : Delivery) → p ≡ process_of (view t) n → p ≡ 0
      → Decided (event_rule t b e (Process n d)) o t o (Err NoSender)
  unfolding event_rule
  process_dead n d f h = decided_refused NoSender (rw (eq-eqb (process_of (view t) n) 0 (sym f ∙ h)))

  pub process_nowhere : {p : ℕ} {place : Option Place} (n : ℕ) (d : Delivery) → p ≡ process_of (view t) n → p ≢ 0
      → place ≡ tab_of (view t) d.tab → place ≡ None → Decided (event_rule t b e (Process n d)) o t o (Err NotAwaited)
  unfolding event_rule at_tab
  process_nowhere n d f h q z = decided_refused NotAwaited (rw (ne_eqb (process_of (view t) n) 0 (λ y. h (f ∙ y)), sym q ∙ z))

  pub network_other : (n : ℕ) (d : Delivery) → n ≢ 0 → Decided (event_rule t b e (Network n d)) o t o (Err NoSender)
  unfolding event_rule
  network_other n d h = decided_refused NoSender (rw (ne_eqb n 0 h))

  pub network_nowhere : {place : Option Place} (n : ℕ) (d : Delivery) → n ≡ 0 → place ≡ tab_of (view t) d.tab → place ≡ None
      → Decided (event_rule t b e (Network n d)) o t o (Err NotAwaited)
  unfolding event_rule at_tab
  network_nowhere n d h q z = decided_refused NotAwaited (rw (eq-eqb n 0 h, sym q ∙ z))

module _ {t o t' o' : List ℕ} {g : Result Done Refusal} (b e : List ℕ) where
  pub seat_served : {r : Bool} (s : ℕ) (m : SeatMessage) → r ≡ not (eqb (view t (tenant s)) 0) → r ≡ true
      → Replied t s (seat_rule (desk_at t s) b e m) o t' o' g → Decided (event_rule t b e (Seat s m)) o t' o' g
  unfolding event_rule
  seat_served s m f h w = decided_replied (rw (not-true (eqb (view t (tenant s)) 0) (sym f ∙ h))) w

  pub tab_served : {place : Option Place} {s k : ℕ} (i : ℕ) (m : TabMessage) → place ≡ tab_of (view t) i → place ≡ Some (placed s k)
      → Replied t s (tab_rule (desk_at t s) b e k m) o t' o' g → Decided (event_rule t b e (Tab i m)) o t' o' g
  unfolding event_rule at_tab
  tab_served i m f h w = decided_replied (rw (sym f ∙ h)) w

  pub process_served : {p : ℕ} {place : Option Place} {s k : ℕ} {x : List ℕ} (n : ℕ) (d : Delivery) → p ≡ process_of (view t) n → p ≢ 0
      → place ≡ tab_of (view t) d.tab → place ≡ Some (placed s k) → x ≡ part e d.body
      → Replied t s (result_rule (desk_at t s) n k x) o t' o' g → Decided (event_rule t b e (Process n d)) o t' o' g
  unfolding event_rule at_tab
  process_served {s = s} {k = k} n d f h q z y w =
      decided_replied (rw (ne_eqb (process_of (view t) n) 0 (λ y. h (f ∙ y)), sym q ∙ z))
      (subst (λ (y : List ℕ). Replied t s (result_rule (desk_at t s) n k y) o t' o' g) y w)

  pub network_served : {place : Option Place} {s k : ℕ} {x : List ℕ} (n : ℕ) (d : Delivery) → n ≡ 0 → place ≡ tab_of (view t) d.tab
      → place ≡ Some (placed s k) → x ≡ part e d.body → Replied t s (document_rule (desk_at t s) k x) o t' o' g
      → Decided (event_rule t b e (Network n d)) o t' o' g
  unfolding event_rule at_tab
  network_served {s = s} {k = k} n d h q z y w =
      decided_replied (rw (eq-eqb n 0 h, sym q ∙ z))
      (subst (λ (y : List ℕ). Replied t s (document_rule (desk_at t s) k y) o t' o' g) y w)

pub event_is : {o t' o' : List ℕ} {g : Result Done Refusal} {v w : Event} (t b e : List ℕ) → v ≡ w → Decided (event_rule t b e w) o t' o' g
    → Decided (event_rule t b e v) o t' o' g
event_is t b e h d = rw h d
