-- What a call does, said forward: a start with a sound book, an open that the table takes, a close that ends a process. `Happens`
-- says what a step can come to; here is when it comes to these, for an event that is a frame's bytes. ForwardTab has the like of
-- tabs. Assumes nothing.
use Rattle.std.specs.Prelude.{ℕ, ◌≤◌, ◌≡◌, true, ◌≢◌, List, [], ◌∷◌, length, Some}
use Rattle.std.proofs.Math.Path.{ap}
use Rattle.std.proofs.Common.{◌∙◌, arith}
use borrow.Author.Tests.{le-ltb, eq-eqb, ne_eqb}
use Rattle.terms.specs.Names.{sound_book, all_of, suffix_of, is_name, under}
use Rattle.terms.specs.Laws.Bools.{and_both}
use Rattle.terms.specs.Laws.Lists.{alike_refl}
use Rattle.fields.specs.Table.{tenant, selected, opens, row, tabs, most_opens, table_bytes, view, sound_table, live_tabs}
use Rattle.fields.specs.Table.{Openable, Closable, fresh, opened, closed}
use Rattle.rules.specs.Rule.Frame.{be, framed, bytes}
use Rattle.rules.specs.Rule.Action.{bar, stop_tab, stop_process}
use Rattle.rules.specs.Rule.Event.{reading_of}
use Rattle.rules.specs.Rule.Desk.{desk, desk_at, changed, reply, new_id, id_at, process_at}
use Rattle.rules.specs.Rule.Allow.{cookie_domain}
use Rattle.rules.specs.Rule.Seat.{only, acceptable, open_actions, open_rule, close_actions, close_rule, key_rule, seat_rule}
use Rattle.rules.specs.Rule.Step.{made, event_rule, read_rule, room_needed, step_of, start_of}
use Rattle.rules.specs.declared.event.Event.{Event}
use Rattle.rules.specs.declared.event.Event.TheVariants.{Seat}
use Rattle.rules.specs.declared.event.SeatMessage.{SeatMessage}
use Rattle.rules.proofs.Laws.Frame.{length_be}
use Rattle.rules.proofs.Laws.Reads.{frame_reads, all_of_lem, key_of}
use Rattle.rules.proofs.Laws.Fits.{key_reads, open_reads}
use Rattle.rules.proofs.Laws.Open.{acceptable_suffix, acceptable_book}
use Rattle.rules.proofs.Laws.Happens.{did}

-- ---- start

pub start_does : (t b : List ℕ) → length t ≡ table_bytes → sound_book b ≡ true → start_of t b ≡ did [] (fresh b)
unfolding start_of
start_does t b h e = rw (eq-eqb (length t) table_bytes h, e)

-- ---- tests

-- a name that is all of its own suffix is acceptable
pub acceptable_of : (b x : List ℕ) → suffix_of x b ≡ all_of x → acceptable b x ≡ true
unfolding acceptable
acceptable_of b x e = rw (e, alike_refl x)

-- a name under a suffix is a cookie's domain
pub domain_of : (domain suffix : List ℕ) → is_name domain ≡ true → under domain suffix ≡ true → cookie_domain domain suffix ≡ true
unfolding cookie_domain
domain_of domain suffix n u = and_both (is_name domain) (under domain suffix) n u

-- ---- an event that is read, in a sound table and with room enough

module _ (room : ℕ) (t b e : List ℕ) (enough : room_needed ≤ room) (sound : sound_table t ≡ true) where
  pub step_reads : (v : Event) → reading_of e ≡ Some v → step_of room t b e ≡ event_rule t b e v
  unfolding step_of read_rule
  step_reads v h = rw (le-ltb room room_needed enough, sound, h)

  seat_does : (s : ℕ) (m : SeatMessage) → reading_of e ≡ Some (Seat s m) → view t (tenant s) ≢ 0
      → step_of room t b e ≡ made t s (seat_rule (desk_at t s) b e m)
  unfolding event_rule
  seat_does s m h l = rw (step_reads (Seat s m) h, ne_eqb (view t (tenant s)) 0 l)

-- ---- an event that is a frame's bytes

-- seat s opens x
open_made : (t b : List ℕ) (s : ℕ) (x : List ℕ) → Openable t s x → acceptable b x ≡ true
    → made t s (open_rule (desk_at t s) b x) ≡ did (open_actions (desk_at t s) (new_id (view t) s) x) (opened t s x)
unfolding open_rule desk reply made changed
open_made t b s x w a =
    let slot = w.slot in
    let more = w.more in
    rw (
      acceptable_book b x a,
      a,
      ne_eqb (live_tabs (view t) s) 10 (λ z. omega arith),
      ne_eqb (view t (opens s)) most_opens (λ z. omega arith),
    )

pub open_frame : (room : ℕ) (t b : List ℕ) (s : ℕ) (x : List ℕ) → room_needed ≤ room → Openable t s x → acceptable b x ≡ true
    → step_of room t b (bytes (framed 1 s 3 x)) ≡ did (open_actions (desk_at t s) (new_id (view t) s) x) (opened t s x)
unfolding seat_rule
open_frame room t b s x enough w a =
    let e = bytes (framed 1 s 3 x) in
    let suffix = acceptable_suffix b x a in
    let seat = w.seat.high in
    let short = suffix.size.high in
    let r = frame_reads 1 s 3 x (omega arith) (omega arith) (omega arith) (omega arith) in
    seat_does room t b e enough w.sound s _ (open_reads e s x r) w.is_let
    ∙ ap (λ y. made t s (open_rule (desk_at t s) b y)) (all_of_lem r) ∙ open_made t b s x w a

-- F12 of seat s: the selected tab, in slot k, is the last of its process
module _ (t : List ℕ) {s k i n : ℕ} (w : Closable t s) (c : view t (selected s) ≡ k) (id : id_at t s k ≡ i)
    (process : process_at t s k ≡ n) (alone : view t (tabs (view t (row s k))) ≡ 1) where
  close_made : made t s (close_rule (desk_at t s)) ≡ did (stop_tab i ∷ stop_process n ∷ bar s [] ∷ []) (closed t s)
  unfolding close_rule close_actions only desk reply made changed
  close_made =
      rw (
        c,
        ne_eqb k 0 (λ z. w.picked (c ∙ z)),
        eq-eqb (view t (tabs (view t (row s k)))) 1 alone,
        id,
        process,
      )

  pub close_frame : (room : ℕ) (b : List ℕ) → room_needed ≤ room → view t (tenant s) ≢ 0
      → step_of room t b (bytes (framed 1 s 1 (be 1 25))) ≡ did (stop_tab i ∷ stop_process n ∷ bar s [] ∷ []) (closed t s)
  unfolding seat_rule key_rule
  close_frame room b enough l =
      let x = be 1 25 in
      let e = bytes (framed 1 s 1 x) in
      let seat = w.seat.high in
      let long = length_be 1 25 in
      let r = frame_reads 1 s 1 x (omega arith) (omega arith) (omega arith) (omega arith) in
      seat_does room t b e enough w.sound s _ (key_reads e s x r long) l
      ∙ ap (λ y. made t s (key_rule (desk_at t s) y)) (key_of 25 r (omega arith)) ∙ close_made
