-- The bytes of a frame that fits its tag are read as that event, line by line of the document's table of events; and what is read
-- fits its tag. Assumes nothing.
use Rattle.std.specs.Prelude.{ℕ, ◌+◌, ◌-◌, ◌≤◌, ◌<◌, ◌≡◌, List, ◌++◌, length, drop, Some}
use Rattle.std.proofs.Common.{ap, ap₂, subst, ◌∙◌, arith, length-append, length-drop, length-take-le}
use Rattle.std.proofs.Math.ListN.{get_or}
use borrow.Author.Tests.{le-leb, eq-eqb}
use Rattle.terms.specs.Base.{Bytes}
use Rattle.terms.specs.Names.{num}
use Rattle.terms.specs.Laws.Num.{num_lt}
use Rattle.rules.specs.Rule.Frame.{be, Frame, framed, bytes}
use Rattle.rules.specs.Rule.Event.{part, rest, field, when, from_seat, from_tab, delivered, sent_by, reading_of, seat_frame}
use Rattle.rules.specs.Rule.Event.{tab_frame, event_frame}
use Rattle.rules.specs.Rule.Fits.{FitsTag, ReadAs, key_sent, mouse_sent, open_sent, display_sent, socket_sent, url_sent}
use Rattle.rules.specs.Rule.Fits.{store_sent, retrieve_sent, result_sent, document_sent}
use Rattle.rules.specs.declared.event.Event.{Event}
use Rattle.rules.specs.declared.event.Event.TheVariants.{Seat, Tab, Process, Network}
use Rattle.rules.specs.declared.event.SeatMessage.TheVariants.{Key, Mouse, Open}
use Rattle.rules.specs.declared.event.TabMessage.TheVariants.{Display, Socket, Url, Store, Retrieve}
use Rattle.rules.proofs.Laws.Frame.{length_be}
use Rattle.rules.proofs.Laws.Line.{Line, key, mouse, opening, display, socket, url, store, retrieve, result}
use Rattle.rules.proofs.Laws.Line.{document, read_line}
use Rattle.rules.proofs.Laws.Memory.{rest_is}
use Rattle.rules.proofs.Laws.Reads.{Reads, frame_reads, all_of_lem, key_of, port_of, host_of, tab_of_lem, body_of, stored_size}
use Rattle.rules.proofs.Laws.Reads.{stored_domain, stored_cookie}

-- ---- line by line

module _ (e : List ℕ) (i : ℕ) (x : List ℕ) where
  pub key_reads : Reads e 1 i 1 x → length x ≡ 1 → reading_of e ≡ Some (Seat i (Key (get_or e 10 0)))
  unfolding reading_of sent_by from_seat when
  key_reads w n =
      let l = w.long in rw (w.whole, w.party=, w.id=, w.tag=, eq-eqb (length e - 10) 1 (omega arith))

  mouse_reads : Reads e 1 i 2 x → length x ≡ 4 → reading_of e ≡ Some (Seat i (Mouse (rest e 0)))
  unfolding reading_of sent_by from_seat when
  mouse_reads w n =
      let l = w.long in rw (w.whole, w.party=, w.id=, w.tag=, eq-eqb (length e - 10) 4 (omega arith))

  pub open_reads : Reads e 1 i 3 x → reading_of e ≡ Some (Seat i (Open (rest e 0)))
  unfolding reading_of sent_by from_seat
  open_reads w = rw (w.whole, w.party=, w.id=, w.tag=)

  display_reads : Reads e 2 i 1 x → length x ≡ 12 → reading_of e ≡ Some (Tab i (Display (rest e 0)))
  unfolding reading_of sent_by from_tab when
  display_reads w n =
      let l = w.long in rw (w.whole, w.party=, w.id=, w.tag=, eq-eqb (length e - 10) 12 (omega arith))

  socket_reads : Reads e 2 i 2 x → 2 ≤ length x → reading_of e ≡ Some (Tab i (Socket (num e 10 2) (rest e 2)))
  unfolding reading_of sent_by from_tab when
  socket_reads w n =
      let l = w.long in rw (w.whole, w.party=, w.id=, w.tag=, le-leb 2 (length e - 10) (omega arith))

  pub url_reads : Reads e 2 i 3 x → reading_of e ≡ Some (Tab i (Url (rest e 0)))
  unfolding reading_of sent_by from_tab
  url_reads w = rw (w.whole, w.party=, w.id=, w.tag=)

  pub store_reads : Reads e 2 i 4 x → 1 + get_or e 10 0 ≤ length x
      → reading_of e ≡ Some (Tab i (Store (field 1 (get_or e 10 0)) (rest e (1 + get_or e 10 0))))
  unfolding reading_of sent_by from_tab when
  store_reads w n =
      let l = w.long in
      rw (w.whole, w.party=, w.id=, w.tag=, le-leb (1 + get_or e 10 0) (length e - 10) (omega arith))

  pub retrieve_reads : Reads e 2 i 5 x → reading_of e ≡ Some (Tab i (Retrieve (rest e 0)))
  unfolding reading_of sent_by from_tab
  retrieve_reads w = rw (w.whole, w.party=, w.id=, w.tag=)

  pub result_reads : Reads e 3 i 1 x → 4 ≤ length x → reading_of e ≡ Some (Process i (delivered e))
  unfolding reading_of sent_by when
  result_reads w n =
      let l = w.long in rw (w.whole, w.party=, w.id=, w.tag=, le-leb 4 (length e - 10) (omega arith))

  pub document_reads : Reads e 4 i 1 x → 4 ≤ length x → reading_of e ≡ Some (Network i (delivered e))
  unfolding reading_of sent_by when
  document_reads w n =
      let l = w.long in rw (w.whole, w.party=, w.id=, w.tag=, le-leb 4 (length e - 10) (omega arith))

-- ---- what fits is read

pub fits_read : {a : Frame} → FitsTag a → a.id < 4294967296 → length a.payload ≤ 4096 → ReadAs a
unfolding event_frame seat_frame tab_frame field
fits_read (key_sent s k h) small short =
    let x = be 1 k in
    let w = frame_reads 1 s 1 x (omega arith) small (omega arith) short in
    record {
      event = _;
      reads = key_reads (bytes (framed 1 s 1 x)) s x w (length_be 1 k);
      same = ap (λ (y : ℕ). framed 1 s 1 (be 1 y)) (key_of k w h);
    }
fits_read (mouse_sent s x h) small short =
    let w = frame_reads 1 s 2 x (omega arith) small (omega arith) short in
    record { event = _; reads = mouse_reads (bytes (framed 1 s 2 x)) s x w h; same = ap (framed 1 s 2) (all_of_lem w) }
fits_read (open_sent s x) small short =
    let w = frame_reads 1 s 3 x (omega arith) small (omega arith) short in
    record { event = _; reads = open_reads (bytes (framed 1 s 3 x)) s x w; same = ap (framed 1 s 3) (all_of_lem w) }
fits_read (display_sent i x h) small short =
    let w = frame_reads 2 i 1 x (omega arith) small (omega arith) short in
    record { event = _; reads = display_reads (bytes (framed 2 i 1 x)) i x w h; same = ap (framed 2 i 1) (all_of_lem w) }
fits_read (socket_sent i port host h) small short =
    let x = be 2 port ++ host in
    let w = frame_reads 2 i 2 x (omega arith) small (omega arith) short in
    record {
      event = _;
      reads = socket_reads (bytes (framed 2 i 2 x)) i x w (simp (length-append, length_be) (omega arith));
      same = ap₂ (λ (n : ℕ) (y : List ℕ). framed 2 i 2 (be 2 n ++ y)) (port_of port host w h) (host_of port host w);
    }
fits_read (url_sent i x) small short =
    let w = frame_reads 2 i 3 x (omega arith) small (omega arith) short in
    record { event = _; reads = url_reads (bytes (framed 2 i 3 x)) i x w; same = ap (framed 2 i 3) (all_of_lem w) }
fits_read (store_sent i domain x h) small short =
    let y = be 1 (length domain) ++ (domain ++ x) in
    let e = bytes (framed 2 i 4 y) in
    let w = frame_reads 2 i 4 y (omega arith) small (omega arith) short in
    let n = stored_size domain x w h in
    record {
      event = _;
      reads = store_reads e i y w (simp (length-append, length_be) (omega arith));
      same = ap (λ (m : ℕ). framed 2 i 4 (be 1 m ++ (part e (field 1 (get_or e 10 0)) ++ part e (rest e (1 + get_or e 10 0))))) n
          ∙ ap₂ (λ (y z : List ℕ). framed 2 i 4 (be 1 (length domain) ++ (y ++ z))) (stored_domain domain x w h) (stored_cookie domain x w h);
    }
fits_read (retrieve_sent i x) small short =
    let w = frame_reads 2 i 5 x (omega arith) small (omega arith) short in
    record { event = _; reads = retrieve_reads (bytes (framed 2 i 5 x)) i x w; same = ap (framed 2 i 5) (all_of_lem w) }
fits_read (result_sent n i x h) small short =
    let y = be 4 i ++ x in
    let w = frame_reads 3 n 1 y (omega arith) small (omega arith) short in
    record {
      event = _;
      reads = result_reads (bytes (framed 3 n 1 y)) n y w (simp (length-append, length_be) (omega arith));
      same = ap₂ (λ (m : ℕ) (z : List ℕ). framed 3 n 1 (be 4 m ++ z)) (tab_of_lem i x w h) (body_of i x w);
    }
fits_read (document_sent n i x h) small short =
    let y = be 4 i ++ x in
    let w = frame_reads 4 n 1 y (omega arith) small (omega arith) short in
    record {
      event = _;
      reads = document_reads (bytes (framed 4 n 1 y)) n y w (simp (length-append, length_be) (omega arith));
      same = ap₂ (λ (m : ℕ) (z : List ℕ). framed 4 n 1 (be 4 m ++ z)) (tab_of_lem i x w h) (body_of i x w);
    }

-- ---- what is read fits

-- all of the payload, and as much of it as a part is
rest_long : (e : List ℕ) (j : ℕ) → 10 + j ≤ length e → length (part e (rest e j)) ≡ length e - (10 + j)
rest_long e j h = ap length (rest_is e j h) ∙ length-drop (10 + j) e

field_long : (e : List ℕ) (n : ℕ) → 11 + n ≤ length e → length (part e (field 1 n)) ≡ n
unfolding part field
field_long e n h = length-take-le n (drop 11 e) (simp length-drop (omega arith))

line_fits : (e : List ℕ) → Bytes e → {v : Event} → Line e v → FitsTag (event_frame e v)
unfolding event_frame seat_frame tab_frame delivered field
line_fits e g (key h l) = key_sent _ _ (g 10)
line_fits e g (mouse h l) = mouse_sent _ (part e (rest e 0)) (omega (arith, rest_long e 0 (omega arith)))
line_fits e g (opening h) = open_sent _ _
line_fits e g (display h l) = display_sent _ (part e (rest e 0)) (omega (arith, rest_long e 0 (omega arith)))
line_fits e g (socket h l) = socket_sent _ _ _ (num_lt e 10 2 g)
line_fits e g (url h) = url_sent _ _
line_fits e g (store h l) =
    let n = get_or e 10 0 in
    let domain = part e (field 1 n) in
    let q = field_long e n l in
    subst (λ (m : ℕ). FitsTag (framed 2 (num e 1 4) 4 (be 1 m ++ (domain ++ part e (rest e (1 + n)))))) q
    (store_sent _ domain _ (let b = g 10 in omega arith))
line_fits e g (retrieve h) = retrieve_sent _ _
line_fits e g (result h l) = result_sent _ _ _ (num_lt e 10 4 g)
line_fits e g (document h l) = document_sent _ _ _ (num_lt e 10 4 g)

pub read_fits : (e : List ℕ) (v : Event) → Bytes e → reading_of e ≡ Some v → FitsTag (event_frame e v)
read_fits e v g h = line_fits e g (read_line e v h)
