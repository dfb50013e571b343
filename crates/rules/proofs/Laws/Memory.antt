-- What stands in memory for an event is the event: its party, id, tag, size and payload are its bytes. Assumes nothing.
use Rattle.std.specs.Prelude.{◌≡◌, ℕ, zero, suc, ◌+◌, ◌-◌, ◌*◌, ◌/◌, ◌%◌, ◌≤◌, ◌<◌, Some}
use Rattle.std.proofs.Math.Path.{refl, sym, ap}
use Rattle.std.proofs.Common.{◌∙◌, add-zero, take-append-drop, take-suc, take_all, drop-drop, get_or-drop}
use mathlib.Core.List.{List, ◌++◌, append_assoc}
use native.Mathlib.Omega.{arith}
use Rattle.std.proofs.Math.ListN.{length, get_or, take, drop, length-drop}
use Rattle.terms.specs.Base.{Bytes}
use Rattle.terms.specs.Names.{num}
use Rattle.terms.specs.Laws.Num.{num_zero, num_suc}
use Rattle.rules.specs.Rule.Frame.{be, framed, head, bytes}
use Rattle.rules.specs.Rule.Event.{part, rest, field, delivered, seat_frame, tab_frame, event_frame, reading_of}
use Rattle.rules.specs.declared.event.Event.{Event}
use Rattle.rules.proofs.Laws.Line.{Head, Line, key, mouse, opening, display, socket, url, store, retrieve, result}
use Rattle.rules.proofs.Laws.Line.{document, read_line}

-- ---- numbers

-- a number that is read, written again
pub be_num : (e : List ℕ) (at w : ℕ) → Bytes e → at + w ≤ length e → be w (num e at w) ≡ take w (drop at e)
unfolding be
be_num e at zero g h = refl
be_num e at (suc w) g h =
    let n = num e at w in
    let x = get_or e (at + w) 0 in
    let byte = g (at + w) in
    let above : (n * 256 + x) / 256 ≡ n = omega arith in
    let last : (n * 256 + x) % 256 ≡ x = omega arith in
    let long : w < length (drop at e) = omega (arith, length-drop at e) in
    rw (num_suc e at w, above, last, be_num e at w g (omega arith), take-suc (drop at e) w 0 long, get_or-drop at e w 0)

-- a byte is a number of one
pub be_byte : (e : List ℕ) (at : ℕ) → Bytes e → at + 1 ≤ length e → be 1 (get_or e at 0) ≡ take 1 (drop at e)
be_byte e at g h =
    let here : get_or e (at + 0) 0 ≡ get_or e at 0 = ap (λ (j : ℕ). get_or e j 0) (add-zero at) in
    let one : num e at 1 ≡ get_or e at 0 = omega (arith, num_suc e at 0, num_zero e at) in
    sym (ap (be 1) one) ∙ be_num e at 1 g h

-- ---- what stands from a place on

-- w bytes, and what comes after them
joined : (e : List ℕ) (at w : ℕ) (y z : List ℕ) → y ≡ take w (drop at e) → z ≡ drop (at + w) e → y ++ z ≡ drop at e
joined e at w y z p q = rw (p, q, ← drop-drop w at e) (take-append-drop w (drop at e))

-- the rest of the payload
pub rest_is : (e : List ℕ) (j : ℕ) → 10 + j ≤ length e → part e (rest e j) ≡ drop (10 + j) e
unfolding part rest
rest_is e j h = take_all (length e - (10 + j)) (drop (10 + j) e) (omega (arith, length-drop (10 + j) e))

module _ (e : List ℕ) (g : Bytes e) where
  -- a frame whose payload stands behind the head of e is e
  pub frame_is : (p t : ℕ) (x : List ℕ) → Head e p t → x ≡ drop 10 e → bytes (framed p (num e 1 4) t x) ≡ e
  unfolding bytes head
  frame_is p t x h q =
      let w = h.sized in
      let long = w.long in
      let a : be 1 p ≡ take 1 (drop 0 e) = sym (ap (be 1) h.party=) ∙ be_byte e 0 g (omega arith) in
      let b = be_num e 1 4 g (omega arith) in
      let d : be 1 t ≡ take 1 (drop 5 e) = sym (ap (be 1) h.tag=) ∙ be_byte e 5 g (omega arith) in
      let size : length x ≡ num e 6 4 = omega (arith, ap length q, length-drop 10 e, w.present) in
      let f : be 4 (length x) ≡ take 4 (drop 6 e) = ap (be 4) size ∙ be_num e 6 4 g (omega arith) in
      simp append_assoc
      (joined e 0 1 _ _ a (joined e 1 4 _ _ b (joined e 5 1 _ _ d (joined e 6 4 _ _ f q))))

  whole_is : {p t : ℕ} → Head e p t → part e (rest e 0) ≡ drop 10 e
  whole_is h = rest_is e 0 h.sized.long

  -- a number of w bytes, and the rest
  pub after_num : (w : ℕ) → 10 + w ≤ length e → be w (num e 10 w) ++ part e (rest e w) ≡ drop 10 e
  after_num w h = joined e 10 w _ _ (be_num e 10 w g h) (rest_is e w h)

  -- the length, the domain of that length, and the rest
  pub store_is : 11 + get_or e 10 0 ≤ length e
      → be 1 (get_or e 10 0) ++ (part e (field 1 (get_or e 10 0)) ++ part e (rest e (1 + get_or e 10 0))) ≡ drop 10 e
  unfolding part field
  store_is h =
      let n = get_or e 10 0 in
      let there : 10 + (1 + n) ≡ 11 + n = omega arith in
      joined e 10 1 _ _ (be_byte e 10 g (omega arith))
      (joined e 11 n _ _ refl (rest_is e (1 + n) (omega arith) ∙ ap (λ (j : ℕ). drop j e) there))

  -- a key's byte
  pub key_is : length e ≡ 11 → be 1 (get_or e 10 0) ≡ drop 10 e
  key_is l = be_byte e 10 g (omega arith) ∙ take_all 1 (drop 10 e) (omega (arith, length-drop 10 e))

  line_frame : {v : Event} → Line e v → bytes (event_frame e v) ≡ e
  unfolding event_frame seat_frame tab_frame delivered field
  line_frame (key h l) = frame_is 1 1 _ h (key_is l)
  line_frame (mouse h l) = frame_is 1 2 _ h (whole_is h)
  line_frame (opening h) = frame_is 1 3 _ h (whole_is h)
  line_frame (display h l) = frame_is 2 1 _ h (whole_is h)
  line_frame (socket h l) = frame_is 2 2 _ h (after_num 2 l)
  line_frame (url h) = frame_is 2 3 _ h (whole_is h)
  line_frame (store h l) = frame_is 2 4 _ h (store_is l)
  line_frame (retrieve h) = frame_is 2 5 _ h (whole_is h)
  line_frame (result h l) = frame_is 3 1 _ h (after_num 4 l)
  line_frame (document h l) = frame_is 4 1 _ h (after_num 4 l)

  -- what stands in memory for e is e
  pub read_frame : (v : Event) → reading_of e ≡ Some v → bytes (event_frame e v) ≡ e
  read_frame v h = line_frame (read_line e v h)
