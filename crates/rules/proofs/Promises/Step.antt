-- What is promised of one call, each promise with a sentence above it; the proofs are a line into Laws. A step is
-- `step_of room table book event`, and what the contract of `step` says of it is `Stepped`; a start is `start_of table book`, and
-- what the contract of `start` says of it is `Started`. Assumes nothing.
use Rattle.std.specs.Prelude.{ℕ, ◌+◌, ◌≤◌, ◌<◌, ◌≡◌, true, ◌≢◌, ◌⊎◌, List, [], length, take, drop, Some}
use Rattle.std.proofs.Common.{◌∙◌, arith}
use Rattle.terms.specs.Base.{Range, Bytes}
use Rattle.fields.specs.Table.{sound_table}
use Rattle.rules.specs.Sheet.{Frame, bytes, frames, frames_of, event_frame, reading_of, Outcome, step_of, start_of, packed, Stepped}
use Rattle.rules.specs.Sheet.{Started, number_in, actions_in, bytes_in, FitsTag, ReadAs, AllNarrow}
use Rattle.rules.specs.Sheet.{Desk, cookie_domain, store_rule}
use Rattle.rules.specs.declared.event.Event.{Event}
use Rattle.rules.proofs.Laws.Memory as memory
use Rattle.rules.proofs.Laws.Fits as fit
use Rattle.rules.proofs.Laws.Tab.{store_largest}
use Rattle.rules.proofs.Laws.Outcome.{step_orderly}
use Rattle.rules.proofs.Laws.Answer.{packed_number, packed_actions, packed_bytes, frames_fit, answer_number}
use Rattle.rules.proofs.Laws.Answer.{answer_actions, answer_bytes, room_front, room_past, room_length}
use Rattle.rules.proofs.Laws.Answer.{step_nothing}
use Rattle.rules.proofs.Laws.Start.{start_starts, start_alone, start_reads}
use Rattle.rules.proofs.Laws.Widths.{step_widths}
use Rattle.rules.proofs.Laws.Back as back

-- ---- determined

pub record SameStep (t₁ o₁ t₂ o₂ : List ℕ) (r₁ r₂ : ℕ) : Type 0 where
  pub answer= : r₁ ≡ r₂
  pub table= : t₁ ≡ t₂
  pub room= : o₁ ≡ o₂

-- Any two outcomes that the contract of step allows are equal.
pub step_determined : {x : Outcome} {o t₁ o₁ t₂ o₂ : List ℕ} {r₁ r₂ : ℕ} → Stepped x o t₁ o₁ r₁ → Stepped x o t₂ o₂ r₂
    → SameStep t₁ o₁ t₂ o₂ r₁ r₂
step_determined a b = record { answer= = (cc); table= = (cc); room= = (cc) }

pub record SameStart (t₁ t₂ : List ℕ) (r₁ r₂ : ℕ) : Type 0 where
  pub answer= : r₁ ≡ r₂
  pub table= : t₁ ≡ t₂

-- So are any two that the contract of start allows.
pub start_determined : {x : Outcome} {t₁ t₂ : List ℕ} {r₁ r₂ : ℕ} → Started x t₁ r₁ → Started x t₂ r₂ → SameStart t₁ t₂ r₁ r₂
start_determined a b = record { answer= = (cc); table= = (cc) }

-- ---- refused

pub record Refusal (t : List ℕ) (x : Outcome) : Type 0 where
  pub number= : Range 1 10 x.number
  pub actions= : x.actions ≡ []
  pub table= : x.table ≡ t

-- A step that is not done has a number of 1 to 10, no action, and the table as it was:
pub step_refused : (room : ℕ) (t b e : List ℕ) → (step_of room t b e).number ≢ 0 → Refusal t (step_of room t b e)
step_refused room t b e h =
    let q = step_orderly t b e room in
    let n = q.small in
    let none = q.refusal h in
    record { number= = record { low = omega arith; high = n }; actions= = none.0; table= = none.1 }

pub record Unchanged (t o t' o' : List ℕ) (n r : ℕ) : Type 0 where
  pub table= : t' ≡ t
  pub room= : o' ≡ o
  pub answer= : r ≡ n

-- it changes no byte of the table and of the room, and its answer is that number, so both counts are 0.
pub refused_nothing : (t b e : List ℕ) {o t' o' : List ℕ} {r : ℕ} → Stepped (step_of (length o) t b e) o t' o' r
    → (step_of (length o) t b e).number ≢ 0 → Unchanged t o t' o' (step_of (length o) t b e).number r
refused_nothing t b e w h = let n = step_nothing t b e w h in record { table= = n.0; room= = n.1; answer= = n.2 }

-- A start is done, or refused with 2 or 6;
pub start_number : (t b : List ℕ) → ((start_of t b).number ≡ 0) ⊎ (((start_of t b).number ≡ 2) ⊎ ((start_of t b).number ≡ 6))
start_number t b = (start_starts t b).number=

-- one that is not done leaves the table as it was,
pub start_refused : (t b : List ℕ) {t' : List ℕ} {r : ℕ} → Started (start_of t b) t' r → (start_of t b).number ≢ 0 → t' ≡ t
start_refused t b w h = w.table ∙ (start_starts t b).refusal h

-- and the answer to any is its number, so both counts are 0.
pub start_answer : (t b : List ℕ) {t' : List ℕ} {r : ℕ} → Started (start_of t b) t' r → r ≡ (start_of t b).number
start_answer t b w = start_alone t b w

-- That number is read out of it by name as well.
pub start_read : (t b : List ℕ) {t' : List ℕ} {r : ℕ} → Started (start_of t b) t' r → number_in r ≡ (start_of t b).number
start_read t b w = start_reads t b w

-- ---- what fits

-- The number of every step is at most 10,
pub step_number : (room : ℕ) (t b e : List ℕ) → (step_of room t b e).number ≤ 10
step_number room t b e = (step_orderly t b e room).small

-- its actions are at most 4,
pub step_few : (room : ℕ) (t b e : List ℕ) → length (step_of room t b e).actions ≤ 4
step_few room t b e = (step_orderly t b e room).few

-- and their bytes at most 4,106,
pub step_room : (room : ℕ) (t b e : List ℕ) → length (frames (step_of room t b e).actions) ≤ 4106
step_room room t b e = (step_orderly t b e room).fits

-- never more than the room has,
pub step_fits : (room : ℕ) (t b e : List ℕ) → length (frames (step_of room t b e).actions) ≤ room
step_fits room t b e = frames_fit t b e room

-- and every field of an action fits the bytes that a frame has for it.
pub step_narrow : (room : ℕ) (t b e : List ℕ) → AllNarrow (step_of room t b e).actions
step_narrow room t b e = step_widths room t b e

-- A store that is allowed and whose payload has 4,096 bytes takes all 4,106.
pub largest_store : (d : Desk) (k : ℕ) (domain x : List ℕ) → cookie_domain domain (d.suffix k) ≡ true
    → 1 + length domain + length x ≡ 4096 → length (frames (store_rule d k domain x).actions) ≡ 4106
largest_store d k domain x e h = store_largest d k domain x e h

-- ---- the answer

pub record Unpacked (n a w r : ℕ) : Type 0 where
  pub number= : number_in r ≡ n
  pub actions= : actions_in r ≡ a
  pub bytes= : bytes_in r ≡ w

-- Number, count of actions and count of bytes can be read out of the packed answer.
pub read_back : (n a w : ℕ) → n < 256 → a < 256 → w < 65536 → Unpacked n a w (packed n a w)
read_back n a w h k l =
    record {
      number= = packed_number n a w h k l;
      actions= = packed_actions n a w h k l;
      bytes= = packed_bytes n a w h k l;
    }

pub record ReadOut (x : Outcome) (o o' : List ℕ) (r : ℕ) : Type 0 where
  pub number= : number_in r ≡ x.number
  pub actions= : actions_in r ≡ length x.actions
  pub bytes= : bytes_in r ≡ length (frames x.actions)
  pub front : take (bytes_in r) o' ≡ frames x.actions
  pub past : drop (bytes_in r) o' ≡ drop (bytes_in r) o
  pub same : length o' ≡ length o

-- In a step's answer they are the outcome's: the front of the room, as long as the answer says, holds the frames of as many
-- actions as it says; what is past them is as it was, and the room as long.
pub step_answer : (t b e : List ℕ) {o t' o' : List ℕ} {r : ℕ} → Stepped (step_of (length o) t b e) o t' o' r
    → ReadOut (step_of (length o) t b e) o o' r
step_answer t b e w =
    record {
      number= = answer_number t b e w;
      actions= = answer_actions t b e w;
      bytes= = answer_bytes t b e w;
      front = room_front t b e w;
      past = room_past t b e w;
      same = room_length t b e w;
    }

-- As many frames as counted, laid end to end, are read back as just these;
pub frames_read : (l : List Frame) → AllNarrow l → frames_of (length l) (frames l) ≡ l
frames_read l n = back.frames_read l n

-- so what a caller reads from the front of the room, as many frames as the answer says, are exactly the step's actions.
pub step_read : (t b e : List ℕ) {o t' o' : List ℕ} {r : ℕ} → Stepped (step_of (length o) t b e) o t' o' r
    → frames_of (actions_in r) (take (bytes_in r) o') ≡ (step_of (length o) t b e).actions
step_read t b e {o} w =
    let x = step_of (length o) t b e in
    rw (answer_actions t b e w, room_front t b e w) (frames_read x.actions (step_narrow (length o) t b e))

-- ---- a table stays sound

-- A step leaves a sound table sound, whatever it is given.
pub step_sound : (room : ℕ) (t b e : List ℕ) → sound_table t ≡ true → sound_table (step_of room t b e).table ≡ true
step_sound room t b e h = (step_orderly t b e room).sound h

-- A start that is done leaves a sound table.
pub start_sound : (t b : List ℕ) → (start_of t b).number ≡ 0 → sound_table (start_of t b).table ≡ true
start_sound t b h = (start_starts t b).sound h

-- ---- what is read

-- What stands in memory for an event is the event: its party, id, tag, size and payload are its bytes.
pub read_frame : (e : List ℕ) (v : Event) → Bytes e → reading_of e ≡ Some v → bytes (event_frame e v) ≡ e
read_frame e v g h = memory.read_frame e g v h

-- It fits its tag, as the document's table of events has it;
pub read_fits : (e : List ℕ) (v : Event) → Bytes e → reading_of e ≡ Some v → FitsTag (event_frame e v)
read_fits e v g h = fit.read_fits e v g h

-- and the bytes of every frame that does, with an id that four bytes hold and at most 4,096 bytes of payload, are read as just
-- that event.
pub fits_read : (a : Frame) → FitsTag a → a.id < 4294967296 → length a.payload ≤ 4096 → ReadAs a
fits_read a f i n = fit.fits_read f i n
