-- How each exit of a turn comes to what its contract says, and what a turn leaves. Assumes nothing.
use Rattle.std.specs.Prelude.{ℕ, ◌+◌, ◌-◌, ◌≤◌, ◌<◌, ◌≡◌, refl, Bool, true, false, List, length, take, drop}
use Rattle.std.proofs.Math.Path.{sym, ap}
use Rattle.std.proofs.Common.{ap₂, ◌∙◌, zero-add, arith}
use Rattle.terms.specs.Names.{num}
use Rattle.rules.specs.Sheet.{over}
use Rattle.rules.specs.Inner.{Wrote}
use Rattle.reader.specs.Held.{Sound, held, Filled}
use Rattle.reader.specs.Laws.Fill.{length_held}
use Rattle.reader.specs.Laws.Past.{sound_past, held_past}
use Rattle.asksuffix.specs.Rule.Hosts.{most_bytes, host_bytes, host_whole, first_host}
use Rattle.asksuffix.specs.Rule.Answers.{most_text, answer_line}
use Rattle.asksuffix.specs.Turn.{Countable, Answerable, past, last, Gave, HostAnswered, Turn, answered, stopped, read}
use Rattle.asksuffix.specs.Laws.Hosts.{whole_has}
use Rattle.reader.specs.declared.place.Place.{Place}

-- ---- the host at the front of s

-- it stands behind its length
pub host_is : (s : List ℕ) {k : ℕ} → k ≡ host_bytes s → take (k - 2) (drop 2 s) ≡ first_host s
unfolding host_bytes first_host
host_is s {k} e = let n : k - 2 ≡ num s 0 2 = omega (arith, e) in ap (λ (m : ℕ). take m (drop 2 s)) n

pub gave_is : {s b o : List ℕ} {p : Place} {o' : List ℕ} {k r : ℕ} {h : List ℕ} → k ≡ host_bytes s → h ≡ first_host s
    → Wrote o 0 (answer_line b h) o' r
    → Gave s b o p o'
    (record { place = p.place + k; have = p.have; number = p.number + 1; filled = r; ended = p.ended; done = false })
unfolding past
gave_is {s} {b} {o} {p} {o'} {k} {r} {h} e f w =
    let long : r ≡ length (answer_line b (first_host s)) =
    w.next ∙ zero-add (length (answer_line b h)) ∙ ap (λ (x : List ℕ). length (answer_line b x)) f in
    record {
      text = w.bytes ∙ ap (λ (x : List ℕ). over o 0 (answer_line b x)) f;
      moved =
          ap₂
          (λ (m n : ℕ).
          record { place = p.place + m; have = p.have; number = p.number + 1; filled = n; ended = p.ended; done = false })
          e long;
    }

pub last_is : (p : Place)
    → record { place = p.place; have = p.have; number = p.number; filled = 0; ended = p.ended; done = true } ≡ last p
unfolding last
last_is p = refl

-- ---- from what is held

module _ (buf b o : List ℕ) (p : Place) where
  pub turn_given : {r : Bool} → Sound p (length buf) → length buf < 18446744073709551616 → most_text ≤ length o → Countable p
      → r ≡ host_whole (held buf p) → r ≡ true → Answerable (held buf p) o p
  turn_given s fits roomy counted e h =
      let a = s.ahead in
      let i = s.inside in
      let l = length_held buf p s in
      record { whole = sym e ∙ h; inside = omega arith; roomy = roomy; counted = counted }

  pub host_answered : {o' : List ℕ} {p' : Place} → Sound p (length buf) → host_whole (held buf p) ≡ true → Gave (held buf p) b o p o' p'
      → HostAnswered buf b o p buf o' p'
  unfolding past
  host_answered {p' = p'} s whole g =
      let k = host_bytes (held buf p) in
      let inside = (whole_has (held buf p) whole).present in
      let place= = ap (λ (q : Place). q.place) g.moved in
      let have= = ap (λ (q : Place). q.have) g.moved in
      record {
        whole = whole;
        same = refl;
        gave = g;
        sound = sound_past buf p p' k s inside place= have=;
        rest = held_past buf p p' k s inside place= have=;
      }

  pub turn_answered : {r : Bool} {o' : List ℕ} {p' : Place} → Sound p (length buf) → r ≡ host_whole (held buf p) → r ≡ true
      → Gave (held buf p) b o p o' p' → Turn buf b o p buf o' p'
  turn_answered s e h g = answered (host_answered s (sym e ∙ h) g)

  pub turn_stopped : {r : Bool} {p' : Place} → r ≡ host_whole (held buf p) → r ≡ false → p.ended ≡ true → p' ≡ last p
      → Turn buf b o p buf o p'
  turn_stopped e h f m = stopped (record { cut = sym e ∙ h; off = f; same = refl; room = refl; moved = m })

  pub turn_read : {r : Bool} {buf' : List ℕ} {p' : Place} → r ≡ host_whole (held buf p) → (r ≡ false → length (held buf p) < most_bytes)
      → r ≡ false → p.ended ≡ false → Filled buf p buf' p' → Turn buf b o p buf' o p'
  turn_read e s h f w = read (record { cut = sym e ∙ h; on = f; short = s h; room = refl; filled = w })
