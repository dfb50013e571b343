-- What the loop of the program keeps: turns lead to where it stands, the place is sound, and the events that may still be given
-- can be counted. Assumes nothing.
use Rattle.std.specs.Prelude.{ℕ, ◌+◌, ◌*◌, ◌≤◌, ◌<◌, false, ◌≡◌, refl, List, [], ◌++◌, length, take}
use Rattle.std.proofs.Common.{◌∙◌}
use native.Mathlib.Omega.{arith}
use Rattle.rules.proofs.Laws.Start.{start_starts}
use Rattle.logs.specs.Log.{chunk}
use Rattle.reader.specs.Held.{outset, Sound, came}
use Rattle.reader.specs.Laws.Past.{outset_sound}
use Rattle.reader.specs.declared.place.Place.{Place}
use Rattle.logging.specs.Turn.{most_events, Ample, LogBuffers, Turn, gave, read}
use Rattle.logging.specs.Turns.{LogTurns, none, more, turn_count}
use Rattle.logging.specs.Ran.{LogRan, Logged, refused, ran}
use Rattle.logging.specs.Begin.{Begun}
use Rattle.logging.specs.Laws.Begin.{begun_none, begun_some}

-- as many turns as the loop makes at most
abbrev pub turns : ℕ
turns = 144115188075855872

-- what the place of a turn's end is like, whatever it did
pub record After (p : Place) (buf o : List ℕ) (p' : Place) : Type 0 where
  pub sound : Sound p' (length buf)
  pub fits : p'.filled ≤ length o
  pub few : p'.number ≤ p.number + most_events

pub turn_after : {buf t b o : List ℕ} {p : Place} {buf' t' o' : List ℕ} {p' : Place} → Turn buf t b o p buf' t' o' p'
    → After p buf o p'
turn_after (gave m w) = record { sound = w.sound; fits = w.fits; few = omega (arith, w.few, w.number=) }
turn_after (read idle short same-table same-room f) =
    record { sound = f.sound; fits = omega (arith, f.filled=); few = omega (arith, f.number=) }

-- ---- a run on its way

pub record Under (b buf₀ t₀ o₀ : List ℕ) (cs : List (List ℕ)) (x buf t o : List ℕ) (p : Place) : Type 0 where
  pub way : LogTurns b buf₀ t₀ o₀ cs x buf t o p
  pub on : p.done ≡ false
  pub sound : Sound p (length buf)
  pub as_long : length buf ≡ length buf₀
  pub as_roomy : length o ≡ length o₀

pub under_first : (b buf t o : List ℕ) → Under b buf t o [] [] buf t o outset
under_first b buf t o = record { way = none; on = refl; sound = outset_sound (length buf); as_long = refl; as_roomy = refl }

pub under_next : {b buf₀ t₀ o₀ : List ℕ} {cs : List (List ℕ)} {x buf t o : List ℕ} {p : Place} {buf' t' o' : List ℕ} {p' : Place}
    → Under b buf₀ t₀ o₀ cs x buf t o p → Turn buf t b o p buf' t' o' p' → length buf' ≡ length buf → length o' ≡ length o
    → p'.done ≡ false
    → Under b buf₀ t₀ o₀ (cs ++ chunk (came buf p buf' p')) (x ++ take p'.filled o') buf' t' o' p'
under_next u w k m on =
    let s = (turn_after w).sound in
    record {
      way = more u.way u.on w;
      on = on;
      sound = record { ahead = s.ahead; inside = omega (arith, s.inside) };
      as_long = k ∙ u.as_long;
      as_roomy = m ∙ u.as_roomy;
    }

-- ---- the loop

-- so many turns were made
pub record Running (b buf₀ t₀ o₀ buf t o : List ℕ) (p : Place) (made : ℕ) : Type 0 where
  pub chunks : List (List ℕ)
  pub text : List ℕ
  pub under : Under b buf₀ t₀ o₀ chunks text buf t o p
  pub some : made ≡ turn_count under.way
  pub counted : p.number ≤ most_events * made

pub running_first : (b buf t o : List ℕ) → Running b buf t o buf t o outset 0
unfolding turn_count under_first
running_first b buf t o =
    record { chunks = _; text = _; under = under_first b buf t o; some = refl; counted = omega arith }

module _ {b buf₀ t₀ o₀ buf t o : List ℕ} {p : Place} {made : ℕ} (r : Running b buf₀ t₀ o₀ buf t o p made) where
  pub running_ample : LogBuffers buf₀ o₀ → made < turns → Ample p buf o
  running_ample h l =
      let a = r.under.as_long in
      let c = r.under.as_roomy in
      record {
        holds = omega (arith, h.holds);
        roomy = omega (arith, h.roomy);
        counted = omega (arith, r.counted);
      }

  pub running_next : {buf' t' o' : List ℕ} {p' : Place} → Turn buf t b o p buf' t' o' p'
      → length buf' ≡ length buf → length o' ≡ length o → p'.done ≡ false → Running b buf₀ t₀ o₀ buf' t' o' p' (made + 1)
  unfolding turn_count under_next
  running_next w k m on =
      record {
        chunks = _;
        text = _;
        under = under_next r.under w k m on;
        some = omega (arith, r.some);
        counted = omega (arith, r.counted, (turn_after w).few);
      }

  -- the loop is left behind a turn, or where none is left
  pub ran_last : {buf' t' o' : List ℕ} {p' : Place} → Turn buf t b o p buf' t' o' p' → LogRan b buf₀ t₀ o₀ buf' t' o'
  unfolding turn_count
  ran_last w =
      record { chunks = _; text = _; place = _; turns = more r.under.way r.under.on w; some = omega arith }

  pub ran_all : 0 < made → LogRan b buf₀ t₀ o₀ buf t o
  ran_all e = record { chunks = _; text = _; place = _; turns = r.under.way; some = omega (arith, r.some) }

-- ---- the log

pub logged_ran : {b buf t o t₁ o₁ : List ℕ} → Begun t b o t₁ o₁ 0 → {buf' t' o' : List ℕ} → LogRan b buf t₁ o₁ buf' t' o'
    → Logged b buf t o buf' t' o'
logged_ran w {buf'} {t'} {o'} r =
    let begun = begun_none w refl in
    ran begun.0 (rw (w.table, begun.1) at r)

pub logged_refused : {b t o t₁ o₁ : List ℕ} {n : ℕ} (buf : List ℕ) → Begun t b o t₁ o₁ n → 0 < n
    → Logged b buf t o buf t₁ o₁
logged_refused {b} {t} {n = n} buf w some =
    let not = begun_some w (λ z. omega arith) in
    refused n not w (w.table ∙ (start_starts t b).refusal not) refl
