-- What a turn leaves, and what the program's loop keeps: turns lead to where it stands, the place is sound, and the hosts that may
-- still be answered can be counted. Assumes nothing.
use Rattle.std.specs.Prelude.{ℕ, ◌+◌, ◌≤◌, ◌<◌, ◌≡◌, refl, false, List, [], ◌++◌, length, take}
use Rattle.std.proofs.Common.{sym, ap, subst, ◌∙◌}
use native.Mathlib.Omega.{arith}
use Rattle.logs.specs.Log.{chunk}
use Rattle.reader.specs.Held.{outset, Sound, held, came}
use Rattle.asksuffix.specs.Rule.Hosts.{first_host}
use Rattle.asksuffix.specs.Rule.Answers.{most_text}
use Rattle.asksuffix.specs.Turn.{AskBuffers, past, last, Turn, answered, stopped, read}
use Rattle.asksuffix.specs.Turns.{AskTurns, none, more, turn_count, AskRan}
use Rattle.asksuffix.specs.Laws.Line.{length_line}
use Rattle.reader.specs.Laws.Past.{outset_sound}
use Rattle.reader.specs.declared.place.Place.{Place}

-- ---- any turn

-- what the place of a turn's end is like, whatever it did
pub record After (p : Place) (buf o : List ℕ) (p' : Place) : Type 0 where
  pub sound : Sound p' (length buf)
  pub fits : p'.filled ≤ length o
  pub few : p'.number ≤ p.number + 1

pub turn_after : {buf b o : List ℕ} {p : Place} {buf' o' : List ℕ} {p' : Place} → Sound p (length buf) → most_text ≤ length o
    → Turn buf b o p buf' o' p' → After p buf o p'
unfolding past last
turn_after {buf} {b} {o} {p} s m (answered w) =
    record {
      sound = w.sound;
      fits = omega (arith, ap (λ (q : Place). q.filled) w.gave.moved, length_line b (first_host (held buf p)));
      few = omega (arith, ap (λ (q : Place). q.number) w.gave.moved);
    }
turn_after {buf} s m (stopped w) =
    record {
      sound = subst (λ (q : Place). Sound q (length buf)) (sym w.moved) (record { ahead = s.ahead; inside = s.inside });
      fits = omega (arith, ap (λ (q : Place). q.filled) w.moved);
      few = omega (arith, ap (λ (q : Place). q.number) w.moved);
    }
turn_after s m (read w) =
    let f = w.filled in
    record { sound = f.sound; fits = omega (arith, f.filled=); few = omega (arith, f.number=) }

-- ---- a run on its way

pub record Under (b buf₀ o₀ : List ℕ) (cs : List (List ℕ)) (x buf o : List ℕ) (p : Place) : Type 0 where
  pub way : AskTurns b buf₀ o₀ cs x buf o p
  pub on : p.done ≡ false
  pub sound : Sound p (length buf)
  pub as_long : length buf ≡ length buf₀
  pub as_roomy : length o ≡ length o₀

pub under_first : (b buf o : List ℕ) → Under b buf o [] [] buf o outset
under_first b buf o = record { way = none; on = refl; sound = outset_sound (length buf); as_long = refl; as_roomy = refl }

module _ {b buf₀ o₀ : List ℕ} {cs : List (List ℕ)} {x buf o : List ℕ} {p : Place} (u : Under b buf₀ o₀ cs x buf o p)
    (h : AskBuffers buf₀ o₀) where
  pub under_large : AskBuffers buf o
  under_large =
      let k = u.as_long in
      let m = u.as_roomy in
      record { holds = omega (arith, h.holds); roomy = omega (arith, h.roomy) }

  pub under_turn : {b' buf' o' : List ℕ} {p' : Place} → Turn buf b' o p buf' o' p' → After p buf o p'
  under_turn w = turn_after u.sound under_large.roomy w

  pub under_next : {buf' o' : List ℕ} {p' : Place} → Turn buf b o p buf' o' p' → length buf' ≡ length buf
      → length o' ≡ length o → p'.done ≡ false
      → Under b buf₀ o₀ (cs ++ chunk (came buf p buf' p')) (x ++ take p'.filled o') buf' o' p'
  under_next w k m on =
      let s = (under_turn w).sound in
      record {
        way = more u.way u.on w;
        on = on;
        sound = record { ahead = s.ahead; inside = omega (arith, s.inside) };
        as_long = k ∙ u.as_long;
        as_roomy = m ∙ u.as_roomy;
      }

-- ---- the loop

-- so many turns were made
pub record Running (b buf₀ o₀ buf o : List ℕ) (p : Place) (made : ℕ) : Type 0 where
  pub chunks : List (List ℕ)
  pub text : List ℕ
  pub under : Under b buf₀ o₀ chunks text buf o p
  pub some : made ≡ turn_count under.way
  pub counted : p.number ≤ made

pub running_first : (b buf o : List ℕ) → Running b buf o buf o outset 0
unfolding turn_count under_first
running_first b buf o =
    record { chunks = _; text = _; under = under_first b buf o; some = refl; counted = omega arith }

module _ {b buf₀ o₀ buf o : List ℕ} {p : Place} {made : ℕ} (r : Running b buf₀ o₀ buf o p made) where
  pub running_next : {buf' o' : List ℕ} {p' : Place} → AskBuffers buf₀ o₀ → Turn buf b o p buf' o' p'
      → length buf' ≡ length buf → length o' ≡ length o → p'.done ≡ false → Running b buf₀ o₀ buf' o' p' (made + 1)
  unfolding turn_count under_next
  running_next h w k m on =
      record {
        chunks = _;
        text = _;
        under = under_next r.under h w k m on;
        some = omega (arith, r.some);
        counted = omega (arith, r.counted, (under_turn r.under h w).few);
      }

  -- the loop is left behind a turn, or where none is left
  pub ran_last : {buf' o' : List ℕ} {p' : Place} → Turn buf b o p buf' o' p' → AskRan b buf₀ o₀ buf' o'
  unfolding turn_count
  ran_last w =
      record { chunks = _; text = _; place = _; turns = more r.under.way r.under.on w; some = omega arith }

  pub ran_all : 0 < made → AskRan b buf₀ o₀ buf o
  ran_all e = record { chunks = _; text = _; place = _; turns = r.under.way; some = omega (arith, r.some) }
