-- A tab and the process that it hangs on, by what the host was told of them, and the requests and results that go between. Assumes
-- nothing.
use Rattle.std.specs.Prelude.{ℕ, ◌≡◌, true, List, ◌++◌}
use Rattle.std.proofs.Math.Path.{sym, ap}
use Rattle.std.proofs.Common.{ap₂, ◌∙◌}
use Rattle.terms.specs.Names.{folded, owner_by}
use Rattle.fields.specs.Table.{serial, row, view, seat_of_id, live, waits, TabLive}
use Rattle.fields.specs.Laws.Asked.{live_used, live_serial}
use Rattle.fields.specs.Laws.Tab.{id_seat}
use Rattle.fields.specs.declared.mark.Mark.TheVariants.{Cookie}
use Rattle.rules.specs.Rule.Call.{Call, step, event, party_of, id_of}
use Rattle.rules.specs.Rule.Call.{latest, typed, pending}
use Rattle.rules.specs.Rule.History.{History}
use Rattle.rules.specs.Rule.Demand.{Same, Requested, Returned}
use Rattle.rules.specs.Rule.Ids.{tab_live, process_live}
use Rattle.rules.specs.Rule.Desk.{id_at, process_at, TabAt}
use Rattle.rules.specs.Sheet.{be, Frame, cookie}
use Rattle.rules.proofs.Laws.Happens.{From, at_live}
use Rattle.rules.proofs.Time.Induct.{history_sound}
use Rattle.rules.proofs.Time.Suffix.{history_suffix}
use Rattle.rules.proofs.Time.Owner.{tab_owner}
use Rattle.rules.proofs.Time.Process.{history_process}
use Rattle.rules.proofs.Time.Waiting.{history_cookie}
use Rattle.rules.proofs.Time.Live.{tab_live_lem}
use Rattle.rules.proofs.Time.Running.{number_live}
use Rattle.rules.proofs.Time.Moves.{fair_live}
use Rattle.rules.proofs.Time.TabMoves.{TabAhead}
use Rattle.rules.proofs.Time.ProcessMoves.{ProcessAhead}
use Rattle.rules.proofs.Time.Stand.{history_tabs, history_processes}

module _ {book : List ℕ} {cs : List Call} {t : List ℕ} (h : History book cs t) where
  told_is : (s k : ℕ) → live (view t) s k ≡ true
      → latest 5 (process_at t s k) 3 cs ≡ be 1 (owner_by book (seat_of_id (id_at t s k))) ++ folded (typed cs (id_at t s k))
  told_is s k l =
      let w : TabLive t s k = record { sound = history_sound h; there = l } in
      rw (id_seat s (view t (serial s k)) (live_serial w))
      (history_process h (view t (row s k)) (live_used w)
      ∙ ap₂ (λ (a : ℕ) (x : List ℕ). be 1 a ++ x) (tab_owner h s k l) (history_suffix h s k l))

  same : {i s k : ℕ} (n : ℕ) → TabAt t i s k → process_at t s k ≡ n → Same book cs i n
  same {i} {s} {k} n a p =
      record {
        told = rw (sym a.id, sym p) (told_is s k a.there);
        process =
            fair_live process_live ProcessAhead 3 4 (history_processes h) n
            (number_live t (view t (row s k)) n (live_used (at_live (history_sound h) a)) p);
        tab = fair_live tab_live TabAhead 1 2 (history_tabs h) i (tab_live_lem a);
      }

  -- a request, whatever its tag
  pub requested : {i s k tag : ℕ} {a : Frame} (b e : List ℕ) (n r : ℕ) (l : List Frame) (u : List ℕ) → From e 2 tag i → TabAt t i s k
      → process_at t s k ≡ a.id
      → Requested book cs (step t b e n r l u) a
  unfolding event party_of id_of
  requested b e n r l u f w p = record { by_tab = f.head.party=; same = rw f.id (same _ w p) }

  pub returned : {i s k m : ℕ} (b e : List ℕ) (n r : ℕ) (l : List Frame) (u x : List ℕ) → From e 3 1 m → TabAt t i s k
      → process_at t s k ≡ m → waits (view t) s k Cookie ≡ true
      → Returned book cs (step t b e n r l u) (cookie i x)
  unfolding event party_of id_of
  returned {s = s} {k = k} {m = m} b e n r l u x f a p y =
      record {
        by_process = f.head.party=;
        same = rw f.id (same m a p);
        asked = ap (pending 5 3 7 cs) (sym a.id) ∙ sym (history_cookie h s k a.there) ∙ y;
      }
