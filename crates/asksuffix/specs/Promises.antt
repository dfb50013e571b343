-- What is promised of the program, each promise with a sentence above it. Assumes nothing.
use Rattle.std.specs.Prelude.{ℕ, ◌≤◌, ◌<◌, ◌≡◌, true, false, List, [], ◌∷◌, ◌++◌, length}
use Rattle.std.proofs.Common.{sym, ap, ◌∙◌, true≢false, append-nil, arith}
use Rattle.terms.specs.Base.{Bytes}
use Rattle.terms.specs.Names.{sound_book}
use Rattle.terms.specs.Laws.Bools.{fails}
use Rattle.logs.specs.Log.{joined}
use Rattle.logs.specs.Laws.Books.{no_book}
use Rattle.reader.specs.Held.{held}
use Rattle.asksuffix.specs.Rule.Hosts.{host_whole, hosts, laid_hosts}
use Rattle.asksuffix.specs.Rule.Answers.{most_text, answer_line, answer_lines, answers}
use Rattle.asksuffix.specs.Turn.{AskBuffers, HostAnswered, Turn, answered, stopped, read}
use Rattle.asksuffix.specs.Turns.{AskTurns, AskRun}
use Rattle.asksuffix.specs.Laws.Hosts.{hosts_cut}
use Rattle.asksuffix.specs.Laws.Laid.{hosts_before, hosts_all, laid_again}
use Rattle.asksuffix.specs.Rule.Hosts.{HostsLaid}
use Rattle.asksuffix.specs.Laws.Line.{length_line, line_unsound}
use Rattle.asksuffix.specs.Laws.Answers.{turns_answers, run_answers}
use Rattle.asksuffix.specs.Laws.Runs.{goes_all, runs_sized}
use Rattle.asksuffix.specs.Streams.{BroughtEach, SizedEach, AskGoes, AskRuns}
use Rattle.reader.specs.declared.place.Place.{Place}

-- ---- a run

-- Whether or not they came to the end, what turns said, and then the answers to what is held and to whatever z is still to come,
-- are the answers to what they read and to z.
pub turns_say : {b buf o : List ℕ} {cs : List (List ℕ)} {x buf' o' : List ℕ} {p' : Place} → AskTurns b buf o cs x buf' o' p'
    → (z : List ℕ) → x ++ answers b (held buf' p' ++ z) ≡ answers b (joined cs ++ z)
turns_say r z = turns_answers r z

-- All that a run says, turn by turn, are the answers to the hosts of all that its reads brought, in whatever chunks.
pub program_answers : {b buf o : List ℕ} {cs : List (List ℕ)} {x : List ℕ} → AskRun b buf o cs x → x ≡ answers b (joined cs)
program_answers r = run_answers r.turns r.done

-- Every stream of bytes, however it is cut, has a run: to its end, or up to a chunk that no read can bring, since the buffer has no
-- room for it beside what is held;
pub runs_go : {b buf o : List ℕ} → AskBuffers buf o → (cs : List (List ℕ)) → BroughtEach cs → AskGoes b buf o cs
runs_go ample cs some = goes_all ample cs some

-- and one to its end where no chunk has more bytes than the buffer has beside the 65,536 of a host that may be held in part.
pub runs_exist : {b buf o : List ℕ} → AskBuffers buf o → (cs : List (List ℕ)) → SizedEach buf cs → AskRuns b buf o cs
runs_exist ample cs sized = runs_sized ample cs sized

-- ---- a turn

-- Where a whole host is held a turn answers it, whether or not more has come: its line does not wait for the next host.
pub turn_answers : {buf b o : List ℕ} {p : Place} {buf' o' : List ℕ} {p' : Place} → Turn buf b o p buf' o' p'
    → host_whole (held buf p) ≡ true → HostAnswered buf b o p buf' o' p'
turn_answers (answered w) h = w
turn_answers (stopped w) h = absurd (true≢false (sym h ∙ w.cut))
turn_answers (read w) h = absurd (true≢false (sym h ∙ w.cut))

-- two outcomes that are equal
pub record Same (buf₁ o₁ : List ℕ) (p₁ : Place) (buf₂ o₂ : List ℕ) (p₂ : Place) : Type 0 where
  pub buffer : buf₁ ≡ buf₂
  pub room : o₁ ≡ o₂
  pub place : p₁ ≡ p₂

-- Any two outcomes of a turn that does not read are equal.
pub turn_once : {buf b o : List ℕ} {p : Place} {buf₁ o₁ : List ℕ} {p₁ : Place} {buf₂ o₂ : List ℕ} {p₂ : Place}
    → (p.ended ≡ false → host_whole (held buf p) ≡ true) → Turn buf b o p buf₁ o₁ p₁ → Turn buf b o p buf₂ o₂ p₂
    → Same buf₁ o₁ p₁ buf₂ o₂ p₂
turn_once k (answered w) t =
    let v = turn_answers t w.whole in
    record {
      buffer = w.same ∙ sym v.same;
      room = w.gave.text ∙ sym v.gave.text;
      place = w.gave.moved ∙ sym v.gave.moved;
    }
turn_once k (stopped w) (answered v) = absurd (true≢false (sym v.whole ∙ w.cut))
turn_once k (stopped w) (stopped v) =
    record {
      buffer = w.same ∙ sym v.same;
      room = w.room ∙ sym v.room;
      place = w.moved ∙ sym v.moved;
    }
turn_once k (stopped w) (read v) = absurd (true≢false (sym w.off ∙ v.on))
turn_once k (read w) t = absurd (true≢false (sym (k w.on) ∙ w.cut))

-- ---- the hosts of a stream

-- Hosts that are laid end to end, each behind its length, are read as just those,
pub hosts_read : (l : List (List ℕ)) → hosts (laid_hosts l) ≡ l
hosts_read l = hosts_all l

-- and what comes behind them as it would be without them.
pub hosts_first : (l : List (List ℕ)) (z : List ℕ) → hosts (laid_hosts l ++ z) ≡ l ++ hosts z
hosts_first l z = hosts_before l z

-- The hosts of a stream of bytes, laid end to end again, are the stream up to where its end cuts one short: none is passed over.
pub hosts_laid : (s : List ℕ) → Bytes s → HostsLaid s (hosts s)
hosts_laid s k = laid_again s k

-- A host that the end of the stream cuts short is not answered, and those before it are.
pub cut_short : (b : List ℕ) (l : List (List ℕ)) (z : List ℕ) → host_whole z ≡ false
    → answers b (laid_hosts l ++ z) ≡ answer_lines b l
unfolding answers
cut_short b l z h =
    ap (answer_lines b)
    (hosts_before l z ∙ ap (λ (m : List (List ℕ)). l ++ m) (hosts_cut z h) ∙ append-nil l)

-- ---- the line

-- A line has 131 bytes at most.
pub line_short : (b h : List ℕ) → length (answer_line b h) ≤ most_text
line_short b h = length_line b h

-- Under an unsound book every host is answered `6 -`.
pub unsound_book : (b h : List ℕ) → sound_book b ≡ false → answer_line b h ≡ 54 ∷ 32 ∷ 45 ∷ 10 ∷ []
unsound_book b h s = line_unsound b h s

-- So it is under one of more than 32,768 bytes, whatever they are: what the program holds of it, 32,769 bytes, is answered as
-- all of it would be;
pub long_book : (b h : List ℕ) → 32768 < length b → answer_line b h ≡ 54 ∷ 32 ∷ 45 ∷ 10 ∷ []
long_book b h l = line_unsound b h (fails (sound_book b) (no_book b (λ k. omega arith)))

-- and under an empty one, as which a missing book is read.
pub empty_book : (h : List ℕ) → answer_line [] h ≡ 54 ∷ 32 ∷ 45 ∷ 10 ∷ []
empty_book h = line_unsound [] h (fails (sound_book []) (no_book [] (λ k. omega arith)))
