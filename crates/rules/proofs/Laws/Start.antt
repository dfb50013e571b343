-- Every outcome of a start: 0 with a fresh table of a sound book, or 2 or 6 with the table as it was; never an action. Assumes
-- nothing.
use Rattle.std.specs.Prelude.{◌≡◌, refl, true, not, ◌≢◌, ◌⊎◌, ℕ, ◌<◌, length, eqb}
use Rattle.std.proofs.Common.{sym, ◌∙◌, ⊎_elim}
use Rattle.std.proofs.Math.Path.{ap}
use Rattle.std.proofs.Math.Logic.{inl, inr}
use mathlib.Core.List.{List, []}
use native.Mathlib.Omega.{arith}
use borrow.Author.Tests.{eqb-false, not-true, not-false}
use Rattle.terms.specs.Names.{sound_book}
use Rattle.fields.specs.Table.{table_bytes, sound_table, fresh}
use Rattle.fields.specs.Promises as table
use Rattle.rules.specs.Rule.Frame.{Frame, frames}
use Rattle.rules.specs.Rule.Step.{Outcome, refused, start_of, packed, number_in, answer, Started}
use Rattle.rules.proofs.Laws.Cases.{either}

pub record Starts (t b : List ℕ) (x : Outcome) : Type 0 where
  pub number= : (x.number ≡ 0) ⊎ ((x.number ≡ 2) ⊎ (x.number ≡ 6))
  pub quiet : x.actions ≡ []
  pub refusal : x.number ≢ 0 → x.table ≡ t
  pub sound : x.number ≡ 0 → sound_table x.table ≡ true
  pub book : x.number ≡ 0 → sound_book b ≡ true
  pub fresh= : x.number ≡ 0 → x.table ≡ fresh b
  pub long : length t ≡ table_bytes → x.number ≢ 2

module _ (t b : List ℕ) where
  -- refused with a number
  turned : (n : ℕ) → (n ≡ 2) ⊎ (n ≡ 6) → n ≢ 0 → (length t ≡ table_bytes → n ≢ 2) → Starts t b (refused n t)
  unfolding refused
  turned n e h l =
      record {
        number= = inr e;
        quiet = refl;
        refusal = λ _. refl;
        sound = λ z. absurd (h z);
        book = λ z. absurd (h z);
        fresh= = λ z. absurd (h z);
        long = l;
      }

  pub start_starts : Starts t b (start_of t b)
  unfolding start_of
  start_starts =
      either (Starts t b) (not (eqb (length t) table_bytes)) _ _
      (λ h.
      turned 2 (inl refl) (λ z. omega arith)
      (λ l _. eqb-false (length t) table_bytes (not-true (eqb (length t) table_bytes) h) l))
      (λ _. either (Starts t b) (not (sound_book b)) _ _ (λ _. turned 6 (inr refl) (λ z. omega arith) (λ _ z. omega arith))
      (λ h.
      let k = not-false (sound_book b) h in
      record {
        number= = inl refl;
        quiet = refl;
        refusal = λ f. absurd (f refl);
        sound = λ _. table.fresh_is_sound b k;
        book = λ _. k;
        fresh= = λ _. refl;
        long = λ _ z. omega arith;
      }))

  -- the answer is the number alone
  pub start_alone : {t' : List ℕ} {r : ℕ} → Started (start_of t b) t' r → r ≡ (start_of t b).number
  unfolding answer packed frames
  start_alone {t'} {r} w =
      let x = start_of t b in
      let says : r ≡ packed x.number 0 0
      = w.says ∙ ap (λ (l : List Frame). packed x.number (length l) (length (frames l))) start_starts.quiet in
      omega arith

  start_small : (start_of t b).number < 256
  start_small = ⊎_elim (λ e. omega arith) (λ f. ⊎_elim (λ e. omega arith) (λ e. omega arith) f) start_starts.number=

  pub start_reads : {t' : List ℕ} {r : ℕ} → Started (start_of t b) t' r → number_in r ≡ (start_of t b).number
  unfolding number_in
  start_reads w = let a = start_alone w in let s = start_small in omega arith

  -- an accepted start has the number 0, and a refused one leaves the table as it was
  pub start_done : {u : List ℕ} {r : ℕ} → Started (start_of t b) u r → number_in r ≡ 0 → (start_of t b).number ≡ 0
  start_done w z = sym (start_reads w) ∙ z

  pub start_kept : {u : List ℕ} {r : ℕ} → Started (start_of t b) u r → number_in r ≢ 0 → u ≡ t
  start_kept w h = w.table ∙ start_starts.refusal (λ z. h (start_reads w ∙ z))
